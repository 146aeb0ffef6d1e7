-- A copy of all sides of a desk, in another store (this profile's own).
use Rattle.std.specs.Prelude.{◌≡◌, ◌⊎◌, ℕ, List, Option, Some, option_map, Result, Ok, Err}
use Rattle.ill_saved.specs.declared.fault.DeskFault.TheVariants as desks
use Rattle.ill_store.specs.declared.store.StoreFault.TheVariants.{Failed}
use Rattle.ill_text.specs.declared.fault.ToolFault.{ToolFault}
use Rattle.ill_text.specs.declared.fault.ToolFault.TheVariants.{Desk, OutOfMemory}

-- Returns the content of a store after `bytes` are committed, if that content is known.
abbrev pub commits : List ℕ → Option (Option (List ℕ)) → Option (Option (List ℕ))
commits bytes old = option_map (λ _. Some bytes) old

-- A copy of `bytes` leads from the content `old` of a store to `new`, if these are known. If the copy failed, the
-- store has the old content or `bytes`. If memory ran out, it has the old content. No other fault is possible.
abbrev pub Copies : List ℕ → Option (Option (List ℕ)) → Result (Unit {0}) ToolFault → Option (Option (List ℕ)) → Type 0
Copies bytes old (Ok done) new = new ≡ commits bytes old
Copies bytes old (Err (Desk (desks.Store Failed))) new = (new ≡ old) ⊎ (new ≡ commits bytes old)
Copies bytes old (Err OutOfMemory) new = new ≡ old
Copies bytes old (Err other) new = ⊥
