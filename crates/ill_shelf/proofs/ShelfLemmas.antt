-- Proves how a shelf reads an input, and which faults a command with a key has.
use Rattle.std.proofs.Common.{inl, inr, refl, ℕ, List, Option, Result, Err}
use Rattle.ill_store.specs.Store.{StoreState}
use Rattle.ill_text.specs.declared.fault.ToolFault.{ToolFault}
use Rattle.ill_text.specs.Fault.{IsOpenFault}
use Rattle.ill_text.specs.Input.{ReadsInput}
use Rattle.ill_text.specs.Visits.{Stop}
use Rattle.ill_text.proofs.InputLemmas.{reads_on_views}
use Rattle.ill_key.specs.KeyCommand.{IsKeyFault}
use Rattle.ill_shelf.specs.Shelf.{OpensShelf, ShelfTaking, TakesAtHome}

-- Let each APDU of an input lead from view to view of the states by `TakesAtHome`. Then `TakesAtHome` reads the input
-- from `view before` to `view after`.
pub taken_home : {S T : Type 0} (state : T → StoreState) (view : S → ShelfTaking) (left rest : Option (List ℕ))
    (before after : S) (count : Result ℕ ToolFault)
    → ReadsInput (λ (s : S) apdu r (t : S). TakesAtHome state (view s) apdu r (view t)) left rest before count after
    → ReadsInput (TakesAtHome state) left rest (view before) count (view after)
taken_home state view left rest before after count is =
    reads_on_views (λ s apdu r t. TakesAtHome state (view s) apdu r (view t)) (TakesAtHome state) view (λ s t apdu r h. h) left
    rest before after count is

-- If a shelf is not opened because of `fault`, and nothing was written, `OpensShelf` allows that fault.
pub not_opened : (folder : List ℕ) (Visits : Stop → Type 0) (written : Option (List ℕ)) (fault : ToolFault) → IsOpenFault fault
    → OpensShelf folder Visits written written (Err fault)
not_opened folder Visits written fault opens = inl (inr opens, refl)

-- If no key can be used because of `fault`, and nothing was written, `OpensShelf` allows that fault.
pub no_key : (folder : List ℕ) (Visits : Stop → Type 0) (written : Option (List ℕ)) (fault : ToolFault) → IsKeyFault fault
    → OpensShelf folder Visits written written (Err fault)
no_key folder Visits written fault is_key = inl (is_key, refl)
