-- How a store in a database counts its failures.
use Rattle.std.specs.Prelude.{◌≡◌, ℕ, Result, Err}
use Rattle.ill_store.specs.declared.store.StoreFault.{StoreFault}
use Rattle.ill_store.specs.declared.store.StoreFault.TheVariants.{Failed, TooLarge, OutOfMemory}
use Rattle.ill_store.specs.Store.{one_more}

-- A call with this answer changed the count of failures from `old` to `new`. An answer `Failed` is counted, and no
-- other. No call answers `TooLarge`.
abbrev pub CountsEach : {X : Type 0} → ℕ → Result X StoreFault → ℕ → Type 0
CountsEach old (Err Failed) new = new ≡ one_more old
CountsEach old (Err TooLarge) new = ⊥
CountsEach old answer new = new ≡ old
