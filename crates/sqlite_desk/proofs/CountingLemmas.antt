-- Proves that a store whose calls satisfy `CountsEach` satisfies the contract of each store on its count of failures.
use Rattle.std.proofs.Common.{arith, ◌≡◌, ℕ, ◌≤◌, Result, Ok, Err}
use Rattle.ill_store.specs.declared.store.StoreFault.{StoreFault}
use Rattle.ill_store.specs.declared.store.StoreFault.TheVariants.{Failed, TooLarge, OutOfMemory}
use Rattle.ill_store.specs.Store.{HasRisen, CountsFailure, IsNotTooLarge, one_more}
use Rattle.sqlite_desk.specs.Counting.{CountsEach}

-- If `new` is `one_more` than `old`, it is not below `old`. It is above `old`, or at the maximum.
counted : (old new : ℕ) → new ≡ one_more old → (old ≤ new) × HasRisen old new
counted old new e = grind arith

-- If a call with this `answer` satisfies `CountsEach`, it satisfies `CountsFailure`, as the contract of each store
-- asks.
pub counts : {X : Type 0} (old new : ℕ) (answer : Result X StoreFault) → CountsEach old answer new → CountsFailure answer old new
counts old new (Ok done) same = (omega arith, tt)
counts old new (Err Failed) risen = counted old new risen
counts old new (Err TooLarge) never = absurd never
counts old new (Err OutOfMemory) same = (omega arith, tt)

-- If a save with this `answer` satisfies `CountsEach`, the answer is not `TooLarge`.
pub not_too_large : (old new : ℕ) (answer : Result (Unit {0}) StoreFault) → CountsEach old answer new → IsNotTooLarge answer
not_too_large old new (Ok done) same = tt
not_too_large old new (Err Failed) risen = tt
not_too_large old new (Err TooLarge) never = never
not_too_large old new (Err OutOfMemory) same = tt
