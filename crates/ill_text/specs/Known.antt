-- The content of a store, as far as a contract knows it.
use Rattle.std.specs.Prelude.{ℕ, Bool, true, false, List, Option, None, Some}
use Rattle.ill_store.specs.Store.{StoreState}

-- Returns `Some committed`, the content of a store, if the Bool is true, and None if it is false. The Bool is true if
-- the store is correct.
abbrev pub known_if : Bool → Option (List ℕ) → Option (Option (List ℕ))
known_if true committed = Some committed
known_if false committed = None

-- Returns the content of a store if the store is correct, and None if not.
abbrev pub known : StoreState → Option (Option (List ℕ))
known store = known_if store.is_correct store.committed
