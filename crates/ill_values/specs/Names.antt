-- Finds a value by its name.
use Rattle.std.specs.Prelude.{ℕ, List, Option, find, bytes_eq}

-- Returns the first value of `all` whose name is `word`, or `None`. `name_of` returns the name of a value.
abbrev pub named_by : {A : Type 0} → (A → List ℕ) → List A → List ℕ → Option A
named_by name_of all word = find (λ value. bytes_eq (name_of value) word) all
