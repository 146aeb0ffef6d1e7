-- Compares a number with one that may be absent. Each comparison with an absent number is false.
use Rattle.std.specs.Prelude.{ℕ, Bool, true, false, not, ◌&&◌, ◌==◌, nat_lt, nat_le, List, [], ◌∷◌, Option, Some, None}
use Rattle.std.specs.List.{list_any}

-- Returns true if the second argument is a number, and `n` equals it.
abbrev pub is_equal_number : ℕ → Option ℕ → Bool
is_equal_number n None = false
is_equal_number n (Some m) = n == m

-- Returns true if the second argument is a number, and `n` is at most it.
abbrev pub is_at_most : ℕ → Option ℕ → Bool
is_at_most n None = false
is_at_most n (Some m) = nat_le n m

-- Returns true if the second argument is a number, and `n` is below it.
abbrev pub is_below : ℕ → Option ℕ → Bool
is_below n None = false
is_below n (Some m) = nat_lt n m

-- Returns true if no number occurs twice in the list.
unfoldable pub are_distinct : List ℕ → Bool
are_distinct [] = true
are_distinct (n ∷ ns) = not (list_any (λ m. m == n) ns) && are_distinct ns
