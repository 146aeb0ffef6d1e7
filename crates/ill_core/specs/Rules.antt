-- Defines the two forms of a rule of a record: an implication, and the equality of two tests.
use Rattle.std.specs.Prelude.{Bool, true, false, not, ◌||◌}

-- Returns true if `b` holds whenever `a` does.
abbrev pub implies : Bool → Bool → Bool
implies a b = not a || b

-- Returns true if `a` and `b` are equal.
abbrev pub are_alike : Bool → Bool → Bool
are_alike a true = a
are_alike a false = not a
