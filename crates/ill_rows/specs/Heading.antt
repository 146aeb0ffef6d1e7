-- The text before the loans of a desk, its path in objects, and the lines that warn of a desk.
use Rattle.std.specs.Prelude.{ℕ, Bool, true, false, nat_eq, List, [], ◌∷◌, ◌++◌, Option, None, Some, codes}
use Rattle.std.specs.Fmt.{decimal}
use Rattle.ill_text.specs.declared.form.Form.{Form}
use Rattle.ill_text.specs.declared.form.Form.TheVariants.{Lines, Json}
use Rattle.ill_text.specs.Escape.{escaped}
use Rattle.ill_text.specs.Json.{Field, quoted}

-- Returns the empty line before a desk. If the Bool is true, the desk is the first one, and nothing is returned.
abbrev pub gap : Bool → List ℕ
gap true = []
gap false = codes "\n"

-- Returns the line with the path of a desk, if the Bool is true: several desks are listed.
abbrev pub heading : Bool → List ℕ → List ℕ
heading false path = []
heading true path = escaped path ++ codes ":\n"

-- Returns the text before a desk. In lines it is an empty line if another desk is before it. In objects it is
-- nothing.
abbrev pub between : Form → Bool → List ℕ
between Lines is_first = gap is_first
between Json is_first = []

-- Returns the path of a desk, if the Bool is true: several desks are listed.
abbrev pub file_printed : Bool → List ℕ → Option (List ℕ)
file_printed false path = None
file_printed true path = Some path

-- Returns the field of the path of a desk, if there is a path.
abbrev pub file_fields : Option (List ℕ) → List Field
file_fields None = []
file_fields (Some path) = (codes "file", quoted path) ∷ []

-- Returns the line that warns that the desk in `path` has room for `room` more loans.
abbrev pub room_line : List ℕ → ℕ → List ℕ
room_line path room =
    codes "ill: " ++ escaped path ++ (codes " has room for " ++ (decimal room ++ codes " more loans\n"))

-- Returns the words of the line that tells what a list leaves out, after the number of loans. The Bool is true if it
-- is one loan.
abbrev pub left_out_words : Bool → List ℕ
left_out_words true = codes " more loan may want a hand by its date: give --today DAY\n"
left_out_words false = codes " more loans may want a hand by their dates: give --today DAY\n"

-- Returns the line that says that a list without a day leaves out `count` loans of the desk in `path`.
abbrev pub left_out_line : List ℕ → ℕ → List ℕ
left_out_line path count =
    codes "ill: " ++ escaped path ++ (codes ": " ++ (decimal count ++ left_out_words (nat_eq count 1)))
