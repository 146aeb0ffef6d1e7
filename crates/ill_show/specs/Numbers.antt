-- The numbers that a loan has left for its messages, and the line that tells them.
use Rattle.std.specs.Prelude.{ℕ, ◌-◌, Bool, not, ◌&&◌, nat_eq, nat_le, true, false, List, ◌++◌, filter, length, codes}
use Rattle.std.specs.List.{flat_map}
use Rattle.std.specs.Fmt.{decimal}
use Rattle.ill_values.specs.TxnId.{Qualifiers}
use Rattle.ill_record.specs.declared.side.Side.{Side}
use Rattle.ill_record.specs.Side.{issued_of, txn_of}
use Rattle.ill_words.specs.Sending.{is_over}
use Rattle.ill_text.specs.Escape.{escaped}

-- Returns the count of numbers that the side has left. Its messages have the numbers 1 to 255.
abbrev pub numbers_left : Side → ℕ
numbers_left side = 255 - length (issued_of side)

-- The greatest count of numbers left that is printed.
abbrev pub few_numbers : ℕ
few_numbers = 10

-- Returns true if the numbers left of the loan are printed: it is not over, and has at most `few_numbers` left.
abbrev pub has_few_numbers : Side → Bool
has_few_numbers side = not (is_over side) && nat_le (numbers_left side) few_numbers

-- Returns the words of the line after the count of numbers. The Bool is true if one number is left.
abbrev pub numbers_words : Bool → List ℕ
numbers_words true = codes " number left\n"
numbers_words false = codes " numbers left\n"

-- Returns the text that names a loan: its qualifiers.
abbrev pub loan_named : Qualifiers → List ℕ
loan_named txn = escaped txn.group ++ (codes " " ++ escaped txn.transaction)

-- Returns the line that tells the numbers left of the loan of `side`, at the desk in `path`.
abbrev pub numbers_line : List ℕ → Side → List ℕ
numbers_line path side =
    codes "ill: " ++ (escaped path ++ (codes ": " ++ (loan_named (txn_of side) ++ (codes ": " ++ (decimal (numbers_left side)
    ++ numbers_words (nat_eq (numbers_left side) 1))))))

-- Returns the lines that tell the numbers left of all loans that have few, at the desk in `path`.
abbrev pub numbers_lines : List ℕ → List Side → List ℕ
numbers_lines path sides = flat_map (numbers_line path) (filter has_few_numbers sides)
