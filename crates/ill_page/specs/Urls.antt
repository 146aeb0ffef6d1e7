-- The bytes of the URL of a loan.
use Rattle.std.specs.Prelude.{ℕ, Bool, ◌||◌, ◌==◌, codes}
use Rattle.std.specs.List.{list_any}
use Rattle.form_urlencoded.specs.Form.{is_unchanged}

-- Returns true if the URL of a loan may have this byte: a letter, a digit, or one of `*-._+%?&=`.
abbrev pub is_of_url : ℕ → Bool
is_of_url byte = is_unchanged byte || list_any (λ other. other == byte) (codes "+%?&=")
