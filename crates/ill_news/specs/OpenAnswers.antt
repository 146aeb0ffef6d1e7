-- Open answers: those that ended a loan and ask staff for something, until the note of the loan says that it is done.
use Rattle.std.specs.Prelude.{ℕ, Bool, true, false, not, ◌&&◌, List, [], ◌∷◌, codes, drop, filter, take, Option, None, Some}
use Rattle.std.specs.Char.{is_ascii_alphanumeric}
use Rattle.std.specs.Str.{str_eq_ignore_ascii_case}
use Rattle.ill_values.specs.Body.{Body}
use Rattle.ill_values.specs.declared.apdu.Apdu.{Apdu}
use Rattle.ill_values.specs.declared.apdu.AnswerResult.{AnswerResult}
use Rattle.ill_values.specs.declared.apdu.AnswerResult.TheVariants.{Estimate, LocationsProvided, Retry}
use Rattle.ill_values.specs.declared.apdu.BodyWith.TheVariants.{IllAnswer}
use Rattle.ill_beside.specs.Notes.{note_of}
use Rattle.ill_news.specs.News.{is_printed}

-- ---- the answer

-- Returns true if an answer with this result ends a loan and asks staff for something: to ask again, or to read a
-- letter.
abbrev pub asks_staff : AnswerResult → Bool
asks_staff Retry = true
asks_staff Estimate = true
asks_staff LocationsProvided = true
asks_staff other = false

-- Returns true if a message is an answer that asks staff for something.
abbrev pub is_asking : Body → Bool
is_asking (IllAnswer result) = asks_staff result
is_asking other = false

-- ---- the note

-- Returns true if a text begins with a letter or a digit. So a word before it goes on.
abbrev pub goes_on : List ℕ → Bool
goes_on [] = false
goes_on (byte ∷ rest) = is_ascii_alphanumeric byte

-- Returns true if a text begins with the word `done`, in small or large letters.
abbrev pub begins_with_done : List ℕ → Bool
begins_with_done text = str_eq_ignore_ascii_case (take 4 text) (codes "done") && not (goes_on (drop 4 text))

-- Returns true if there is a note, and it begins with the word `done`.
abbrev pub says_done : (note : Option (List ℕ)) → Bool
says_done None = false
says_done (Some text) = begins_with_done text

-- ---- what stays news

-- Returns true if a message is an answer that asks staff for something, and the note of its loan does not say `done`.
abbrev pub is_open : (notes : List (List ℕ)) → Apdu → Bool
is_open notes a = is_asking a.body && not (says_done (note_of notes a.txn))

-- Returns true if a message is an open answer, and `news` lack it.
abbrev pub is_left : (notes : List (List ℕ)) → (news : List Apdu) → Apdu → Bool
is_left notes news a = is_open notes a && not (is_printed news a)

-- Returns the open answers in `came` that `news` lack, in their order.
abbrev pub left_open : (notes : List (List ℕ)) → (news came : List Apdu) → List Apdu
left_open notes news came = filter (is_left notes news) came
