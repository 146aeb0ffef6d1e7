-- Proves which lines of a diary tell the day of a message.
use Rattle.std.proofs.Common.{◌≡◌, ℕ, Bool, true, false, List, [], ◌∷◌, ◌++◌, Option, Some, None, map, refl, sym, ap, subst, ◌∙◌}
use Rattle.std.specs.Prelude.{cond, bytes_eq, filter, fold, if◌then◌else◌, ◌||◌}
use Rattle.std.specs.List.{list_any}
use Rattle.std.proofs.lemmas.Slice.Eq.{bytes_eq-Decides}
use Rattle.std.proofs.lemmas.List.Sums.{fold-append}
use Rattle.ill_values.specs.Day.{Date}
use Rattle.ill_values.specs.declared.apdu.Apdu.{Apdu}
use Rattle.ill_record.specs.declared.side.Side.{Side}
use Rattle.ill_record.specs.Side.{issued_of}
use Rattle.ill_beside.specs.Diary.{Named, issued_named, messages_of, request_taken, taken_named}
use Rattle.ill_beside.specs.Heard.{is_heard}
use Rattle.ill_figures.specs.declared.loan_figures.Dated.{Dated}
use Rattle.ill_figures.specs.LoanFigures.{Mentioned, dated, dated_of, day_said}

-- Returns the day of a message after one more line, by the day before it.
abbrev with_line : (key : List ℕ) → Option Date → Mentioned → Option Date
with_line key found line = if bytes_eq line.key key then Some line.day else found

-- After one more `line`, the day of the message with this `key` is the one that `with_line` returns.
day_after_line : (key : List ℕ) (said : List Mentioned) (line : Mentioned)
    → day_said key (said ++ line ∷ []) ≡ with_line key (day_said key said) line
day_after_line key said line = fold-append (with_line key) None said (line ∷ [])

-- The last line that names a message tells its day.
pub last_tells : (said : List Mentioned) (line : Mentioned) → day_said line.key (said ++ line ∷ []) ≡ Some line.day
last_tells said line =
    day_after_line line.key said line
    ∙ ap (λ (names : Bool). if names then Some line.day else day_said line.key said)
    ((bytes_eq-Decides line.key line.key).1 refl)

-- A line that names another message changes no day.
other_stays : (key : List ℕ) (said : List Mentioned) (line : Mentioned) → bytes_eq line.key key ≡ false
    → day_said key (said ++ line ∷ []) ≡ day_said key said
other_stays key said line is =
    day_after_line key said line ∙ ap (λ (names : Bool). if names then Some line.day else day_said key said) is

-- If neither of two tests passes, the first fails.
first_fails : (a b : Bool) → (a || b) ≡ false → a ≡ false
first_fails false b is = refl
first_fails true b is = is

-- If neither of two tests passes, the second fails.
second_fails : (a b : Bool) → (a || b) ≡ false → b ≡ false
second_fails false b is = is
second_fails true false is = refl
second_fails true true is = is

-- If two tests fail, neither passes.
both_fail : (a : Bool) {b : Bool} → a ≡ false → b ≡ false → (a || b) ≡ false
both_fail false is also = also
both_fail true is also = is

-- `named_as` gives a message as lines name it: by its verb if it was issued, else by its type.
module _ (said : List Mentioned) (line : Mentioned) (named_as : Apdu → Named) where
  -- Returns true if the line names a message.
  abbrev names : Named → Bool
  names message = bytes_eq line.key message.key

  -- Returns a message with its day, by these lines.
  abbrev with_day : List Mentioned → Apdu → Dated
  with_day lines a = dated lines (named_as a) a.body

  -- If the line names none of the messages, it changes none of their days. `here` says it of the first message, and
  -- `there` of the others.
  pub none_changes : (apdus : List Apdu) → list_any names (map named_as apdus) ≡ false
      → map (with_day (said ++ line ∷ [])) apdus ≡ map (with_day said) apdus
  none_changes [] is = refl
  none_changes (a ∷ apdus) is =
      let here = other_stays (named_as a).key said line (first_fails (names (named_as a)) _ is) in
      let there = none_changes apdus (second_fails (names (named_as a)) _ is) in
      cc

-- If no item of `xs ++ ys` passes `test`, none of `xs` does.
none_of_first : {X : Type 0} (test : X → Bool) (xs ys : List X) → list_any test (xs ++ ys) ≡ false → list_any test xs ≡ false
none_of_first test [] ys is = refl
none_of_first test (x ∷ xs) ys is =
    both_fail (test x) (first_fails (test x) _ is) (none_of_first test xs ys (second_fails (test x) _ is))

-- If no item of `xs ++ ys` passes `test`, none of `ys` does.
none_of_second : {X : Type 0} (test : X → Bool) (xs ys : List X) → list_any test (xs ++ ys) ≡ false → list_any test ys ≡ false
none_of_second test [] ys is = is
none_of_second test (x ∷ xs) ys is = none_of_second test xs ys (second_fails (test x) _ is)

-- If a record has no message that a line names, the line changes no day of its messages.
pub no_message_no_day : (said : List Mentioned) (line : Mentioned) (side : Side) (kept : List Apdu)
    → list_any (λ message. bytes_eq line.key message.key) (messages_of side kept) ≡ false
    → dated_of (said ++ line ∷ []) side kept ≡ dated_of said side kept
no_message_no_day said line side kept is =
    let test : Named → Bool = λ message. bytes_eq line.key message.key in
    let taken = request_taken side ++ filter (is_heard side) kept in
    let first = none_of_first test (map issued_named (issued_of side)) (map taken_named taken) is in
    let second = none_of_second test (map issued_named (issued_of side)) (map taken_named taken) is in
    let issued = none_changes said line issued_named (issued_of side) first in
    let heard = none_changes said line taken_named taken second in
    cc
