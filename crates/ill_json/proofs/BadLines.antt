-- Proves that no bad line is an object line, and that broken texts are no JSON.
use Rattle.std.proofs.Common.{◌≡◌, ℕ, true, List, [], ◌∷◌, ◌++◌, Option, Some, None, is_some}
use Rattle.std.proofs.Common.{refl, sym, ap, ◌∙◌, subst, append_assoc, codes}
use Rattle.std.proofs.lemmas.Bool.{true≢false, and_parts}
use Rattle.std.specs.List.{list_all}
use Rattle.json.specs.Json.{object, document}
use Rattle.json.specs.Strict.{HasUniqueKeys}
use Rattle.json.proofs.OnLiterals.{json_on_literals}
use Rattle.ill_values.specs.Text.{is_no_control}
use Rattle.ill_record.specs.Ranges.{Each}
use Rattle.ill_text.specs.ApduObject.{object_line}
use Rattle.ill_text.specs.Json.{Field}
use Rattle.ill_json.specs.BadLines.{IsBadLine, AreBadLines, broken_texts, unended, broken, no_utf8, unread, no_members}
use Rattle.ill_json.specs.BadLines.{other_value, twice}
use Rattle.ill_json.specs.BadLines.{other_text, bad_line}
use Rattle.ill_json.specs.Objects.{AreObjectLines, IsObject, IsObjectLine, members_of}

-- ---- the end of a line

-- Returns the last byte of a text, or `none` if it is empty.
abbrev last_or : ℕ → List ℕ → ℕ
last_or none [] = none
last_or none (x ∷ xs) = last_or x xs

-- The last byte of a text is the byte at its end.
last_is : (none : ℕ) (text : List ℕ) (byte : ℕ) → last_or none (text ++ byte ∷ []) ≡ byte
last_is none [] byte = refl
last_is none (x ∷ xs) byte = last_is x xs byte

-- Returns a text without its last byte.
abbrev without_last : List ℕ → List ℕ
without_last [] = []
without_last (x ∷ []) = []
without_last (x ∷ y ∷ xs) = x ∷ without_last (y ∷ xs)

-- Without the byte at its end a text is what was before this byte.
without_is : (text : List ℕ) (byte : ℕ) → without_last (text ++ byte ∷ []) ≡ text
without_is [] byte = refl
without_is (x ∷ []) byte = refl
without_is (x ∷ y ∷ xs) byte = ap (λ t. x ∷ t) (without_is (y ∷ xs) byte)

-- A line has one text before its line feed.
same_text : (text other : List ℕ) → text ++ codes "\n" ≡ other ++ codes "\n" → text ≡ other
same_text text other same = sym (without_is text 10) ∙ ap without_last same ∙ without_is other 10

-- If a text has a line feed within, not all of its bytes pass the test of `is_no_control`.
control_seen : (first rest : List ℕ) → list_all is_no_control (first ++ 10 ∷ rest) ≡ true → ⊥
control_seen [] rest e = true≢false (sym e)
control_seen (x ∷ first) rest e = control_seen first rest (and_parts _ _ e).1

-- ---- values

-- Returns the value that was found, or `other` if there is none.
abbrev value_or : {A : Type 0} → A → Option A → A
value_or other None = other
value_or other (Some value) = value

-- If `x` is what was found, and `y` is, both are equal.
one_found : {A : Type 0} (found : Option A) (x y : A) → found ≡ Some x → found ≡ Some y → x ≡ y
one_found found x y is same = ap (value_or x) (sym is ∙ same)

-- The text before the line feed of an object line is an object.
found_in : (line text : List ℕ) (fields : List Field) → line ≡ text ++ codes "\n" → IsObjectLine line fields
    → IsObject text fields
found_in line text fields is it =
    subst (λ t. IsObject t fields) (same_text it.text text (sym it.ended ∙ is)) it.object

-- ---- the laws

-- No bad line is an object line.
pub not_a_line : (line : List ℕ) (fields : List Field) → IsBadLine line fields → IsObjectLine line fields → ⊥
not_a_line line fields (unended text byte is other) it =
    other (sym (last_is 0 text byte) ∙ ap (last_or 0) (sym is ∙ it.ended) ∙ last_is 0 it.text 10)
not_a_line line fields (broken first rest is) line_is =
    let at_end : line ≡ (first ++ 10 ∷ rest) ++ codes "\n" = is ∙ sym (append_assoc first (10 ∷ rest) (codes "\n")) in
    control_seen first rest (found_in line (first ++ 10 ∷ rest) fields at_end line_is).seen
not_a_line line fields (no_utf8 text is not) line_is = not (found_in line text fields is line_is).utf8
not_a_line line fields (unread text is none) line_is =
    true≢false (ap is_some (sym (found_in line text fields is line_is).read ∙ none))
not_a_line line fields (no_members none) it = true≢false (ap is_some (sym it.object.are ∙ none))
not_a_line line fields (other_value text members is are not) line_is =
    let it = found_in line text fields is line_is in
    not (it.read ∙ ap (λ ms. Some (object ms)) (one_found (members_of fields) it.members members it.are are))
not_a_line line fields (twice members are not) it =
    not (subst (λ ms. HasUniqueKeys (object ms))
    (one_found (members_of fields) it.object.members members it.object.are are) it.object.unique)

-- If `P` is true of each item of a list, it is true of an item within.
each_within : {X : Type 0} (P : X → Type 0) (before after : List X) (x : X) → Each P (before ++ x ∷ after) → P x
unfolding Each
each_within P [] after x each = each.0
each_within P (y ∷ before) after x each = each_within P before after x each.1

-- No bad lines are object lines.
pub not_lines : (text : List ℕ) (lines : List (List Field)) → AreBadLines text lines → AreObjectLines text lines → ⊥
not_lines text lines (other_text not) are = not are.whole
not_lines text lines (bad_line before after fields is bad) are =
    not_a_line (object_line fields) fields bad
    (each_within (λ fs. IsObjectLine (object_line fs) fs) before after fields
    (subst (λ ls. Each (λ fs. IsObjectLine (object_line fs) fs) ls) is are.each))

-- The broken texts are no JSON.
pub broken_are_none : Each (λ text. document text ≡ None) broken_texts
unfolding Each json_on_literals
broken_are_none = (refl, (refl, (refl, (refl, (refl, (refl, (refl, (refl, (refl, (refl, tt))))))))))
