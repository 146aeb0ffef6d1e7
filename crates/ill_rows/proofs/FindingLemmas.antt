-- Proves how the case of a text is folded, and how a part of a text is looked for.
use Rattle.std.proofs.Common.{◌≡◌, ℕ, Bool, true, false, ◌||◌, List, [], ◌∷◌, None, ap, refl, sym, subst, ◌∙◌}
use Rattle.std.specs.Prelude.{if◌then◌else◌, filter, chars, encode_utf8_all, nat_eq, IsUtf8}
use Rattle.std.specs.List.{starts_with}
use Rattle.std.specs.Str.{is_utf8}
use Rattle.std.proofs.lemmas.Bool.{false_from_ne_true}
use Rattle.std.proofs.lemmas.Str.{IsUtf8-from_is_utf8, is_utf8-from_IsUtf8}
use Rattle.caseless.specs.Caseless.{default_case_fold}
use Rattle.ill_record.specs.declared.side.Side.{Side}
use Rattle.ill_rows.specs.Finding.{folded, has_part, is_found}

-- Returns `text` with its case folded if `is` is true, else `text` as it is.
abbrev folded_if : List ℕ → Bool → List ℕ
folded_if text is = if is then encode_utf8_all (default_case_fold (chars text)) else text

-- If `text` is UTF-8, `folded` returns it with the case of its characters folded.
pub folded_text : (text : List ℕ) → IsUtf8 text → encode_utf8_all (default_case_fold (chars text)) ≡ folded text
folded_text text utf8 = sym (ap (folded_if text) (is_utf8-from_IsUtf8 text utf8))

-- If `text` is not UTF-8, `folded` returns it as it is.
pub unfolded_text : (text : List ℕ) → ¬ (IsUtf8 text) → text ≡ folded text
unfolded_text text none =
    sym (ap (folded_if text) (false_from_ne_true (is_utf8 text) (λ yes. none (IsUtf8-from_is_utf8 text yes))))

-- Let `rest` not begin with `part`. Then `part` is within `rest` if, and only if, it is within the bytes after the
-- first.
pub part_after : (part rest after : List ℕ) (byte : ℕ) → rest ≡ byte ∷ after → false ≡ starts_with nat_eq rest part
    → has_part part after ≡ has_part part rest
unfolding has_part
part_after part rest after byte is not =
    sym (ap (has_part part) is
    ∙ ap (λ starts. starts || has_part part after) (ap (λ text. starts_with nat_eq text part) (sym is) ∙ sym not))

-- If `rest` begins with `part` and is not empty, `part` is within it.
pub part_here : (part rest after : List ℕ) (byte : ℕ) → rest ≡ byte ∷ after → true ≡ starts_with nat_eq rest part
    → true ≡ has_part part rest
unfolding has_part
part_here part rest after byte is begins =
    sym (ap (has_part part) is
    ∙ ap (λ starts. starts || has_part part after) (ap (λ text. starts_with nat_eq text part) (sym is) ∙ sym begins))

-- If `rest` is empty, `part` is within it if, and only if, `rest` begins with `part`.
pub part_nowhere : (part rest : List ℕ) → rest ≡ [] → starts_with nat_eq rest part ≡ has_part part rest
unfolding has_part
part_nowhere part rest none =
    subst (λ (text : List ℕ). starts_with nat_eq text part ≡ has_part part text) (sym none) refl

-- If no words are sought, all loans are found.
pub all_found : (notes : List (List ℕ)) (sides : List Side) → filter (is_found None notes) sides ≡ sides
all_found notes [] = refl
all_found notes (side ∷ sides) = ap (λ others. side ∷ others) (all_found notes sides)
