-- Proves that a code can be read back, and how wide it is.
use Rattle.std.proofs.Common.{◌≡◌, ℕ, ◌+◌, ◌*◌, ◌%◌, ◌<◌, zero, suc, Bool, true, false, ◌==◌, nat_lt, List, [], ◌∷◌}
use Rattle.std.proofs.Common.{◌++◌}
use Rattle.std.proofs.Common.{map, length, Option, Some, None, refl, ap, sym, subst, ◌∙◌, rules, arith, inl, inr}
use Rattle.std.proofs.Common.{append_assoc}
use Rattle.std.proofs.Math.Bool.{and-false}
use Rattle.std.proofs.Math.Nat.{mod-lt, sub-add_cancel}
use Rattle.std.proofs.lemmas.Bool.{and_parts, cases_order, eq-eqb, eqb-true, leb-true, lt-ltb, ltb-true}
use Rattle.std.proofs.lemmas.List.{length-append, length-map}
use Rattle.std.proofs.lemmas.List.Sums.{sum_by-append}
use Rattle.std.specs.Prelude.{◌&&◌, sum, option_and_then, if◌then◌else◌}
use Rattle.std.specs.Option.{option_map, option_map_or}
use Rattle.std.specs.List.{flat_map, list_all}
use Rattle.std.specs.Str.{bytes_eq}
use Rattle.ill_slip.specs.Code128.{check, decoded, encoded, is_character, start, stop, symbol, text_in, text_of}
use Rattle.ill_slip.specs.Code128.{value_of, value_with, values, values_in, weighted}

-- ---- each symbol of the table is read and wide

-- Returns true if each number below `n` passes `test`.
abbrev all_below : (ℕ → Bool) → ℕ → Bool
all_below test zero = true
all_below test (suc n) = test n && all_below test n

-- If each number below `n` passes a test, `value` below `n` passes it.
below_passes : (test : ℕ → Bool) (n value : ℕ) → all_below test n ≡ true → value < n → test value ≡ true
below_passes test zero value all small = absurd (omega (arith, small))
below_passes test (suc n) value all small =
    elim (cases_order value n) [
      | inl same ↦ subst (λ (m : ℕ). test m ≡ true) (sym same) (and_parts _ _ all).0
      | inr (inl less) ↦ below_passes test n value (and_parts _ _ all).1 less
      | inr (inr more) ↦ absurd (omega (arith, small, more))
    ]

-- Returns true if the symbol of a value is read as that value.
abbrev is_read : ℕ → Bool
is_read value = option_map_or (λ found. found == value) (value_with (symbol value)) false

-- Returns true if the symbol of a value has eleven modules.
abbrev is_wide : ℕ → Bool
is_wide value = sum (symbol value) == 11

-- The symbol of each value below 107 is read as that value.
all_are_read : all_below is_read 107 ≡ true
all_are_read = refl

-- The symbol of each value below 107 has eleven modules.
all_are_wide : all_below is_wide 107 ≡ true
all_are_wide = refl

-- ---- values are read from the widths of their symbols

-- If a value is `found` and equals `value`, `found` is `Some value`.
found_is : (found : Option ℕ) (value : ℕ) → option_map_or (λ one. one == value) found false ≡ true → found ≡ Some value
found_is None value is = search (rules, is)
found_is (Some one) value is = ap Some (eqb-true one value is)

-- If `value` is below 107, `value_with` finds it by the widths of its symbol.
value_is_found : (value : ℕ) → nat_lt value 107 ≡ true → value_with (symbol value) ≡ Some value
value_is_found value small =
    found_is (value_with (symbol value)) value (below_passes is_read 107 value all_are_read (ltb-true value 107 small))

-- Returns true if each of `values` has a symbol.
abbrev have_symbols : List ℕ → Bool
have_symbols values = list_all (λ value. nat_lt value 107) values

-- If each of `values` has a symbol, `values_in` reads them back from these symbols and a last bar.
values_are_read : (values : List ℕ) → have_symbols values ≡ true → values_in (flat_map symbol values ++ 2 ∷ []) ≡ Some values
values_are_read [] have = refl
values_are_read (value ∷ rest) have =
    let reads : values_in (flat_map symbol (value ∷ rest) ++ 2 ∷ [])
    ≡ option_and_then (λ first. option_map (λ others. first ∷ others) (values_in (flat_map symbol rest ++ 2 ∷ [])))
    (value_with (symbol value)) = refl in
    reads
    ∙ ap (λ (found : Option ℕ). option_and_then (λ first. option_map (λ others. first ∷ others)
    (values_in (flat_map symbol rest ++ 2 ∷ []))) found) (value_is_found value (and_parts _ _ have).0)
    ∙ ap (λ (found : Option (List ℕ)). option_map (λ others. value ∷ others) found) (values_are_read rest (and_parts _ _ have).1)

-- ---- a text is read from the values of its code

-- The values of `text`, `last` and the stop are not the stop alone.
no_stop_alone : (text : List ℕ) (last : ℕ) → bytes_eq (map value_of text ++ last ∷ stop ∷ []) (stop ∷ []) ≡ false
no_stop_alone [] last = and-false (last == stop)
no_stop_alone (one ∷ []) last = and-false (value_of one == stop)
no_stop_alone (one ∷ two ∷ text) last = and-false (value_of one == stop)

-- Let code set B have each character of `text`. Then `text_in` reads it back from its values, a check value and the
-- stop. `total` is the sum of the values before it, and `place` the position of its first character. `one` is the
-- value of that character, and `rest` what is read of the others.
text_is_read : (total place : ℕ) (text : List ℕ) → list_all is_character text ≡ true
    → text_in total place (map value_of text ++ ((total + weighted place text) % 103) ∷ stop ∷ []) ≡ Some text
text_is_read total place [] are =
    let none : total + 0 ≡ total = omega arith in
    ap (λ (same : Bool). if same then Some [] else None)
    (eq-eqb ((total + 0) % 103) (total % 103) (ap (λ (t : ℕ). t % 103) none))
text_is_read total place (character ∷ text) are =
    let one = value_of character in
    let last = (total + weighted place (character ∷ text)) % 103 in
    let rest = text_in (total + place * one) (suc place) (map value_of text ++ last ∷ stop ∷ []) in
    let from = leb-true 32 character (and_parts _ _ (and_parts _ _ are).0).0 in
    let to = leb-true character 126 (and_parts _ _ (and_parts _ _ are).0).1 in
    let below : one < 95 = omega (arith, from, to) in
    let small : nat_lt one 95 ≡ true = lt-ltb one 95 below in
    let same : one + 32 ≡ character = sub-add_cancel from in
    let sums : total + weighted place (character ∷ text) ≡ total + place * one + weighted (suc place) text = grind arith in
    let found : rest ≡ Some text =
    ap (λ (s : ℕ). text_in (total + place * one) (suc place) (map value_of text ++ s % 103 ∷ stop ∷ [])) sums
    ∙ text_is_read (total + place * one) (suc place) text (and_parts _ _ are).1 in
    ap (λ (ends : Bool). if ends then (if one == total % 103 then Some [] else None)
    else (if nat_lt one 95 then option_map (λ text. (one + 32) ∷ text) rest else None)) (no_stop_alone text last)
    ∙ ap (λ (is : Bool). if is then option_map (λ text. (one + 32) ∷ text) rest else None) small
    ∙ ap (λ (found : Option (List ℕ)). option_map (λ text. (one + 32) ∷ text) found) found
    ∙ ap (λ (c : ℕ). Some (c ∷ text)) same

-- Let code set B have each character of `text`, and let the values `rest` have symbols. Then all values of `text` and
-- `rest` have symbols.
text_has_symbols : (text rest : List ℕ) → list_all is_character text ≡ true → have_symbols rest ≡ true
    → have_symbols (map value_of text ++ rest) ≡ true
text_has_symbols [] rest are have = have
text_has_symbols (character ∷ text) rest are have =
    let to = leb-true character 126 (and_parts _ _ (and_parts _ _ are).0).1 in
    let small : value_of character < 107 = omega (arith, to) in
    ap (λ (is : Bool). is && have_symbols (map value_of text ++ rest)) (lt-ltb (value_of character) 107 small)
    ∙ text_has_symbols text rest (and_parts _ _ are).1 have

-- The check value of a text has a symbol, and so have all values of its code.
values_have_symbols : (text : List ℕ) → list_all is_character text ≡ true → have_symbols (values text) ≡ true
values_have_symbols text are =
    let below : check text < 103 = mod-lt (start + weighted 1 text) (omega arith) in
    let small : check text < 107 = omega (arith, below) in
    text_has_symbols text (check text ∷ stop ∷ []) are
    (ap (λ (is : Bool). is && have_symbols (stop ∷ [])) (lt-ltb (check text) 107 small))

-- If code set B has each character of `text`, a reader finds `text` in its code.
pub code_is_read : (text : List ℕ) → list_all is_character text ≡ true → decoded (encoded text) ≡ Some text
unfolding encoded
code_is_read text are =
    ap (λ (found : Option (List ℕ)). option_and_then text_of found) (values_are_read (values text) (values_have_symbols text are))
    ∙ text_is_read start 1 text are

-- ---- the width of a code

-- If each of `values` has a symbol, their symbols have eleven modules each, and the last bar has two.
symbols_are_wide : (values : List ℕ) → have_symbols values ≡ true
    → sum (flat_map symbol values ++ 2 ∷ []) ≡ 11 * length values + 2
symbols_are_wide [] have = refl
symbols_are_wide (value ∷ rest) have =
    let one : sum (symbol value) ≡ 11 =
    eqb-true (sum (symbol value)) 11 (below_passes is_wide 107 value all_are_wide (ltb-true value 107 (and_parts _ _ have).0)) in
    let others = symbols_are_wide rest (and_parts _ _ have).1 in
    ap sum (append_assoc (symbol value) (flat_map symbol rest) (2 ∷ []))
    ∙ sum_by-append (λ (width : ℕ). width) (symbol value) (flat_map symbol rest ++ 2 ∷ []) ∙ omega (arith, one, others)

-- If code set B has all `n` characters of a text, its code has 11 n + 35 modules.
pub code_is_wide : (text : List ℕ) → list_all is_character text ≡ true → sum (encoded text) ≡ 11 * length text + 35
unfolding encoded
code_is_wide text are =
    let wide = symbols_are_wide (values text) (values_have_symbols text are) in
    let many : length (values text) ≡ length text + 3 = grind (arith, length-append, length-map) in
    wide ∙ omega (arith, many)
