-- Proves that `from_utf8` tests UTF-8, and that items, qualifiers and date texts are UTF-8. Proves that a text which
-- passes `text_check` has 1 to `most` bytes.
use Rattle.std.proofs.Common.{◌≡◌, ℕ, ◌/◌, ◌<◌, ◌≤◌, Bool, true, false, cond, eqb, leb, ltb, List, [], ◌∷◌, length, Result, Ok}
use Rattle.std.proofs.Common.{Err}
use Rattle.std.proofs.Common.{sym, refl, arith}
use Rattle.std.specs.Prelude.{MatchResult, is_ok, map}
use Rattle.std.specs.List.{All, list_all}
use Rattle.std.specs.Str.{IsUtf8, is_utf8}
use Rattle.std.proofs.lemmas.Str.{is_utf8-from_IsUtf8, IsUtf8-from_is_utf8, IsUtf8-from_ascii}
use Rattle.std.proofs.lemmas.Str.Ascii.{IsAscii-from_all}
use Rattle.std.proofs.lemmas.Bool.{leb-true, ltb-false, and_parts}
use Rattle.std.proofs.lemmas.List.Elements.{All-nil, All-cons}
use Rattle.ill_values.specs.declared.fault.TextFault.{TextFault}
use Rattle.ill_values.specs.declared.fault.TextFault.TheVariants.{Empty, TooLong, BadByte}
use Rattle.ill_values.specs.Day.{Date, date_text, last_digit}
use Rattle.ill_values.specs.Text.{text_check, is_no_control, is_printable, is_item_text, IsItem, IsQualifier}

-- If `b` is not true, it is false.
is_false : (b : Bool) → (b ≡ true → ⊥) → false ≡ b
is_false true never = absurd (never refl)
is_false false never = refl

-- If `r` is `Ok` for UTF-8 and `Err` for other bytes, `is_ok r` is `is_utf8 bs`. `P` and `Q` are further statements on
-- the value and on the error of `r`, which are not used.
pub is_ok-from_utf8 : {S E : Type 0} (bs : List ℕ) (r : Result S E) (P : S → Type 0) (Q : E → Type 0)
    → MatchResult r (λ s. P s × IsUtf8 bs) (λ e. ¬ (IsUtf8 bs) × Q e) → is_ok r ≡ is_utf8 bs
is_ok-from_utf8 bs (Ok s) P Q h = sym (is_utf8-from_IsUtf8 bs h.1)
is_ok-from_utf8 bs (Err e) P Q h = is_false (is_utf8 bs) (λ is. h.0 (IsUtf8-from_is_utf8 bs is))

-- If `cond b (Err fault) r` is `Ok`, `b` is false and `r` is `Ok`.
no_fault : (b : Bool) (r : Result (Unit {0}) TextFault) (fault : TextFault) → cond b (Err fault) r ≡ Ok tt
    → (b ≡ false) × (r ≡ Ok tt)
no_fault true r fault e = absurd cc
no_fault false r fault e = (refl, e)

-- A text that passes `text_check` has at most `most` bytes. By `some` it is not empty, and by `few` it is not too long.
text_most : (most : ℕ) (passes : List ℕ → Bool) (text : List ℕ) → text_check most passes text ≡ Ok tt → length text ≤ most
text_most most passes text e =
    let some = no_fault (eqb (length text) 0)
    (cond (ltb most (length text)) (Err TooLong) (cond (passes text) (Ok tt) (Err BadByte))) Empty e in
    let few = no_fault (ltb most (length text)) (cond (passes text) (Ok tt) (Err BadByte)) TooLong some.1 in
    ltb-false most (length text) few.0

-- A text that passes `text_check` has at least one byte.
text_least : (most : ℕ) (passes : List ℕ → Bool) (text : List ℕ) → text_check most passes text ≡ Ok tt → 1 ≤ length text
text_least most passes [] e = absurd cc
text_least most passes (byte ∷ text) e = omega arith

-- A text that passes `text_check` has 1 to `most` bytes.
pub text_size : (most : ℕ) (passes : List ℕ → Bool) (text : List ℕ) → text_check most passes text ≡ Ok tt
    → (1 ≤ length text) × (length text ≤ most)
text_size most passes text e = (text_least most passes text e, text_most most passes text e)

-- Returns the result of the last test of a text, whose value is `b`.
abbrev judged : Bool → Result (Unit {0}) TextFault
judged b = cond b (Ok tt) (Err BadByte)

-- If the last test of a text finds no fault, its value `b` is true.
passed : (b : Bool) → judged b ≡ Ok tt → b ≡ true
passed true e = refl
passed false e = absurd cc

-- A text that passes `text_check` passes its last test, `passes`. By `some` and `few` the tests of its size found no
-- fault.
text_passes : (most : ℕ) (passes : List ℕ → Bool) (text : List ℕ) → text_check most passes text ≡ Ok tt → passes text ≡ true
text_passes most passes text e =
    let some = no_fault (eqb (length text) 0)
    (cond (ltb most (length text)) (Err TooLong) (cond (passes text) (Ok tt) (Err BadByte))) Empty e in
    let few = no_fault (ltb most (length text)) (cond (passes text) (Ok tt) (Err BadByte)) TooLong some.1 in
    passed (passes text) few.1

-- An item is UTF-8.
pub item_utf8 : (text : List ℕ) → IsItem text → IsUtf8 text
item_utf8 text e =
    IsUtf8-from_is_utf8 text (and_parts (list_all is_no_control text) (is_utf8 text) (text_passes 200 is_item_text text e)).1

-- `byte` is below 128.
abbrev below_128 : ℕ → Type 0
below_128 byte = byte < 128

-- A printing character of ASCII, or a space, is below 128.
printable_ascii : (byte : ℕ) → is_printable byte ≡ true → byte < 128
printable_ascii byte e =
    let most = and_parts (leb 0x20 byte) (leb byte 0x7E) e in
    let at_most = leb-true byte 0x7E most.1 in
    omega arith

-- If each byte of `text` passes `is_printable`, each is below 128.
printables_ascii : (text : List ℕ) → list_all is_printable text ≡ true → All below_128 text
printables_ascii [] e = All-nil below_128
printables_ascii (byte ∷ text) e =
    let parts = and_parts (is_printable byte) (list_all is_printable text) e in
    All-cons below_128 byte text (printable_ascii byte parts.0) (printables_ascii text parts.1)

-- A qualifier is UTF-8.
pub qualifier_utf8 : (text : List ℕ) → IsQualifier text → IsUtf8 text
qualifier_utf8 text e =
    IsUtf8-from_ascii text (IsAscii-from_all text (printables_ascii text (text_passes 64 (list_all is_printable) text e)))

-- The digit that `last_digit` returns is ASCII.
digit_ascii : (n : ℕ) → last_digit n < 128
digit_ascii n = omega arith

-- The last digits of all `numbers` are ASCII.
digits_ascii : (numbers : List ℕ) → All below_128 (map last_digit numbers)
digits_ascii [] = All-nil below_128
digits_ascii (n ∷ more) = All-cons below_128 (last_digit n) (map last_digit more) (digit_ascii n) (digits_ascii more)

-- A date text is UTF-8.
pub date_utf8 : (d : Date) → IsUtf8 (date_text d)
date_utf8 d =
    let numbers = d.year / 1000 ∷ d.year / 100 ∷ d.year / 10 ∷ d.year ∷ d.month / 10 ∷ d.month ∷ d.day / 10 ∷ d.day ∷ [] in
    IsUtf8-from_ascii (date_text d) (IsAscii-from_all (date_text d) (digits_ascii numbers))
