-- Proves that the URL of a loan has letters, digits and `*-._+%?&=` alone.
use Rattle.std.proofs.Common.{◌≡◌, ℕ, ◌/◌, ◌%◌, ◌<◌, Bool, true, false, ◌==◌, List, [], ◌∷◌, ◌++◌, if◌then◌else◌}
use Rattle.std.proofs.Common.{refl, ap, ◌∙◌, arith}
use Rattle.std.specs.Prelude.{codes, ◌&&◌, ◌||◌}
use Rattle.std.specs.Fmt.{digit_glyph}
use Rattle.std.specs.List.{list_all, list_any}
use Rattle.std.proofs.lemmas.Bool.Decides.{nat_tests}
use Rattle.std.proofs.lemmas.List.Folds.{list_all-append}
use Rattle.form_urlencoded.specs.Form.{byte_serialize, is_unchanged, serialize_byte}
use Rattle.percent_encoding.specs.Percent.{percent_encode_byte}
use Rattle.ill_report.specs.Link.{PlaceShown, named_text, place_text}
use Rattle.ill_page.specs.Urls.{is_of_url}

-- The glyph of a hexadecimal digit `d` may stand in a URL.
glyph_of_url : (d : ℕ) → d < 16 → is_of_url (digit_glyph true d) ≡ true
glyph_of_url d small = grind (arith, nat_tests)

-- The text `%` and two digits for `byte` may stand in a URL.
escape_of_url : (byte : ℕ) → list_all is_of_url (percent_encode_byte byte) ≡ true
unfolding percent_encode_byte
escape_of_url byte =
    let high = glyph_of_url (byte / 16 % 16) (omega arith) in
    let low = glyph_of_url (byte % 16) (omega arith) in
    simp (high, low) refl

-- What a form writes for `byte` may stand in a URL: the byte, `+` for a space, or an escape.
either_of_url : (byte : ℕ) (is_same is_space : Bool) → is_unchanged byte ≡ is_same
    → list_all is_of_url (if is_same then byte ∷ [] else (if is_space then 43 ∷ [] else percent_encode_byte byte)) ≡ true
either_of_url byte true is_space same = simp (same) refl
either_of_url byte false true same = refl
either_of_url byte false false same = escape_of_url byte

-- The text that a form has for `byte` may stand in a URL.
byte_of_url : (byte : ℕ) → list_all is_of_url (serialize_byte byte) ≡ true
byte_of_url byte = either_of_url byte (is_unchanged byte) (byte == 32) refl

-- The text that a form has for `value` may stand in a URL: that of each byte may.
value_of_url : (value : List ℕ) → list_all is_of_url (byte_serialize value) ≡ true
unfolding byte_serialize
value_of_url [] = refl
value_of_url (byte ∷ value) =
    list_all-append is_of_url (serialize_byte byte) (byte_serialize value)
    ∙ ap (λ first. first && list_all is_of_url (byte_serialize value)) (byte_of_url byte) ∙ value_of_url value

-- If `name` may stand in a URL, `name` with the text of `value` after it may too.
named_of_url : (name value : List ℕ) → list_all is_of_url name ≡ true → list_all is_of_url (named_text name value) ≡ true
unfolding named_text
named_of_url name value all =
    list_all-append is_of_url name (byte_serialize value)
    ∙ ap (λ first. first && list_all is_of_url (byte_serialize value)) all ∙ value_of_url value

-- All bytes of the URL of the loan at `place` pass `is_of_url`. The URL has a name and a value for each of three parts:
-- desk, group and transaction.
pub place_of_url : (place : PlaceShown) → list_all is_of_url (place_text place) ≡ true
unfolding place_text
place_of_url place =
    let rest = named_text (codes "&group=") place.txn.group ++ named_text (codes "&transaction=") place.txn.transaction in
    list_all-append is_of_url (named_text (codes "?desk=") place.desk) rest
    ∙ ap (λ first. first && list_all is_of_url rest) (named_of_url (codes "?desk=") place.desk refl)
    ∙ list_all-append is_of_url (named_text (codes "&group=") place.txn.group)
    (named_text (codes "&transaction=") place.txn.transaction)
    ∙ ap (λ first. first && list_all is_of_url (named_text (codes "&transaction=") place.txn.transaction))
    (named_of_url (codes "&group=") place.txn.group refl)
    ∙ named_of_url (codes "&transaction=") place.txn.transaction refl
