-- A key is read from its text: the spaces are left out, and the digits are decoded and checked.
use Rattle.std.proofs.Common.{◌≡◌, ◌==◌, ℕ, zero, suc, ◌+◌, ◌/◌, ◌%◌, Bool, true, false, cond, not}
use Rattle.std.proofs.Common.{List, [], ◌∷◌, ◌++◌, length, take, drop, Ok, refl, ap, ◌∙◌, arith}
use Rattle.std.proofs.Common.{length-append, inl, inr}
use Rattle.std.specs.Prelude.{slice_index}
use Rattle.std.specs.Int.{w32, to_be_bytes}
use Rattle.std.specs.List.{AllPass}
use Rattle.std.specs.Str.{bytes_eq}
use Rattle.std.proofs.lemmas.Bool.{cases_Bool, eq-eqb}
use Rattle.std.proofs.lemmas.List.{take_at, drop_at, length-take-le}
use Rattle.std.proofs.lemmas.List.Elements.{All-head, All-tail}
use Rattle.std.proofs.lemmas.Slice.Eq.{bytes_eq-Decides}
use Rattle.sha2.specs.Sha256.{sha256, digest_bytes, final_hash, initial_hash_256}
use Rattle.sha2.proofs.Facts256.{length-sha256}
use Rattle.hex.specs.Hex.{IsBytes, encode_lower, encode_with, lower_digits, decode_sized, is_hex_digit}
use Rattle.hex.proofs.HexLemmas.{length-encode_with, decode_of-encode_lower, decode_of-ok, decode_sized-encode_lower}
use Rattle.ill_seal.specs.KeyText.{check_of, begins_group, grouped, key_text, is_white, digits_of, key_of, key_in}

-- If `xs` and `ys` have bytes alone, `xs` followed by `ys` has bytes alone.
both_bytes : (xs ys : List ℕ) → IsBytes xs → IsBytes ys → IsBytes (xs ++ ys)
both_bytes [] ys first second i = second i
both_bytes (x ∷ xs) ys first second zero = first 0
both_bytes (x ∷ xs) ys first second (suc i) = both_bytes xs ys (λ k. first (suc k)) second i

-- The list of the four bytes of a word has bytes alone.
word_bytes : (word : ℕ) → IsBytes (to_be_bytes w32 word)
word_bytes word zero = omega arith
word_bytes word (suc zero) = omega arith
word_bytes word (suc (suc zero)) = omega arith
word_bytes word (suc (suc (suc zero))) = omega arith
word_bytes word (suc (suc (suc (suc i)))) = omega arith

-- The bytes of the first `n` words of `h` are bytes alone.
words_bytes : (h : List ℕ) (n : ℕ) → IsBytes (digest_bytes h n)
unfolding digest_bytes
words_bytes h zero = λ i. omega arith
words_bytes h (suc n) = both_bytes (digest_bytes h n) (to_be_bytes w32 (slice_index h n)) (words_bytes h n)
    (word_bytes (slice_index h n))

-- A digest has bytes alone.
digest_has_bytes : (m : List ℕ) → IsBytes (sha256 m)
unfolding sha256
digest_has_bytes m = words_bytes (final_hash initial_hash_256 m) 8

-- If `xs` has bytes alone, its first `n` bytes are bytes alone.
front_bytes : (n : ℕ) (xs : List ℕ) → IsBytes xs → IsBytes (take n xs)
front_bytes zero xs fits i = omega arith
front_bytes (suc n) [] fits i = omega arith
front_bytes (suc n) (x ∷ xs) fits zero = fits 0
front_bytes (suc n) (x ∷ xs) fits (suc i) = front_bytes n xs (λ k. fits (suc k)) i

-- The byte is a hexadecimal digit.
abbrev IsDigit : ℕ → Type 0
IsDigit digit = is_hex_digit digit ≡ true

-- A digit is not white.
not_white : (digit : ℕ) → is_hex_digit digit ≡ true → is_white digit ≡ false
not_white digit is = grind (arith)

-- If `digits` are hexadecimal digits, `digits_of` leaves none out.
digits_stay : (digits : List ℕ) → AllPass is_hex_digit digits → digits_of digits ≡ digits
digits_stay [] all = refl
digits_stay (digit ∷ rest) all =
    ap (λ (white : Bool). cond (not white) (digit ∷ digits_of rest) (digits_of rest))
    (not_white digit (All-head IsDigit digit rest all))
    ∙ ap (λ (l : List ℕ). digit ∷ l) (digits_stay rest (All-tail IsDigit digit rest all))

-- `digits_of` leaves out the spaces that `grouped` has put between groups.
spaces_left_out : (place : ℕ) (digits : List ℕ) → digits_of (grouped place digits) ≡ digits_of digits
unfolding grouped
spaces_left_out place [] = refl
spaces_left_out place (digit ∷ rest) =
    let more : digits_of (digit ∷ grouped (place + 1) rest) ≡ digits_of (digit ∷ rest) =
    ap (λ (l : List ℕ). cond (not (is_white digit)) (digit ∷ l) l) (spaces_left_out (place + 1) rest) in
    elim (cases_Bool (begins_group place)) [
      | inl begins ↦
          ap (λ (b : Bool). digits_of (cond b (32 ∷ digit ∷ []) (digit ∷ []) ++ grouped (place + 1) rest)) begins ∙ more
      | inr inside ↦
          ap (λ (b : Bool). digits_of (cond b (32 ∷ digit ∷ []) (digit ∷ []) ++ grouped (place + 1) rest)) inside ∙ more
    ]

-- The digits of `xs ++ ys` are the digits of `xs` and then the digits of `ys`. `table` has the 16 digits.
digits_append : (table xs ys : List ℕ) → encode_with table (xs ++ ys) ≡ encode_with table xs ++ encode_with table ys
unfolding encode_with
digits_append table [] ys = refl
digits_append table (x ∷ xs) ys =
    ap (λ (l : List ℕ). slice_index table (x / 16) ∷ slice_index table (x % 16) ∷ l) (digits_append table xs ys)

-- A key of 32 bytes is read from its digits and those of its check. They are split at 64: `first` gives the key, and
-- `second` its check.
key_again : (key : List ℕ) → length key ≡ 32 → IsBytes key → key_of (encode_lower (key ++ check_of key)) ≡ Ok key
key_again key size fits =
    let check = check_of key in
    let front = encode_lower key in
    let back = encode_lower check in
    let check_size : length check ≡ 2 = length-take-le 2 (sha256 key) (omega (arith, length-sha256 key)) in
    let check_fits : IsBytes check = front_bytes 2 (sha256 key) (digest_has_bytes key) in
    let halves : encode_lower (key ++ check) ≡ front ++ back = digits_append lower_digits key check in
    let front_size = length-encode_with lower_digits key in
    let back_size = length-encode_with lower_digits check in
    let all = length-append front back in
    let long : length (front ++ back) ≡ 68 = omega (arith, all, front_size, back_size, size, check_size) in
    let at : length front ≡ 64 = omega (arith, front_size, size) in
    let is_long : (length (front ++ back) == 68) ≡ true = eq-eqb (length (front ++ back)) 68 long in
    let first : decode_sized (take 64 (front ++ back)) 32 ≡ Ok key =
    ap (λ (l : List ℕ). decode_sized l 32) (take_at front back 64 at) ∙ decode_sized-encode_lower key 32 size fits in
    let second : decode_sized (drop 64 (front ++ back)) 2 ≡ Ok check =
    ap (λ (l : List ℕ). decode_sized l 2) (drop_at front back 64 at) ∙ decode_sized-encode_lower check 2 check_size check_fits in
    let same : bytes_eq check check ≡ true = (bytes_eq-Decides check check).1 refl in
    ap key_of halves ∙ rw (is_long, first, second, same) refl

-- A key of 32 bytes is read from its text.
pub key_read_again : (key : List ℕ) → length key ≡ 32 → IsBytes key → key_in (key_text key) ≡ Ok key
key_read_again key size fits =
    let bytes = key ++ check_of key in
    let check_fits : IsBytes (check_of key) = front_bytes 2 (sha256 key) (digest_has_bytes key) in
    let all_fit : IsBytes bytes = both_bytes key (check_of key) fits check_fits in
    let digits = encode_lower bytes in
    let hex = decode_of-ok digits bytes (decode_of-encode_lower bytes all_fit) in
    ap key_of (spaces_left_out 0 digits ∙ digits_stay digits hex.1) ∙ key_again key size fits
