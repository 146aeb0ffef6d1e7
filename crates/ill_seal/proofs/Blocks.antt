-- Lemmas on the block of a key, byte by byte, for the loop of `masked` (`src/keyed_digest.rt`).
use Rattle.std.proofs.Common.{◌≡◌, ℕ, zero, suc, ◌+◌, ◌-◌, ◌<◌, ◌≤◌, List, [], ◌∷◌, ◌++◌, length, take, replicate, refl}
use Rattle.std.proofs.Common.{ap, ◌∙◌, arith, length-append}
use Rattle.std.specs.Prelude.{slice_index, bit_xor}
use Rattle.std.proofs.lemmas.List.{take_more, map-append, length-replicate}
use Rattle.ill_seal.specs.Hmac.{filled, masked}

-- Each byte of `n` zeros is 0, and so is the byte after their end.
zeros : (n place : ℕ) → slice_index (replicate n 0) place ≡ 0
zeros zero place = refl
zeros (suc n) zero = refl
zeros (suc n) (suc place) = zeros n place

-- Zeros after a list change none of its bytes, as 0 is the byte after its end.
with_zeros : (xs : List ℕ) (n place : ℕ) → slice_index (xs ++ replicate n 0) place ≡ slice_index xs place
with_zeros [] n place = zeros n place
with_zeros (x ∷ xs) n zero = refl
with_zeros (x ∷ xs) n (suc place) = with_zeros xs n place

-- The block of a key of at most 64 bytes has 64 bytes.
pub length-filled : (key : List ℕ) → length key ≤ 64 → length (filled key) ≡ 64
length-filled key short =
    let both = length-append key (replicate (64 - length key) 0) in
    let rest = length-replicate {A = ℕ} (64 - length key) 0 in
    omega (arith, both, rest, short)

-- A masked block up to `place + 1` is the one up to `place`, and one more masked byte of `key`.
pub more_masked : (mask place : ℕ) (key : List ℕ) → length key ≤ 64 → place < 64
    → masked mask (take (place + 1) (filled key))
    ≡ masked mask (take place (filled key)) ++ bit_xor (slice_index key place) mask ∷ []
more_masked mask place key short within =
    let size = length-filled key short in
    ap (masked mask) (take_more (filled key) place 0 (omega (arith, size, within)))
    ∙ map-append (λ byte. bit_xor byte mask) (take place (filled key)) (slice_index (filled key) place ∷ [])
    ∙ ap (λ (byte : ℕ). masked mask (take place (filled key)) ++ bit_xor byte mask ∷ []) (with_zeros key (64 - length key) place)
