-- Proves how a text is indented byte by byte: two spaces come before each line.
use Rattle.std.proofs.Common.{◌≡◌, ℕ, ◌+◌, ◌<◌, ◌≤◌, Bool, ◌==◌, List, [], ◌∷◌, ◌++◌, length, drop, slice_index_or, ap, sym, ◌∙◌}
use Rattle.std.proofs.Common.{append_assoc}
use Rattle.std.proofs.Math.ListN.{drop_of_length-le}
use Rattle.std.proofs.lemmas.List.{append-nil, at_drop_more}
use Rattle.ill_text.specs.LongLines.{indent, indented_on}

-- Append to `shown` the spaces before the byte at `place` (`set`), and then the byte (`shown_further`).
-- With the later bytes, indented, that appends all bytes from `place` on, indented.
pub one_byte_further : (text : List ℕ) (place : ℕ) (begins : Bool) (shown set shown_further : List ℕ)
    → place < length text → set ≡ shown ++ indent begins → shown_further ≡ set ++ slice_index_or text place 0 ∷ []
    → shown_further ++ indented_on (slice_index_or text place 0 == 10) (drop (place + 1) text)
    ≡ shown ++ indented_on begins (drop place text)
unfolding indented_on
one_byte_further text place begins shown set shown_further lt is_set is_further =
    let byte : ℕ = slice_index_or text place 0 in
    let left : List ℕ = indented_on (byte == 10) (drop (place + 1) text) in
    ap (λ (bytes : List ℕ). bytes ++ left) (is_further ∙ ap (λ (bytes : List ℕ). bytes ++ byte ∷ []) is_set)
    ∙ append_assoc (shown ++ indent begins) (byte ∷ []) left
    ∙ append_assoc shown (indent begins) (byte ∷ left)
    ∙ ap (λ (bytes : List ℕ). shown ++ bytes) (sym (at_drop_more (indented_on begins) text place 0 lt))

-- If no byte is left at `place`, indenting the bytes from `place` on appends nothing to `shown`.
pub none_further : (text : List ℕ) (place : ℕ) (begins : Bool) (shown : List ℕ) → length text ≤ place
    → shown ≡ shown ++ indented_on begins (drop place text)
unfolding indented_on
none_further text place begins shown past =
    sym (append-nil shown) ∙ ap (λ (left : List ℕ). shown ++ indented_on begins left) (sym (drop_of_length-le text past))
