-- Proves that the note of a loan is UTF-8.
use Rattle.std.proofs.Common.{◌≡◌, ℕ, Bool, true, false, ◌&&◌, List, [], ◌∷◌, Option, Some, None, length, drop, fold, refl}
use Rattle.std.proofs.Common.{IsUtf8, IfSome}
use Rattle.std.specs.Prelude.{if◌then◌else◌, nat_eq}
use Rattle.std.specs.List.{starts_with}
use Rattle.std.specs.Option.{option_or}
use Rattle.std.specs.Str.{is_utf8}
use Rattle.std.proofs.lemmas.Str.{IsUtf8-from_is_utf8}
use Rattle.ill_values.specs.TxnId.{Qualifiers}
use Rattle.ill_text.specs.Keys.{loan_key}
use Rattle.ill_beside.specs.Notes.{note_of, unless_empty, words_after}

-- The words after `begin` in a line are UTF-8, if there are any.
words_utf8 : (begin line : List ℕ) → IfSome (words_after begin line) IsUtf8
words_utf8 begin line = go (starts_with nat_eq line begin) (is_utf8 (drop (length begin) line)) refl
  where
    -- A line that does not start with `begin`, or goes on in no UTF-8, has no words.
    go : (starts is : Bool) → is_utf8 (drop (length begin) line) ≡ is
        → IfSome (if starts && is then Some (drop (length begin) line) else None) IsUtf8
    go true true utf8 = IsUtf8-from_is_utf8 (drop (length begin) line) utf8
    go true false utf8 = tt
    go false is utf8 = tt

-- If each of two texts that may be missing is UTF-8, so is the first of them that is there.
either_utf8 : (one other : Option (List ℕ)) → IfSome one IsUtf8 → IfSome other IsUtf8 → IfSome (option_or one other) IsUtf8
either_utf8 (Some one) other first second = first
either_utf8 None other first second = second

-- The words of the last line that begins with `begin` are UTF-8, if those found before are.
last_utf8 : (begin : List ℕ) (found : Option (List ℕ)) (lines : List (List ℕ)) → IfSome found IsUtf8
    → IfSome (fold (λ found line. option_or (words_after begin line) found) found lines) IsUtf8
last_utf8 begin found [] so_far = so_far
last_utf8 begin found (line ∷ lines) so_far =
    last_utf8 begin (option_or (words_after begin line) found) lines
    (either_utf8 (words_after begin line) found (words_utf8 begin line) so_far)

-- If words are UTF-8, they are so after empty words are left out.
unless_utf8 : (words : Option (List ℕ)) → IfSome words IsUtf8 → IfSome (unless_empty words) IsUtf8
unless_utf8 None utf8 = tt
unless_utf8 (Some []) utf8 = tt
unless_utf8 (Some (byte ∷ bytes)) utf8 = utf8

-- The note of a loan is UTF-8.
pub note_utf8 : (notes : List (List ℕ)) (txn : Qualifiers) → IfSome (note_of notes txn) IsUtf8
note_utf8 notes txn = unless_utf8 _ (last_utf8 (loan_key txn) None notes tt)
