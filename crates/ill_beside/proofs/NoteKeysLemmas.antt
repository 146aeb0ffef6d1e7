-- Proves that the lines of a loan are among those that begin with its key.
use Rattle.std.proofs.Common.{◌≡◌, ℕ, ◌+◌, Bool, true, false, true≢false, ◌&&◌, ◌||◌, List, [], ◌∷◌, ◌++◌, length, drop, take}
use Rattle.std.proofs.Common.{map}
use Rattle.std.proofs.Common.{Option, Some, None, Vec, Global, refl, sym, ap, ◌∙◌}
use Rattle.std.specs.Prelude.{codes, if◌then◌else◌, nat_eq, nat_lt, option_map}
use Rattle.std.specs.List.{list_any, position, position_or_len, starts_with}
use Rattle.std.specs.Option.{option_or}
use Rattle.std.specs.Str.{is_utf8}
use Rattle.std.proofs.lemmas.Bool.{false_from_ne_true}
use Rattle.std.proofs.lemmas.List.{take-append-drop}
use Rattle.std.proofs.lemmas.List.Folds.{list_any-append}
use Rattle.std.proofs.lemmas.Slice.Eq.{bytes_eq-Decides}
use Rattle.ill_values.specs.TxnId.{Qualifiers}
use Rattle.ill_words.specs.Words.{◌>>=◌}
use Rattle.ill_text.specs.Keys.{key, key_byte, loan_key}
use Rattle.ill_beside.specs.Diary.{at_space, is_space}
use Rattle.ill_beside.specs.Notes.{begin_of, key_of_parts, last_words, line_key, looks_after, words_after, words_found}
use Rattle.ill_beside.specs.Places.{ArePlaces, ByKey, has_key, looked_up, places_of}
use Rattle.ill_beside.proofs.NotesLaws.{key_parts}
use Rattle.ill_beside.proofs.PlacesLemmas.{kept_enough, uncounted, walk_over}
use Rattle.ill_beside.proofs.ReadLemmas.{both, splits}

-- ---- the first space

-- Returns the texts before and after a place.
abbrev pub around : (text : List ℕ) → (place : ℕ) → List ℕ × List ℕ
around text place = (take place text, drop (place + 1) text)

-- The texts at the first space are those before and after its place.
pub at_place : (text : List ℕ) → option_map (around text) (position is_space text) ≡ at_space text
at_place text = go (nat_lt (position_or_len is_space text) (length text)) (position_or_len is_space text)
  where
    -- `is` is true if there is a space, which is at `place`.
    go : (is : Bool) (place : ℕ)
        → option_map (around text) (if is then Some place else None) ≡ (if is then Some (around text place) else None)
    go true place = refl
    go false place = refl

-- ---- the key of a line

-- No byte with which a key has `byte` is a space.
byte_has_no_space : (byte : ℕ) → list_any is_space (key_byte byte) ≡ false
byte_has_no_space byte = go (nat_eq byte 0x20) (nat_eq byte 0x5C) refl
  where
    -- `space` and `backslash` are true if `byte` is one.
    go : (space backslash : Bool) → nat_eq byte 0x20 ≡ space
        → list_any is_space (if space then codes "\\u{20}" else (if backslash then codes "\\u{5c}" else byte ∷ [])) ≡ false
    go true backslash is = refl
    go false true is = refl
    go false false is = ap (λ (b : Bool). b || false) is

-- The key of a qualifier, `key text`, has no space.
key_has_no_space : (text : List ℕ) → list_any is_space (key text) ≡ false
key_has_no_space [] = refl
key_has_no_space (byte ∷ text) =
    list_any-append is_space (key_byte byte) (key text)
    ∙ ap (λ (b : Bool). b || list_any is_space (key text)) (byte_has_no_space byte)
    ∙ key_has_no_space text

-- Returns the key with two parts.
abbrev key_with : List ℕ × List ℕ → List ℕ
key_with parts = key_of_parts parts.0 parts.1

-- Returns the word `first`, and the second word. `second` has the texts before and after the space that ends it.
abbrev second_word : (first : List ℕ) → List ℕ × List ℕ → Option (List ℕ × List ℕ)
second_word first second = both first second.0

-- Returns the first two words of a line. `first` has the texts before and after its first space.
abbrev two_words : List ℕ × List ℕ → Option (List ℕ × List ℕ)
two_words first = at_space first.1 >>= second_word first.0

-- A text that begins with the key of a loan has this key.
key_read : (txn : Qualifiers) (rest : List ℕ) → begin_of (loan_key txn ++ rest) ≡ Some (loan_key txn)
key_read txn rest =
    ap begin_of (key_parts txn rest)
    ∙ ap (λ (found : Option (List ℕ × List ℕ)). option_map key_with (found >>= two_words))
    (splits (key txn.group) (key txn.transaction ++ (codes " " ++ rest)) (key_has_no_space txn.group))
    ∙ ap (λ (found : Option (List ℕ × List ℕ)). option_map key_with (found >>= second_word (key txn.group)))
    (splits (key txn.transaction) rest (key_has_no_space txn.transaction))

-- ---- the words of a loan

-- If the key of `line` is not that of the loan `txn`, the line has no words of the loan. If it began with the loan's
-- key, `key_read` would give that key.
no_words : (txn : Qualifiers) (line : List ℕ) → has_key (loan_key txn) (begin_of line) ≡ false
    → words_after (loan_key txn) line ≡ None
no_words txn line other =
    let begin = loan_key txn in
    let rest = drop (length begin) line in
    let whole = λ (starts : starts_with nat_eq line begin ≡ true).
    ap (λ (text : List ℕ). text ++ rest) ((bytes_eq-Decides begin (take (length begin) line)).0 starts)
    ∙ take-append-drop (length begin) line in
    let begins = λ (starts : starts_with nat_eq line begin ≡ true).
    true≢false (sym (ap (has_key begin) (sym (ap begin_of (whole starts)) ∙ key_read txn rest)
    ∙ (bytes_eq-Decides begin begin).1 refl) ∙ other) in
    ap (λ (b : Bool). if b && is_utf8 rest then Some rest else None)
    (false_from_ne_true (starts_with nat_eq line begin) begins)

-- Let `by_key` have the places of `lines`. The last words at the places of the key of the loan `txn` are the last
-- words of the loan.
pub all_words : (by_key : ByKey) (lines : List (Vec ℕ Global)) → ArePlaces line_key by_key lines → (txn : Qualifiers)
    → (begin : Vec ℕ Global) → begin.items ≡ loan_key txn
    → looked_up (looks_after begin.items) lines None (places_of by_key begin)
    ≡ last_words (loan_key txn) (map (λ line. line.items) lines)
all_words by_key lines are txn begin is =
    ap (λ (text : List ℕ). looked_up (looks_after text) lines None (places_of by_key begin)) is
    ∙ kept_enough line_key by_key lines are begin (looks_after (loan_key txn)) skips None
    ∙ uncounted (λ found text. option_or (words_found (loan_key txn) text) found) 0 None lines
    ∙ sym (walk_over (λ found line. option_or (words_after (loan_key txn) line) found) (λ line. line.items) None lines)
  where
    -- If `line` has another key, the words `found` stay.
    skips : (found : Option (List ℕ)) (place : ℕ) (line : Vec ℕ Global) → has_key begin.items (line_key line) ≡ false
        → looks_after (loan_key txn) found place (Some line) ≡ found
    skips found place line other =
        ap (λ (words : Option (List ℕ)). option_or words found)
        (no_words txn line.items (sym (ap (λ (text : List ℕ). has_key text (line_key line)) is) ∙ other))
