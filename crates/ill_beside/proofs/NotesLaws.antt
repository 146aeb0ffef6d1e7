-- Proves which note a loan has after one more line of a file of notes.
use Rattle.std.proofs.Common.{◌≡◌, ℕ, Bool, true, false, ◌&&◌, List, [], ◌∷◌, ◌++◌, Option, Some, None, length, drop, take}
use Rattle.std.proofs.Common.{get_or}
use Rattle.std.proofs.Common.{ap, sym, refl, ◌∙◌, append_assoc, arith}
use Rattle.std.specs.Prelude.{if◌then◌else◌, nat_eq, codes, IsUtf8}
use Rattle.std.specs.List.{starts_with}
use Rattle.std.specs.Option.{option_or}
use Rattle.std.specs.Str.{is_utf8}
use Rattle.std.proofs.Math.Seq.{drop-append_seam, take-append_seam}
use Rattle.std.proofs.lemmas.Bool.{eq-eqb, eqb-true, false_from_ne_true, true≢false}
use Rattle.std.proofs.lemmas.List.{take-append-drop}
use Rattle.std.proofs.lemmas.List.Sums.{fold-append}
use Rattle.std.proofs.lemmas.Slice.Eq.{bytes_eq-Decides}
use Rattle.std.proofs.lemmas.Str.{IsUtf8-nil, is_utf8-from_IsUtf8}
use Rattle.ill_values.specs.TxnId.{Qualifiers}
use Rattle.ill_beside.specs.BadNotes.{MisjudgesNote, older, still_there, of_another}
use Rattle.ill_text.specs.Keys.{key, key_byte, loan_key}
use Rattle.ill_beside.specs.Notes.{last_words, line_of, note_of, unless_empty, words_after}

-- ---- the line of a loan

-- The line `begin ++ words` begins with `begin`, the key of a loan.
begins_with_front : (begin words : List ℕ) → starts_with nat_eq (begin ++ words) begin ≡ true
begins_with_front begin words = (bytes_eq-Decides begin (take (length begin) (begin ++ words))).1
    (sym (take-append_seam begin words))

-- If `words` are UTF-8, they are the words after `begin` in the line `begin ++ words`.
own_words : (begin words : List ℕ) → IsUtf8 words → words_after begin (begin ++ words) ≡ Some words
own_words begin words utf8 =
    go (starts_with nat_eq (begin ++ words) begin) (drop (length begin) (begin ++ words)) (begins_with_front begin words)
    (drop-append_seam begin words)
  where
    -- `starts` is true if the line begins with `begin`, and `rest` is the text after it.
    go : (starts : Bool) (rest : List ℕ) → starts ≡ true → rest ≡ words
        → (if starts && is_utf8 rest then Some rest else None) ≡ Some words
    go starts rest begins is =
        ap (λ (b : Bool). if b && is_utf8 rest then Some rest else None) begins
        ∙ ap (λ (text : List ℕ). if is_utf8 text then Some text else None) is
        ∙ ap (λ (b : Bool). if b then Some words else None) (is_utf8-from_IsUtf8 words utf8)

-- After one more line, the last words are the words of this line. If it has none, they are the last words of the lines
-- before.
last_after : (begin : List ℕ) (lines : List (List ℕ)) (line : List ℕ)
    → last_words begin (lines ++ line ∷ []) ≡ option_or (words_after begin line) (last_words begin lines)
last_after begin lines line =
    fold-append (λ (found : Option (List ℕ)) line. option_or (words_after begin line) found) None lines (line ∷ [])

-- If `words` are UTF-8, a line with them makes them the note of the loan `txn`. If they are empty, the loan has none.
own_note : (lines : List (List ℕ)) (txn : Qualifiers) (words : List ℕ) → IsUtf8 words
    → note_of (lines ++ line_of txn words ∷ []) txn ≡ unless_empty (Some words)
own_note lines txn words utf8 =
    ap unless_empty (last_after (loan_key txn) lines (line_of txn words)
    ∙ ap (λ (found : Option (List ℕ)). option_or found (last_words (loan_key txn) lines))
    (own_words (loan_key txn) words utf8))

-- If `words` are not empty, `unless_empty` returns them.
some_stays : (words : List ℕ) → (words ≡ [] → ⊥) → unless_empty (Some words) ≡ Some words
some_stays [] some = absurd (some refl)
some_stays (byte ∷ words) some = refl

-- If `words` are UTF-8 and not empty, they are the note of the loan `txn` after its line with them.
pub last_counts : (lines : List (List ℕ)) (txn : Qualifiers) (words : List ℕ) → IsUtf8 words → (words ≡ [] → ⊥)
    → note_of (lines ++ line_of txn words ∷ []) txn ≡ Some words
last_counts lines txn words utf8 some = own_note lines txn words utf8 ∙ some_stays words some

-- A line without words removes the note of its loan.
pub none_left : (lines : List (List ℕ)) (txn : Qualifiers) → note_of (lines ++ line_of txn [] ∷ []) txn ≡ None
none_left lines txn = own_note lines txn [] IsUtf8-nil

-- ---- lines of other loans

-- If two texts are equal, so are their first bytes.
heads : (x y : ℕ) (xs ys : List ℕ) → x ∷ xs ≡ y ∷ ys → x ≡ y
heads x y xs ys is = ap (λ (text : List ℕ). get_or text 0 x) is

-- If two texts are equal, so are the texts after their first bytes.
tails : (x y : ℕ) (xs ys : List ℕ) → x ∷ xs ≡ y ∷ ys → xs ≡ ys
tails x y xs ys is = ap (λ (text : List ℕ). drop 1 text) is

-- Returns the encoding of a byte, by its comparisons with a space and a backslash.
abbrev encoded : Bool → Bool → ℕ → List ℕ
encoded is_space is_backslash byte =
    if is_space then codes "\\u{20}" else (if is_backslash then codes "\\u{5c}" else byte ∷ [])

-- The digits 2 and 5 differ.
two_not_five : (n m : ℕ) → n ≡ 0x32 → m ≡ 0x35 → n ≡ m → ⊥
two_not_five n m two five is = omega (arith, two, five, is)

-- If `key_byte x ++ xs` equals `key_byte y ++ ys`, then `x` is `y`, and `xs` is `ys`.
bytes_agree : (x y : ℕ) (xs ys : List ℕ) → key_byte x ++ xs ≡ key_byte y ++ ys → (x ≡ y) × (xs ≡ ys)
bytes_agree x y xs ys is = go (nat_eq x 0x20) (nat_eq x 0x5C) (nat_eq y 0x20) (nat_eq y 0x5C) refl refl refl refl is
  where
    -- `a` and `b` are true if `x` is a space or a backslash, `c` and `d` if `y` is one. Two bytes of other kinds
    -- differ in their first byte, or in the escape.
    go : (a b c d : Bool) → nat_eq x 0x20 ≡ a → nat_eq x 0x5C ≡ b → nat_eq y 0x20 ≡ c → nat_eq y 0x5C ≡ d
        → encoded a b x ++ xs ≡ encoded c d y ++ ys → (x ≡ y) × (xs ≡ ys)
    go true b true d e f g h is = (eqb-true x 0x20 e ∙ sym (eqb-true y 0x20 g), ap (λ (text : List ℕ). drop 6 text) is)
    go true b false true e f g h is = absurd (two_not_five 0x32 0x35 refl refl (ap (λ (text : List ℕ). get_or text 3 0) is))
    go true b false false e f g h is = absurd (true≢false (sym (eq-eqb y 0x5C (sym (heads 0x5C y _ _ is))) ∙ h))
    go false true true d e f g h is = absurd (two_not_five 0x32 0x35 refl refl (sym (ap (λ (text : List ℕ). get_or text 3 0) is)))
    go false true false true e f g h is = (eqb-true x 0x5C f ∙ sym (eqb-true y 0x5C h), ap (λ (text : List ℕ). drop 6 text) is)
    go false true false false e f g h is = absurd (true≢false (sym (eq-eqb y 0x5C (sym (heads 0x5C y _ _ is))) ∙ h))
    go false false true d e f g h is = absurd (true≢false (sym (eq-eqb x 0x5C (heads x 0x5C _ _ is)) ∙ f))
    go false false false true e f g h is = absurd (true≢false (sym (eq-eqb x 0x5C (heads x 0x5C _ _ is)) ∙ f))
    go false false false false e f g h is = (heads x y xs ys is, tails x y xs ys is)

-- The bytes with which a key has `x` do not begin with a space.
no_space : (x : ℕ) (xs ys : List ℕ) → key_byte x ++ xs ≡ 0x20 ∷ ys → ⊥
no_space x xs ys is = go (nat_eq x 0x20) (nat_eq x 0x5C) refl is
  where
    -- `a` and `b` are true if `x` is a space or a backslash.
    go : (a b : Bool) → nat_eq x 0x20 ≡ a → encoded a b x ++ xs ≡ 0x20 ∷ ys → ⊥
    go true b e is = omega (arith, heads 0x5C 0x20 _ _ is)
    go false true e is = omega (arith, heads 0x5C 0x20 _ _ is)
    go false false e is = true≢false (sym (eq-eqb x 0x20 (heads x 0x20 xs ys is)) ∙ e)

-- If two texts that begin with the keys of `a` and `b`, and a space, are equal, `a` is `b`. The texts `xs` and `ys`
-- after these are equal too.
keys_agree : (a b xs ys : List ℕ) → key a ++ (codes " " ++ xs) ≡ key b ++ (codes " " ++ ys) → (a ≡ b) × (xs ≡ ys)
keys_agree [] [] xs ys is = (refl, tails 0x20 0x20 xs ys is)
keys_agree [] (y ∷ b) xs ys is =
    absurd (no_space y (key b ++ (codes " " ++ ys)) xs (sym (is ∙ append_assoc (key_byte y) (key b) (codes " " ++ ys))))
keys_agree (x ∷ a) [] xs ys is =
    absurd (no_space x (key a ++ (codes " " ++ xs)) ys (sym (append_assoc (key_byte x) (key a) (codes " " ++ xs)) ∙ is))
keys_agree (x ∷ a) (y ∷ b) xs ys is =
    let first = bytes_agree x y (key a ++ (codes " " ++ xs)) (key b ++ (codes " " ++ ys))
    (sym (append_assoc (key_byte x) (key a) (codes " " ++ xs)) ∙ is ∙ append_assoc (key_byte y) (key b) (codes " " ++ ys)) in
    let rest = keys_agree a b xs ys first.1 in
    (ap (λ (z : ℕ). z ∷ a) first.0 ∙ ap (λ (text : List ℕ). y ∷ text) rest.0, rest.1)

-- `loan_key txn ++ rest` is the group's key, a space, the transaction's key, a space, and `rest`.
pub key_parts : (txn : Qualifiers) (rest : List ℕ)
    → loan_key txn ++ rest ≡ key txn.group ++ (codes " " ++ (key txn.transaction ++ (codes " " ++ rest)))
key_parts txn rest =
    append_assoc (key txn.group) (codes " " ++ (key txn.transaction ++ codes " ")) rest
    ∙ ap (λ (text : List ℕ). key txn.group ++ (codes " " ++ text)) (append_assoc (key txn.transaction) (codes " ") rest)

-- If two texts that begin with the keys of the loans `txn` and `on` are equal, `txn` is `on`.
loans_agree : (txn on : Qualifiers) (rest words : List ℕ) → loan_key txn ++ rest ≡ loan_key on ++ words → txn ≡ on
loans_agree txn on rest words is =
    let groups = keys_agree txn.group on.group (key txn.transaction ++ (codes " " ++ rest))
    (key on.transaction ++ (codes " " ++ words)) (sym (key_parts txn rest) ∙ is ∙ key_parts on words) in
    let transactions = keys_agree txn.transaction on.transaction rest words groups.1 in
    ap (λ (text : List ℕ). record { group = text; transaction = txn.transaction }) groups.0
    ∙ ap (λ (text : List ℕ). record { group = on.group; transaction = text }) transactions.0

-- If `on` is another loan than `txn`, its line with `words` has no words of `txn`.
no_words_of_another : (txn on : Qualifiers) (words : List ℕ) → (txn ≡ on → ⊥)
    → words_after (loan_key txn) (line_of on words) ≡ None
no_words_of_another txn on words other =
    let line = line_of on words in
    let begin = loan_key txn in
    let begins = λ (starts : starts_with nat_eq line begin ≡ true).
    other (loans_agree txn on (drop (length begin) line) words
    (ap (λ (text : List ℕ). text ++ drop (length begin) line) ((bytes_eq-Decides begin (take (length begin) line)).0 starts)
    ∙ take-append-drop (length begin) line)) in
    ap (λ (b : Bool). if b && is_utf8 (drop (length begin) line) then Some (drop (length begin) line) else None)
    (false_from_ne_true (starts_with nat_eq line begin) begins)

-- A line on one loan changes the note of no other loan.
pub others_stay : (lines : List (List ℕ)) (on txn : Qualifiers) (words : List ℕ) → (txn ≡ on → ⊥)
    → note_of (lines ++ line_of on words ∷ []) txn ≡ note_of lines txn
others_stay lines on txn words other =
    ap unless_empty (last_after (loan_key txn) lines (line_of on words)
    ∙ ap (λ (found : Option (List ℕ)). option_or found (last_words (loan_key txn) lines))
    (no_words_of_another txn on words other))

-- ---- wrong notes

-- Returns the note of the loan `txn` after a line on the loan `on`.
abbrev note_after : List (List ℕ) → (on txn : Qualifiers) → List ℕ → Option (List ℕ)
note_after lines on txn words = note_of (lines ++ line_of on words ∷ []) txn

-- The note of a loan after one more line is none of the wrong ones.
wrong : (lines : List (List ℕ)) (on txn : Qualifiers) (words : List ℕ) (found : Option (List ℕ))
    → MisjudgesNote lines on txn words found → found ≡ note_after lines on txn words → ⊥
wrong lines on txn words found (older same utf8 some not_it) is =
    not_it (is ∙ ap (λ (loan : Qualifiers). note_after lines loan txn words) (sym same) ∙ last_counts lines txn words utf8 some)
wrong lines on txn words found (still_there same none not_it) is =
    not_it (is ∙ ap (λ (loan : Qualifiers). note_after lines loan txn words) (sym same)
    ∙ ap (λ (text : List ℕ). note_after lines txn txn text) none ∙ none_left lines txn)
wrong lines on txn words found (of_another other not_it) is = not_it (is ∙ others_stay lines on txn words other)

-- The note of a loan after one more line is right.
pub not_misjudged : (lines : List (List ℕ)) (on txn : Qualifiers) (words : List ℕ)
    → MisjudgesNote lines on txn words (note_of (lines ++ line_of on words ∷ []) txn) → ⊥
not_misjudged lines on txn words wrongs = wrong lines on txn words (note_after lines on txn words) wrongs refl
