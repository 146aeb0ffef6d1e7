-- Proves that a line of a diary that was written is read back.
use Rattle.std.proofs.Common.{◌≡◌, ℕ, suc, ◌+◌, ◌<◌, ◌^◌, Bool, true, false, not, ◌||◌, cond, List, [], ◌∷◌, ◌++◌, length}
use Rattle.std.proofs.Common.{take, drop, Option, Some, None, Result, Ok, Err, refl, sym, ap, ◌∙◌, subst, arith, append_assoc}
use Rattle.std.proofs.Common.{IsUtf8, codes, decimal, map, true≢false, ◌/◌}
use Rattle.std.specs.Prelude.{◌==◌, bytes_eq, find, is_ok, nat_le, nat_lt, if◌then◌else◌, option_map, option_to_list}
use Rattle.std.specs.List.{list_all, list_any, position_or_len}
use Rattle.std.specs.Result.{result_ok}
use Rattle.std.specs.Str.{IsAscii}
use Rattle.std.proofs.Math.Seq.{drop-append_seam, take-append_seam}
use Rattle.std.proofs.lemmas.Bool.{and_parts, leb-true, lt-ltb, ltb-true, ne_eqb}
use Rattle.std.proofs.lemmas.Fmt.{IsAscii-decimal}
use Rattle.std.proofs.lemmas.List.{length-append}
use Rattle.std.proofs.lemmas.Str.{IsUtf8-append, IsUtf8-from_ascii, is_utf8-from_IsUtf8, IsAscii-append}
use Rattle.std.proofs.lemmas.Str.Ascii.{IsAscii-nil, IsAscii-cons}
use Rattle.ill_values.specs.declared.fault.TextFault.{TextFault}
use Rattle.ill_values.specs.declared.fault.TextFault.TheVariants.{Empty, TooLong, BadByte}
use Rattle.ill_values.specs.Day.{Date, IsDate, date_text, last_digit}
use Rattle.ill_values.specs.Text.{IsQualifier, is_printable}
use Rattle.ill_values.specs.TxnId.{AreQualifiers, Qualifiers}
use Rattle.ill_values.proofs.Dates.{date_again}
use Rattle.ill_values.proofs.Texts.{date_utf8}
use Rattle.ill_words.specs.Words.{◌>>=◌}
use Rattle.ill_text.specs.Diary.{message_key, name_or_dash, stamp_text}
use Rattle.ill_text.specs.Keys.{key, key_byte, loan_key}
use Rattle.ill_beside.specs.Diary.{EndsWith, IsWord, Named, Said, PrintedPart, at_space, history_of, is_space, part_at, part_of}
use Rattle.ill_beside.specs.Diary.{said_by}
use Rattle.ill_beside.specs.Diary.{said_in, said_on, says_of}
use Rattle.ill_beside.proofs.DiaryLaws.{last_tells}

-- ---- the first space

-- `1 + n` is the successor of `n`.
one_more : (n : ℕ) → 1 + n ≡ suc n
one_more n = omega arith

-- If `word` has no space, the first space of the text `word ++ 32 ∷ rest` is right after `word`.
space_at : (word rest : List ℕ) → list_any is_space word ≡ false
    → position_or_len is_space (word ++ 32 ∷ rest) ≡ length word
space_at [] rest none = refl
space_at (byte ∷ word) rest none = go (is_space byte) none (space_at word rest)
  where
    -- `is` is true if the first byte is a space, which the premise excludes.
    go : (is : Bool) → (is || list_any is_space word) ≡ false
        → (list_any is_space word ≡ false → position_or_len is_space (word ++ 32 ∷ rest) ≡ length word)
        → cond (not is) (1 + position_or_len is_space (word ++ 32 ∷ rest)) 0 ≡ suc (length word)
    go false others later = one_more (position_or_len is_space (word ++ 32 ∷ rest)) ∙ ap suc (later others)
    go true others later = absurd (true≢false others)

-- Returns the pair of two texts, as `at_space` does if there is a space.
abbrev pub both : (front back : List ℕ) → Option (List ℕ × List ℕ)
both front back = Some (front, back)

-- Returns the texts before and after a place, if the Bool is true.
abbrev cut_at : (text : List ℕ) → (place : ℕ) → Bool → Option (List ℕ × List ℕ)
cut_at text place is = if is then both (take place text) (drop (place + 1) text) else None

-- The place after `word` is within the text `word ++ 32 ∷ rest`, which has a space there.
within : (word rest : List ℕ) → length word < length (word ++ 32 ∷ rest)
within word rest = subst (λ (size : ℕ). length word < size) (sym (length-append word (32 ∷ rest))) (omega arith)

-- After `word` and a space, the text goes on with `rest`.
behind : (word rest : List ℕ) → drop (length word + 1) (word ++ 32 ∷ rest) ≡ rest
behind word rest =
    subst (λ (size : ℕ). drop size (word ++ 32 ∷ rest) ≡ rest) (length-append word (32 ∷ []))
    (subst (λ (whole : List ℕ). drop (length (word ++ 32 ∷ [])) whole ≡ rest) (append_assoc word (32 ∷ []) rest)
    (drop-append_seam (word ++ 32 ∷ []) rest))

-- If `word` has no space, `at_space` splits the text `word ++ 32 ∷ rest` into `word` and `rest`.
pub splits : (word rest : List ℕ) → list_any is_space word ≡ false → at_space (word ++ 32 ∷ rest) ≡ Some (word, rest)
splits word rest none =
    let text = word ++ 32 ∷ rest in
    ap (λ (place : ℕ). cut_at text place (nat_lt place (length text))) (space_at word rest none)
    ∙ ap (cut_at text (length word)) (lt-ltb (length word) (length text) (within word rest))
    ∙ ap (λ (front : List ℕ). both front (drop (length word + 1) text)) (take-append_seam word (32 ∷ rest))
    ∙ ap (both word) (behind word rest)

-- ---- the words of a line: a day has no space, a key of a loan is ASCII, and a line is UTF-8

-- Decimal digits are no spaces.
digits_have_no_space : (numbers : List ℕ) → list_any is_space (map last_digit numbers) ≡ false
digits_have_no_space [] = refl
digits_have_no_space (n ∷ more) =
    ap (λ (b : Bool). b || list_any is_space (map last_digit more)) (ne_eqb (last_digit n) 32 (λ is. omega (arith, is)))
    ∙ digits_have_no_space more

-- A date text has no space.
date_has_no_space : (d : Date) → list_any is_space (date_text d) ≡ false
date_has_no_space d =
    digits_have_no_space
    (d.year / 1000 ∷ d.year / 100 ∷ d.year / 10 ∷ d.year ∷ d.month / 10 ∷ d.month ∷ d.day / 10 ∷ d.day ∷ [])

-- Bytes below 128 are ASCII.
all_ascii : (text : List ℕ) → list_all (λ byte. nat_lt byte 128) text ≡ true → IsAscii text
all_ascii [] are = IsAscii-nil
all_ascii (byte ∷ text) are =
    let parts = and_parts (nat_lt byte 128) (list_all (λ byte. nat_lt byte 128) text) are in
    IsAscii-cons byte text (ltb-true byte 128 parts.0) (all_ascii text parts.1)

-- If `byte` is ASCII, so are the bytes with which a key has it.
byte_ascii : (byte : ℕ) → byte < 128 → IsAscii (key_byte byte)
byte_ascii byte small = go (byte == 32) (byte == 92)
  where
    -- `space` and `backslash` are true if `byte` is one.
    go : (space backslash : Bool)
        → IsAscii (if space then codes "\\u{20}" else (if backslash then codes "\\u{5c}" else byte ∷ []))
    go true backslash = all_ascii (codes "\\u{20}") refl
    go false true = all_ascii (codes "\\u{5c}") refl
    go false false = IsAscii-cons byte [] small IsAscii-nil

-- A printing character is ASCII.
printable_ascii : (byte : ℕ) → is_printable byte ≡ true → byte < 128
printable_ascii byte is =
    let most = leb-true byte 0x7E (and_parts (nat_le 0x20 byte) (nat_le byte 0x7E) is).1 in
    omega (arith, most)

-- If all bytes of `text` are printing characters, `key text` is ASCII.
key_ascii : (text : List ℕ) → list_all is_printable text ≡ true → IsAscii (key text)
key_ascii [] is = IsAscii-nil
key_ascii (byte ∷ text) is =
    let parts = and_parts (is_printable byte) (list_all is_printable text) is in
    IsAscii-append (key_byte byte) (key text) (byte_ascii byte (printable_ascii byte parts.0)) (key_ascii text parts.1)

-- Returns what the check of a text answers. `passes` is true if all its bytes pass the test of the check.
abbrev checked : (empty long passes : Bool) → Result (Unit {0}) TextFault
checked empty long passes =
    if empty then Err Empty else (if long then Err TooLong else (if passes then Ok tt else Err BadByte))

-- A text that a check takes passes its test.
check_passes : (empty long passes : Bool) → checked empty long passes ≡ Ok tt → passes ≡ true
check_passes true long passes is = absurd (true≢false (sym (ap is_ok is)))
check_passes false true passes is = absurd (true≢false (sym (ap is_ok is)))
check_passes false false true is = refl
check_passes false false false is = absurd (true≢false (sym (ap is_ok is)))

-- The bytes of a qualifier are printing characters.
qualifier_printable : (text : List ℕ) → IsQualifier text → list_all is_printable text ≡ true
qualifier_printable text is = check_passes (length text == 0) (nat_lt 64 (length text)) (list_all is_printable text) is

-- The key of a loan is ASCII.
loan_ascii : (txn : Qualifiers) → AreQualifiers txn → IsAscii (loan_key txn)
loan_ascii txn are =
    let space = IsAscii-cons 32 [] (omega arith) IsAscii-nil in
    let group = key_ascii txn.group (qualifier_printable txn.group are.group) in
    let transaction = key_ascii txn.transaction (qualifier_printable txn.transaction are.transaction) in
    IsAscii-append (key txn.group) _ group
    (IsAscii-append (codes " ") _ space (IsAscii-append (key txn.transaction) (codes " ") transaction space))

-- The key of a message is UTF-8 if its word is.
message_utf8 : (txn : Qualifiers) (what : List ℕ) (number : ℕ) → AreQualifiers txn → IsUtf8 what → number < 2 ^ 64
    → IsUtf8 (message_key txn what number)
message_utf8 txn what number are utf8 small =
    let space = IsUtf8-from_ascii (codes " ") (IsAscii-cons 32 [] (omega arith) IsAscii-nil) in
    IsUtf8-append (loan_key txn) _ (IsUtf8-from_ascii (loan_key txn) (loan_ascii txn are))
    (IsUtf8-append what _ utf8
    (IsUtf8-append (codes " ") (decimal number) space (IsUtf8-from_ascii (decimal number) (IsAscii-decimal number small))))

-- The text of a line is UTF-8 if the name in it and its message are.
line_utf8 : (day : Date) (by message : List ℕ) → IsUtf8 by → IsUtf8 message
    → IsUtf8 (date_text day ++ (32 ∷ (by ++ 32 ∷ message)))
line_utf8 day by message name key =
    let space = IsUtf8-from_ascii (codes " ") (IsAscii-cons 32 [] (omega arith) IsAscii-nil) in
    IsUtf8-append (date_text day) (32 ∷ (by ++ 32 ∷ message)) (date_utf8 day)
    (IsUtf8-append (codes " ") (by ++ 32 ∷ message) space
    (IsUtf8-append by (32 ∷ message) name (IsUtf8-append (codes " ") message space key)))

-- ---- a line: what it says

-- If no space is in `by`, the text of `day`, `by` and `message`, with a space between two, says this day, name and
-- message.
words_say : (day : Date) (by message : List ℕ) → IsDate day → list_any is_space by ≡ false
    → said_in (date_text day ++ (32 ∷ (by ++ 32 ∷ message))) ≡ Some (says_of day by message)
words_say day by message is word =
    ap (λ (found : Option (List ℕ × List ℕ)). found >>= λ first. at_space first.1 >>= said_on first.0)
    (splits (date_text day) (by ++ 32 ∷ message) (date_has_no_space day))
    ∙ ap (λ (found : Option (List ℕ × List ℕ)). found >>= said_on (date_text day)) (splits by message word)
    ∙ ap (λ (found : Option Date). option_map (λ d. says_of d by message) found) (ap result_ok (date_again day is))

-- If `by` is a word and `message` is UTF-8, the line of `day`, `by` and `message` says this day, name and message.
line_says : (day : Date) (by message : List ℕ) → IsDate day → IsWord by → IsUtf8 message
    → said_by (date_text day ++ (32 ∷ (by ++ 32 ∷ message))) ≡ Some (says_of day by message)
line_says day by message is word utf8 =
    let text = date_text day ++ (32 ∷ (by ++ 32 ∷ message)) in
    ap (λ (b : Bool). if b then said_in text else None) (is_utf8-from_IsUtf8 text (line_utf8 day by message word.0 utf8))
    ∙ words_say day by message is word.1

-- The text of a line is a day, a name and a message, with a space between two.
in_words : (day : Date) (by : Option (List ℕ)) (message : List ℕ)
    → stamp_text day by ++ message ≡ date_text day ++ (32 ∷ (name_or_dash by ++ 32 ∷ message))
in_words day by message =
    append_assoc (date_text day) (32 ∷ (name_or_dash by ++ codes " ")) message
    ∙ ap (λ (rest : List ℕ). date_text day ++ (32 ∷ rest)) (append_assoc (name_or_dash by) (codes " ") message)

-- A line that was written says its day, its name and its message.
pub written_says : (day : Date) (by : Option (List ℕ)) (txn : Qualifiers) (what : List ℕ) (number : ℕ) → IsDate day
    → IsWord (name_or_dash by) → AreQualifiers txn → IsUtf8 what → number < 2 ^ 64
    → said_by (stamp_text day by ++ message_key txn what number)
    ≡ Some (says_of day (name_or_dash by) (message_key txn what number))
written_says day by txn what number is word are utf8 small =
    let message = message_key txn what number in
    ap said_by (in_words day by message)
    ∙ line_says day (name_or_dash by) message is word (message_utf8 txn what number are utf8 small)

-- ---- the end of a history

-- If the last `line` names a `message` of the record, the history ends with the line's part on it.
pub last_part : (messages : List Named) (before : List (List ℕ)) (line : List ℕ) (says : Said) (message : Named)
    → said_by line ≡ Some says → find (λ other. bytes_eq other.key says.message) messages ≡ Some message
    → EndsWith (history_of messages (before ++ line ∷ [])) (part_of says message)
unfolding history_of
last_part messages [] line says message is found = ([], last_tells messages line [] says message is refl found)
last_part messages (first ∷ before) line says message is found =
    let later = last_part messages before line says message is found in
    let part = option_to_list (part_at messages (before ++ line ∷ []) first) in (
      part ++ later.0,
      ap (λ (parts : List PrintedPart). part ++ parts) later.1
          ∙ sym (append_assoc part later.0 (part_of says message ∷ [])),
    )

-- A line that was written last ends the history, if the record has its message.
pub written_ends : (messages : List Named) (before : List (List ℕ)) (day : Date) (by : Option (List ℕ)) (txn : Qualifiers)
    (what : List ℕ) (number : ℕ) (message : Named) → IsDate day → IsWord (name_or_dash by) → AreQualifiers txn → IsUtf8 what
    → number < 2 ^ 64 → find (λ other. bytes_eq other.key (message_key txn what number)) messages ≡ Some message
    → EndsWith (history_of messages (before ++ (stamp_text day by ++ message_key txn what number) ∷ []))
    (part_of (says_of day (name_or_dash by) (message_key txn what number)) message)
written_ends messages before day by txn what number message is word are utf8 small found =
    last_part messages before (stamp_text day by ++ message_key txn what number)
    (says_of day (name_or_dash by) (message_key txn what number)) message
    (written_says day by txn what number is word are utf8 small) found
