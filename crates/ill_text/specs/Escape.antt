-- A text of UTF-8, written for a screen or in JSON so that no terminal and no editor acts on it. An escape such as
-- `\u{202e}` or `\u202e` replaces each character on which one may act.
use Rattle.std.specs.Prelude.{◌≡◌, ◌≤◌, ℕ, ◌+◌, ◌-◌, ◌*◌, ◌/◌, ◌%◌, nat_lt, nat_le, Bool, false, ◌&&◌, ◌||◌, ◌==◌, if◌then◌else◌}
use Rattle.std.specs.Prelude.{List, [], ◌∷◌, ◌++◌, length, codes, Option, Some, None}
use Rattle.std.specs.List.{list_any}
use Rattle.std.specs.Fmt.{digits}
use Rattle.ill_text.specs.declared.escape.Escaping.{Escaping}
use Rattle.ill_text.specs.declared.escape.Escaping.TheVariants.{Screen, Json}

-- Returns true if `number` is at least `first` and at most `last`.
abbrev pub is_within : ℕ → ℕ → ℕ → Bool
is_within first last number = nat_le first number && nat_le number last

-- Lists the ranges of the characters on which a terminal or an editor may act. They are controls, marks that change
-- the direction of a text, separators of lines, and characters that are not seen. The two joiners U+200C and U+200D are
-- not among them, since words of some languages need them.
unfoldable pub acting_ranges : List (ℕ × ℕ)
acting_ranges =
    (0x80, 0x9F) ∷ (0xAD, 0xAD) ∷ (0x61C, 0x61C) ∷ (0x200B, 0x200B) ∷ (0x200E, 0x200F) ∷ (0x2028, 0x202E)
    ∷ (0x2060, 0x2064) ∷ (0x2066, 0x2069) ∷ (0xFEFF, 0xFEFF) ∷ (0xE0000, 0xE007F) ∷ []

-- Returns true if the character `number` is in one of `acting_ranges`. Such a character is an acting one.
abbrev pub is_acting : ℕ → Bool
is_acting number = list_any (λ range. is_within range.0 range.1 number) acting_ranges

-- Returns the number of the character that two bytes encode.
abbrev pub number_of_two : ℕ → ℕ → ℕ
number_of_two first second = (first - 0xC0) * 64 + (second - 0x80)

-- Returns the number of the character that three bytes encode.
abbrev pub number_of_three : ℕ → ℕ → ℕ → ℕ
number_of_three first second third =
    (first - 0xE0) * 4096 + ((second - 0x80) * 64 + (third - 0x80))

-- Returns the number of the character that four bytes encode.
abbrev pub number_of_four : ℕ → ℕ → ℕ → ℕ → ℕ
number_of_four first second third fourth =
    (first - 0xF0) * 262144 + ((second - 0x80) * 4096 + ((third - 0x80) * 64 + (fourth - 0x80)))

-- Returns true if `byte` can follow the first byte of a character.
abbrev pub is_continuation : ℕ → Bool
is_continuation byte = is_within 0x80 0xBF byte

-- Returns true if the two bytes encode an acting character.
abbrev pub is_acting_pair : ℕ → ℕ → Bool
is_acting_pair first second =
    is_within 0xC0 0xDF first && (is_continuation second && is_acting (number_of_two first second))

-- Returns true if the three bytes encode an acting character.
abbrev pub is_acting_triple : ℕ → ℕ → ℕ → Bool
is_acting_triple first second third =
    is_within 0xE0 0xEF first
    && (is_continuation second && (is_continuation third && is_acting (number_of_three first second third)))

-- Returns true if the four bytes encode an acting character.
abbrev pub is_acting_quad : ℕ → ℕ → ℕ → ℕ → Bool
is_acting_quad first second third fourth =
    is_within 0xF0 0xF7 first
    && (is_continuation second && (is_continuation third
    && (is_continuation fourth && is_acting (number_of_four first second third fourth))))

-- Returns the hexadecimal digit of `digit`.
abbrev pub hex : ℕ → List ℕ
hex digit = digits 16 false digit

-- Returns the escape in JSON of a unit of UTF-16: four hexadecimal digits (RFC 8259, section 7).
abbrev pub unit_escape : ℕ → List ℕ
unit_escape unit =
    codes "\\u" ++ hex (unit / 4096 % 16) ++ hex (unit / 256 % 16) ++ hex (unit / 16 % 16) ++ hex (unit % 16)

-- Returns the escape of the character `number`. For a screen it has hexadecimal digits between braces. In JSON a
-- character above U+FFFF has two units (RFC 8259, section 7).
abbrev pub escape : Escaping → ℕ → List ℕ
escape Screen number = codes "\\u{" ++ digits 16 false number ++ codes "}"
escape Json number =
    if nat_lt number 0x10000 then unit_escape number
    else unit_escape (0xD800 + (number - 0x10000) / 1024) ++ unit_escape (0xDC00 + (number - 0x10000) % 1024)

-- Returns true for a quotation mark and a backslash, which have a backslash before them in a string of JSON.
abbrev pub needs_backslash : ℕ → Bool
needs_backslash byte = (byte == 0x22) || (byte == 0x5C)

-- Returns true for a control character of ASCII.
abbrev pub is_control : ℕ → Bool
is_control byte = nat_lt byte 0x20 || (byte == 0x7F)

-- Returns the text of a byte that begins no acting character of two bytes or more. A control character of
-- ASCII becomes an escape, since a path may have one. In JSON a quotation mark and a backslash get a backslash.
abbrev pub byte_text : Escaping → ℕ → List ℕ
byte_text Screen byte = if is_control byte then escape Screen byte else byte ∷ []
byte_text Json byte =
    if needs_backslash byte then 0x5C ∷ byte ∷ [] else (if is_control byte then escape Json byte else byte ∷ [])

-- Returns `text` with an escape for each acting character and each control character of ASCII. In JSON a quotation mark
-- and a backslash get a backslash. All other bytes stay.
unfoldable pub written : Escaping → List ℕ → List ℕ
written escaping (first ∷ second ∷ third ∷ fourth ∷ rest) =
    if is_acting_pair first second
    then escape escaping (number_of_two first second) ++ written escaping (third ∷ fourth ∷ rest)
    else (if is_acting_triple first second third
    then escape escaping (number_of_three first second third) ++ written escaping (fourth ∷ rest)
    else (if is_acting_quad first second third fourth
    then escape escaping (number_of_four first second third fourth) ++ written escaping rest
    else byte_text escaping first ++ written escaping (second ∷ third ∷ fourth ∷ rest)))
written escaping (first ∷ second ∷ third ∷ []) =
    if is_acting_pair first second then escape escaping (number_of_two first second) ++ byte_text escaping third
    else (if is_acting_triple first second third then escape escaping (number_of_three first second third)
    else byte_text escaping first ++ written escaping (second ∷ third ∷ []))
written escaping (first ∷ second ∷ []) =
    if is_acting_pair first second then escape escaping (number_of_two first second)
    else byte_text escaping first ++ byte_text escaping second
written escaping (first ∷ []) = byte_text escaping first
written escaping [] = []

-- Returns `text`, an item or a path, with escapes for a screen.
abbrev pub escaped : List ℕ → List ℕ
escaped text = written Screen text

-- Given `Some (number, rest)`, `written` writes `first ∷ after` as the escape of `number`, and then writes `rest`,
-- which is not longer than `after`. Given None, `written` writes the byte `first` by itself.
abbrev pub IsActingPrefix : Escaping → ℕ → List ℕ → Option (ℕ × List ℕ) → Type 0
IsActingPrefix escaping first after (Some (number, rest)) =
    (written escaping (first ∷ after) ≡ escape escaping number ++ written escaping rest)
    × (length rest ≤ length after)
IsActingPrefix escaping first after None =
    written escaping (first ∷ after) ≡ byte_text escaping first ++ written escaping after
