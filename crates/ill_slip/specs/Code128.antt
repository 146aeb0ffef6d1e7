-- The Code 128 of a text (ISO/IEC 15417), in code set B alone. It has the characters of ASCII from space to tilde.
use Rattle.std.specs.Prelude.{ℕ, ◌+◌, ◌-◌, ◌*◌, ◌/◌, ◌%◌, suc, Bool, ◌&&◌, ◌==◌, nat_le, nat_lt, if◌then◌else◌}
use Rattle.std.specs.Prelude.{List, [], ◌∷◌, ◌++◌, map, codes, slice_index, position, Option, Some, None, option_and_then}
use Rattle.std.specs.Option.{option_map}
use Rattle.std.specs.List.{flat_map}
use Rattle.std.specs.Str.{bytes_eq}

-- ---- a code

-- The symbols, in the order of their values. The digits of a symbol are the widths of a bar, a space, a bar and so on,
-- in modules.
abbrev pub symbols : List ℕ
symbols =
    212222 ∷ 222122 ∷ 222221 ∷ 121223 ∷ 121322 ∷ 131222 ∷ 122213 ∷ 122312 ∷ 132212 ∷ 221213 ∷ 221312 ∷ 231212
    ∷ 112232 ∷ 122132 ∷ 122231 ∷ 113222 ∷ 123122 ∷ 123221 ∷ 223211 ∷ 221132 ∷ 221231 ∷ 213212 ∷ 223112 ∷ 312131
    ∷ 311222 ∷ 321122 ∷ 321221 ∷ 312212 ∷ 322112 ∷ 322211 ∷ 212123 ∷ 212321 ∷ 232121 ∷ 111323 ∷ 131123 ∷ 131321
    ∷ 112313 ∷ 132113 ∷ 132311 ∷ 211313 ∷ 231113 ∷ 231311 ∷ 112133 ∷ 112331 ∷ 132131 ∷ 113123 ∷ 113321 ∷ 133121
    ∷ 313121 ∷ 211331 ∷ 231131 ∷ 213113 ∷ 213311 ∷ 213131 ∷ 311123 ∷ 311321 ∷ 331121 ∷ 312113 ∷ 312311 ∷ 332111
    ∷ 314111 ∷ 221411 ∷ 431111 ∷ 111224 ∷ 111422 ∷ 121124 ∷ 121421 ∷ 141122 ∷ 141221 ∷ 112214 ∷ 112412 ∷ 122114
    ∷ 122411 ∷ 142112 ∷ 142211 ∷ 241211 ∷ 221114 ∷ 413111 ∷ 241112 ∷ 134111 ∷ 111242 ∷ 121142 ∷ 121241 ∷ 114212
    ∷ 124112 ∷ 124211 ∷ 411212 ∷ 421112 ∷ 421211 ∷ 212141 ∷ 214121 ∷ 412121 ∷ 111143 ∷ 111341 ∷ 131141 ∷ 114113
    ∷ 114311 ∷ 411113 ∷ 411311 ∷ 113141 ∷ 114131 ∷ 311141 ∷ 411131 ∷ 211412 ∷ 211214 ∷ 211232 ∷ 233111 ∷ []

-- Returns true if code set B has the character.
abbrev pub is_character : ℕ → Bool
is_character character = nat_le 32 character && nat_le character 126

-- Returns the value of a character.
abbrev pub value_of : ℕ → ℕ
value_of character = character - 32

-- The value of the symbol that begins a code in code set B.
abbrev pub start : ℕ
start = 104

-- The value of the symbol that ends each code. A bar of two modules stands after it.
abbrev pub stop : ℕ
stop = 106

-- Returns the sum of the values of a text, each times its position. `place` is the position of the first character.
abbrev pub weighted : ℕ → List ℕ → ℕ
weighted place [] = 0
weighted place (character ∷ text) = place * value_of character + weighted (suc place) text

-- Returns the check value of a text: the start value and the sum `weighted`, modulo 103.
abbrev pub check : List ℕ → ℕ
check text = (start + weighted 1 text) % 103

-- Returns the values of the symbols of a text: the start, its characters, the check value and the stop.
abbrev pub values : List ℕ → List ℕ
values text = start ∷ map value_of text ++ check text ∷ stop ∷ []

-- Returns the six widths of a symbol.
abbrev pub widths : ℕ → List ℕ
widths symbol =
    symbol / 100000 % 10 ∷ symbol / 10000 % 10 ∷ symbol / 1000 % 10 ∷ symbol / 100 % 10 ∷ symbol / 10 % 10 ∷ symbol % 10 ∷ []

-- Returns the widths of the symbol with this value.
abbrev pub symbol : ℕ → List ℕ
symbol value = widths (slice_index symbols value)

-- Returns the widths of the bars and spaces of a text.
unfoldable pub encoded : List ℕ → List ℕ
encoded text = flat_map symbol (values text) ++ 2 ∷ []

-- ---- a drawing of bars and spaces

-- Returns the commands of SVG that draw bars and spaces of these widths: a line for a bar, and a move for a space.
abbrev pub path : List ℕ → List ℕ
path [] = []
path (bar ∷ []) = codes "h" ++ (48 + bar) ∷ []
path (bar ∷ space ∷ rest) = codes "h" ++ (48 + bar) ∷ codes "m" ++ (48 + space) ∷ codes " 0" ++ path rest

-- Returns the commands that draw the symbol with this value.
unfoldable pub drawn : ℕ → List ℕ
drawn value = path (symbol value)

-- ---- a reader

-- Returns the value of the symbol with these six widths, or `None` if no symbol has them.
abbrev pub value_with : List ℕ → Option ℕ
value_with six = position (λ symbol. bytes_eq (widths symbol) six) symbols

-- Returns the values of the symbols with these widths, which a bar of two modules ends. If the widths are no such
-- symbols, it returns `None`.
abbrev pub values_in : List ℕ → Option (List ℕ)
values_in [] = None
values_in (bar ∷ []) = if bar == 2 then Some [] else None
values_in (a ∷ b ∷ c ∷ d ∷ e ∷ f ∷ rest) =
    option_and_then (λ value. option_map (λ values. value ∷ values) (values_in rest))
    (value_with (a ∷ b ∷ c ∷ d ∷ e ∷ f ∷ []))
values_in other = None

-- Returns the text of values that end with a check value and the stop. `sum` is the sum of the values before them,
-- and `place` the position of the first. If the check value is wrong or a value is no character, it returns `None`.
abbrev pub text_in : ℕ → ℕ → List ℕ → Option (List ℕ)
text_in sum place [] = None
text_in sum place (value ∷ rest) =
    if bytes_eq rest (stop ∷ []) then (if value == sum % 103 then Some [] else None)
    else (if nat_lt value 95 then option_map (λ text. (value + 32) ∷ text) (text_in (sum + place * value) (suc place) rest)
    else None)

-- Returns the text of the values of a code, or `None` if they are no code in code set B.
abbrev pub text_of : List ℕ → Option (List ℕ)
text_of [] = None
text_of (first ∷ rest) = if first == start then text_in start 1 rest else None

-- Returns the text that a reader finds in bars and spaces of these widths, or `None` if it finds none.
abbrev pub decoded : List ℕ → Option (List ℕ)
decoded found = option_and_then text_of (values_in found)
