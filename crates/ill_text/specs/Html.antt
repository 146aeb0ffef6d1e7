-- A text of any bytes in a page of HTML. A browser shows it, and interprets none of it.
use Rattle.std.specs.Prelude.{ℕ, Bool, not, ◌||◌, ◌==◌, if◌then◌else◌, List, [], ◌∷◌, codes}
use Rattle.std.specs.List.{flat_map}
use Rattle.ill_text.specs.Escape.{escaped}

-- Returns `byte`, or the HTML entity for it. It has one if it could begin or end an element, an attribute or
-- an entity.
abbrev pub html_byte : ℕ → List ℕ
html_byte byte =
    if byte == 0x26 then codes "&amp;"
    else (if byte == 0x3C then codes "&lt;"
    else (if byte == 0x3E then codes "&gt;"
    else (if byte == 0x22 then codes "&quot;"
    else (if byte == 0x27 then codes "&#39;"
    else byte ∷ []))))

-- Returns `text` with an HTML entity in place of each byte that has one (`html_byte`).
abbrev pub html_escaped : List ℕ → List ℕ
html_escaped text = flat_map html_byte text

-- Returns a text that a person wrote, for a page. Characters that change the direction of the text around it
-- are escaped too.
abbrev pub html_text : List ℕ → List ℕ
html_text text = html_escaped (escaped text)

-- Returns true if `byte` begins or ends no element and no attribute: it is no `<`, `>` or quote.
abbrev pub is_inert : ℕ → Bool
is_inert byte = not (byte == 0x3C || (byte == 0x3E || (byte == 0x22 || byte == 0x27)))
