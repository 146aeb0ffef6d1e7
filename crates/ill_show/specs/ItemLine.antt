-- The line of the item of a loan, below the line of an outcome.
use Rattle.std.specs.Prelude.{ℕ, List, [], ◌++◌, codes, Option, None, Some}
use Rattle.ill_text.specs.Escape.{escaped}
use Rattle.ill_text.specs.Lines.{line}
use Rattle.ill_record.specs.declared.side.Side.{Side}
use Rattle.ill_words.specs.Possible.{item_asked, request_of}

-- Returns the item of a loan, if there is one.
abbrev pub item_of : Option Side → Option (List ℕ)
item_of None = None
item_of (Some side) = item_asked (request_of side)

-- Returns the line of an item, with two spaces before it. Without an item there is no line.
abbrev pub item_line : Option (List ℕ) → List ℕ
item_line None = []
item_line (Some item) = codes "  " ++ line (codes "item") (escaped item)
