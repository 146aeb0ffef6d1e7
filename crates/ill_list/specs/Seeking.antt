-- The words that are sought in the loans of a list, and the annex of the desk.
use Rattle.std.specs.Prelude.{ℕ, List, filter, Option, option_map}
use Rattle.ill_record.specs.declared.side.Side.{Side}
use Rattle.ill_list.specs.declared.list.Sought.{Sought}
use Rattle.ill_rows.specs.Finding.{is_found}
use Rattle.ill_beside.specs.Since.{AnnexRead, annex_of}

-- The words that are sought in the loans of a desk, if there are any, and the annex of the desk.
pub record Seeking : Type 0 where
  pub find : Option (List ℕ)
  pub annex : AnnexRead

-- Returns the words that are sought, and the annex.
abbrev pub seeking_of : Sought → Seeking
seeking_of sought = record { find = option_map (λ words. words.now) sought.find; annex = annex_of sought.annex.now }

-- Returns the loans of `sides` that are found, in their order.
abbrev pub found_of : Seeking → List Side → List Side
found_of seeking sides = filter (is_found seeking.find seeking.annex.notes) sides
