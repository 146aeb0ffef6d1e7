-- Proves the contract of `nobody_forges_a_message` (`src/laws.rt`).
use Rattle.std.specs.List.{concat}
use Rattle.ill_room.proofs.laws.nobody_forges_a_message.Goals as goal

-- The messages together are the text of a letter that opens. By the law on letters nobody forges that text.
pub returns : goal.returns
returns c key letter messages texts came sender others comes opens =
    c.nobody_forges_a_letter.ensures key letter (concat messages) texts came sender others comes opens
