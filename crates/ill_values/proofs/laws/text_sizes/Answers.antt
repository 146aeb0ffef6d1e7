-- Proves the law `laws::text_sizes`: a qualifier has 1 to 64 bytes, and an item 1 to 200.
use Rattle.std.specs.List.{list_all}
use Rattle.ill_values.specs.Text.{is_printable, is_item_text}
use Rattle.ill_values.proofs.Texts.{text_size}
use Rattle.ill_values.proofs.laws.text_sizes.Goals as goal

pub returns-clause-qualifier : goal.returns-clause-qualifier
returns-clause-qualifier c = text_size 64 (list_all is_printable)

pub returns-clause-item : goal.returns-clause-item
returns-clause-item c = text_size 200 is_item_text
