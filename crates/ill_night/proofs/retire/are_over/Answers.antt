-- Answers the contract of `are_over` (`src/retire.rt`).
use Rattle.std.proofs.Common.{sym, ◌∙◌}
use Rattle.std.proofs.lemmas.List.Folds.{list_all-map}
use Rattle.ill_words.specs.Sending.{is_over}
use Rattle.ill_night.proofs.retire.are_over.Goals as goal

-- Proves the contract of `are_over`. `are_each_over` tests each side.
pub returns : goal.returns
returns c = c.are_each_over.ensures ∙ sym (list_all-map is_over (λ side. side.now) c.args.sides.now)
