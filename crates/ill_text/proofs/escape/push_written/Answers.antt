-- Answers the contract of `push_written` (`src/escape.rt`).
use Rattle.std.proofs.Common.{◌++◌}
use Rattle.std.proofs.lemmas.List.{nil_from_length}
use Rattle.ill_text.specs.Escape.{written}
use Rattle.ill_text.proofs.EscapeLemmas.{none_left}
use Rattle.ill_text.proofs.escape.push_written.Goals as goal

-- Proves the contract of `push_written`. After the loop no byte is left to write.
pub returns : goal.returns
returns c =
    none_left c.args.escaping c.loop-first.text.items (c.args.text.now.items ++ written c.args.escaping c.args.item.now)
    c.loop-first.rest.now c.loop-first.invariant.shown
    (nil_from_length c.loop-first.rest.now c.in_default.ensures.cases)
