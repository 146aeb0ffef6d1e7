-- Answers the contract of `text` (`src/request.rt`).
use Rattle.std.proofs.Common.{Some}
use Rattle.ill_line.proofs.RequestLemmas.{text_said, none_said}
use Rattle.ill_line.proofs.request.text.Goals as goal

-- Proves the contract of `text` if the parser has a text. By `text_said` it is the text of the argument.
pub returns-in-Some : goal.returns-in-Some
returns-in-Some c = text_said c.args.matches.now c.id.result.now c.args.argument (Some c.in-Some.text.now) c.id.ensures
    c.in-Some.ensures

-- Proves the contract of `text` if the parser has no text. By `none_said` the refusal is justified.
pub returns-in-None : goal.returns-in-None
returns-in-None c = none_said c.args.matches.now c.id.result.now c.args.argument c.unknown.result c.id.ensures c.in-None.ensures
    c.unknown.ensures
