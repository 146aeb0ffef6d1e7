-- Answers the contract of `said` (`src/request.rt`).
use Rattle.std.proofs.Common.{Some, None, sym}
use Rattle.ill_line.proofs.RequestLemmas.{text_said}
use Rattle.ill_line.proofs.request.said.Goals as goal

-- Proves the contract of `said` if the parser has a text. By `text_said` it is the text of the argument.
pub returns-in-Some : goal.returns-in-Some
returns-in-Some c = sym (text_said c.args.matches.now c.id.result.now c.args.argument (Some c.in-Some.text.now) c.id.ensures
    c.in-Some.ensures)

-- Proves the contract of `said` if the parser has no text. By `text_said` the argument has none.
pub returns-in-None : goal.returns-in-None
returns-in-None c = sym (text_said c.args.matches.now c.id.result.now c.args.argument None c.id.ensures c.in-None.ensures)
