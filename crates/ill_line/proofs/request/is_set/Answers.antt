-- Answers the contract of `is_set` (`src/request.rt`).
use Rattle.std.proofs.Common.{Some, None, ap, sym, ◌∙◌}
use Rattle.ill_line.specs.Asked.{is_true}
use Rattle.ill_line.proofs.RequestLemmas.{text_said}
use Rattle.ill_line.proofs.request.is_set.Goals as goal

-- Proves the contract of `is_set` if the flag has a text. The flag is set if and only if this text is `true`.
pub returns-in-Some : goal.returns-in-Some
returns-in-Some c = c.eq.ensures
    ∙ sym (ap is_true (text_said c.args.matches.now c.id.result.now c.args.flag (Some c.in-Some.text.now) c.id.ensures
    c.in-Some.ensures))

-- Proves the contract of `is_set` if the flag has no text. Then it is not set.
pub returns-in-None : goal.returns-in-None
returns-in-None c = sym (ap is_true
    (text_said c.args.matches.now c.id.result.now c.args.flag None c.id.ensures c.in-None.ensures))
