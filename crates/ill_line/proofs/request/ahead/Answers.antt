-- Answers the contract of `ahead` (`src/request.rt`).
use Rattle.std.proofs.Common.{Some, None, ap, sym, ◌∙◌}
use Rattle.std.specs.Prelude.{is_none}
use Rattle.ill_line.specs.declared.command_line.Argument.TheVariants.{Ahead}
use Rattle.ill_line.specs.Asked.{days_said}
use Rattle.ill_line.proofs.RequestLemmas.{ahead_read, text_said}
use Rattle.ill_line.proofs.request.ahead.Goals as goal

-- Proves the contract of `ahead` if the word is a number. By `ahead_read` it is the number of the argument.
pub returns-in-Some-number : goal.returns-in-Some-number
returns-in-Some-number c =
    ahead_read c.args.matches.now _ _ _ (Some c.in-Some-number.days) c.id.ensures c.in-Some.ensures
    c.as_bytes.ensures.value c.in-Some-number.ensures
    ∙ ap Some (sym (c.into.ensures ∙ c.get.ensures.value))

-- Proves the contract of `ahead` if the word is no number. By `ahead_read`, `ahead_in` is None, so the refusal is
-- justified.
pub returns-in-None-number : goal.returns-in-None-number
returns-in-None-number c = ap is_none
    (ahead_read c.args.matches.now _ _ _ None c.id.ensures c.in-Some.ensures c.as_bytes.ensures.value c.in-None-number.ensures)

-- Proves the contract of `ahead` if the option is not given. By `text_said`, `ahead_in` is then the number `SOON`.
pub returns-in-None : goal.returns-in-None
returns-in-None c = ap days_said (text_said c.args.matches.now _ Ahead None c.id.ensures c.in-None.ensures)
