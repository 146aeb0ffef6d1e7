-- Answers the contract of `last` (`src/request.rt`).
use Rattle.std.proofs.Common.{Some, None, ap}
use Rattle.std.specs.Prelude.{is_none}
use Rattle.ill_line.specs.declared.command_line.Argument.TheVariants.{Last}
use Rattle.ill_line.specs.Asked.{number_said}
use Rattle.ill_line.proofs.RequestLemmas.{last_read, text_said}
use Rattle.ill_line.proofs.request.last.Goals as goal

-- Proves the contract of `last` if the word is a number. By `last_read` it is the number of the argument.
pub returns-in-Some-number : goal.returns-in-Some-number
returns-in-Some-number c = last_read c.args.matches.now _ _ _ (Some c.in-Some-number.last) c.id.ensures c.in-Some.ensures
    c.as_bytes.ensures.value c.in-Some-number.ensures

-- Proves the contract of `last` if the word is no number. By `last_read`, `last_in` is None: the refusal is justified.
pub returns-in-None-number : goal.returns-in-None-number
returns-in-None-number c = ap is_none
    (last_read c.args.matches.now _ _ _ None c.id.ensures c.in-Some.ensures c.as_bytes.ensures.value c.in-None-number.ensures)

-- Proves the contract of `last` if the option is not given. By `text_said`, `last_in` is then Some None.
pub returns-in-None : goal.returns-in-None
returns-in-None c = ap number_said (text_said c.args.matches.now _ Last None c.id.ensures c.in-None.ensures)
