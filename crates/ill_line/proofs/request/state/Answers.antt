-- Answers the contract of `state` (`src/request.rt`).
use Rattle.std.proofs.Common.{Some, None, ap}
use Rattle.std.specs.Prelude.{is_none}
use Rattle.ill_line.specs.declared.command_line.Argument.TheVariants.{InState}
use Rattle.ill_line.specs.Asked.{state_said}
use Rattle.ill_line.proofs.RequestLemmas.{state_read, text_said}
use Rattle.ill_line.proofs.request.state.Goals as goal

-- Proves the contract of `state` if the word is a state. By `state_read` it is the state of the argument.
pub returns-in-Some-read : goal.returns-in-Some-read
returns-in-Some-read c = state_read c.args.matches.now _ _ _ (Some c.in-Some-read.state) c.id.ensures c.in-Some.ensures
    c.as_bytes.ensures.value c.in-Some-read.ensures

-- Proves the contract of `state` if the word is no state. By `state_read`, `state_in` is None, so the refusal is
-- justified.
pub returns-in-None-read : goal.returns-in-None-read
returns-in-None-read c = ap is_none
    (state_read c.args.matches.now _ _ _ None c.id.ensures c.in-Some.ensures c.as_bytes.ensures.value c.in-None-read.ensures)

-- Proves the contract of `state` if the option is not given. By `text_said`, `state_in` is then Some None.
pub returns-in-None : goal.returns-in-None
returns-in-None c = ap state_said (text_said c.args.matches.now _ InState None c.id.ensures c.in-None.ensures)
