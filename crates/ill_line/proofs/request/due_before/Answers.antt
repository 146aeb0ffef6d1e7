-- Answers the contract of `due_before` (`src/request.rt`).
use Rattle.std.proofs.Common.{Some, None, ap}
use Rattle.std.specs.Prelude.{is_none}
use Rattle.ill_line.specs.declared.command_line.Argument.TheVariants.{DueBefore}
use Rattle.ill_line.specs.Asked.{due_said}
use Rattle.ill_line.proofs.RequestLemmas.{due_read, text_said}
use Rattle.ill_line.proofs.request.due_before.Goals as goal

-- Proves the contract of `due_before` if the word is a day. By `due_read` it is the day of the argument.
pub returns-in-Some-day_or_days : goal.returns-in-Some-day_or_days
returns-in-Some-day_or_days c = due_read c.args.matches.now _ _ _ c.args.today (Some c.in-Some-day_or_days.day) c.id.ensures
    c.in-Some.ensures c.as_bytes.ensures.value c.in-Some-day_or_days.ensures

-- Proves the contract of `due_before` if the word says no day. By `due_read`, `due_in` is None, so the refusal is
-- justified.
pub returns-in-None-day_or_days : goal.returns-in-None-day_or_days
returns-in-None-day_or_days c = ap is_none
    (due_read c.args.matches.now _ _ _ c.args.today None c.id.ensures c.in-Some.ensures c.as_bytes.ensures.value
    c.in-None-day_or_days.ensures)

-- Proves the contract of `due_before` if the option is not given. By `text_said`, `due_in` is then Some None.
pub returns-in-None : goal.returns-in-None
returns-in-None c = ap (due_said c.args.today) (text_said c.args.matches.now _ DueBefore None c.id.ensures c.in-None.ensures)
