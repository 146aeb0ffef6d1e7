-- Answers the contract of `day` (`src/request.rt`).
use Rattle.std.proofs.Common.{Ok, Err, None, ap}
use Rattle.std.specs.Prelude.{is_none}
use Rattle.ill_line.specs.Asked.{day_said}
use Rattle.ill_line.proofs.RequestLemmas.{day_read, text_said}
use Rattle.ill_line.proofs.request.day.Goals as goal

-- Proves the contract of `day` if the word is a day. By `day_read` it is the day of the argument.
pub returns-in-Ok : goal.returns-in-Ok
returns-in-Ok c = day_read c.args.matches.now _ _ _ c.args.argument (Ok c.in-Ok.day) c.id.ensures c.in-Some.ensures
    c.as_bytes.ensures.value c.in-Ok.ensures

-- Proves the contract of `day` if the word is no day. By `day_read`, `day_in` is None: the refusal is justified.
pub returns-in-Err : goal.returns-in-Err
returns-in-Err c = ap is_none (day_read c.args.matches.now _ _ _ c.args.argument (Err c.in-Err.field-0) c.id.ensures
    c.in-Some.ensures c.as_bytes.ensures.value c.in-Err.ensures)

-- Proves the contract of `day` if the option is not given. By `text_said`, `day_in` is then Some None.
pub returns-in-None : goal.returns-in-None
returns-in-None c = ap day_said (text_said c.args.matches.now _ c.args.argument None c.id.ensures c.in-None.ensures)
