-- Answers the contract of `wanted` (`src/request.rt`).
use Rattle.ill_line.proofs.RequestLemmas.{error_reads, read_after, refused_after, refused_on}
use Rattle.ill_line.proofs.request.wanted.Goals as goal

-- A justified refusal of the day `today` is a justified refusal of the conditions on the loans.
pub returns-in_err-today : goal.returns-in_err-today
returns-in_err-today c =
    error_reads _ _ c.from_residual.result c.in_err-today.field-0.0 c.from_residual.ensures.1
    (refused_on _ _ _ c.in_err-today.ensures)

-- The day `today` was read. A justified refusal of the day of the news is a justified refusal of the conditions.
pub returns-in_err-since : goal.returns-in_err-since
returns-in_err-since c =
    error_reads _ _ c.from_residual-in_err-since.result c.in_err-since.field-0.0 c.from_residual-in_err-since.ensures.1
    (refused_after _ _ _ _ _ c.in_ok-today.ensures c.in_err-since.ensures)

-- Proves the contract of `wanted`. By `read_after` the other arguments are read after the two days.
pub returns : goal.returns
returns c =
    read_after _ _ _ _ _ c.in_ok-today.ensures (read_after _ _ _ _ _ c.in_ok-since.ensures c.wanted_on.ensures)
