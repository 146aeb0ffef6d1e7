-- Answers the contract of `dates_and_stamp` (`src/request.rt`).
use Rattle.ill_line.proofs.RequestLemmas.{error_reads, refused_at, refused_mapped, refused_on}
use Rattle.ill_line.proofs.request.dates_and_stamp.Goals as goal

-- A justified refusal of the deeds with their day is a justified refusal of `dates_and_stamp`.
pub returns-in_err-dates : goal.returns-in_err-dates
returns-in_err-dates c =
    error_reads _ _ c.from_residual.result c.in_err-dates.field-0.0 c.from_residual.ensures.1
    (refused_on _ _ _ c.in_err-dates.ensures)

-- The deeds were read. A justified refusal of the stamp is a justified refusal of `dates_and_stamp`.
pub returns-in-Err : goal.returns-in-Err
returns-in-Err c = refused_at _ _ _ _ c.in_ok-dates.ensures (refused_mapped _ _ _ c.in-Err.ensures)
