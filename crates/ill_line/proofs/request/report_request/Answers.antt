-- Answers the contract of `report_request` (`src/request.rt`).
use Rattle.ill_line.proofs.RequestLemmas.{error_reads, refused_after}
use Rattle.ill_line.proofs.request.report_request.Goals as goal

-- A justified refusal of the day since which news are told is a justified refusal of the request.
pub returns-in_err-since : goal.returns-in_err-since
returns-in_err-since c =
    error_reads _ _ c.from_residual-in_err-since.result c.in_err-since.field-0.0 c.from_residual-in_err-since.ensures.1
    (refused_after _ _ _ _ _ c.in_ok-paths.ensures c.in_err-since.ensures)
