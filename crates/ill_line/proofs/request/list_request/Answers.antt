-- Answers the contract of `list_request` (`src/request.rt`).
use Rattle.ill_line.proofs.RequestLemmas.{error_reads, refused_after}
use Rattle.ill_line.proofs.request.list_request.Goals as goal

-- A justified refusal of the choice of loans is a justified refusal of the request.
pub returns-in_err-wanted : goal.returns-in_err-wanted
returns-in_err-wanted c =
    error_reads _ _ c.from_residual-in_err-wanted.result c.in_err-wanted.field-0.0 c.from_residual-in_err-wanted.ensures.1
    (refused_after _ _ _ _ _ c.in_ok-paths.ensures c.in_err-wanted.ensures)
