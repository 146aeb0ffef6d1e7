-- Answers the contract of `figures_request` (`src/request.rt`).
use Rattle.ill_line.proofs.RequestLemmas.{error_reads, refused_after}
use Rattle.ill_line.proofs.request.figures_request.Goals as goal

-- A justified refusal of the span is a justified refusal of the request.
pub returns-in_err-span : goal.returns-in_err-span
returns-in_err-span c =
    error_reads _ _ c.from_residual-in_err-span.result c.in_err-span.field-0.0 c.from_residual-in_err-span.ensures.1
    (refused_after _ _ _ _ _ c.in_ok-paths.ensures c.in_err-span.ensures)
