-- Answers the contract of `span` (`src/request.rt`).
use Rattle.ill_line.proofs.RequestLemmas.{error_reads, refused_after, refused_on}
use Rattle.ill_line.proofs.request.span.Goals as goal

-- A justified refusal of the first day is a justified refusal of the span.
pub returns-in_err-first : goal.returns-in_err-first
returns-in_err-first c =
    error_reads _ _ c.from_residual.result c.in_err-first.field-0.0 c.from_residual.ensures.1
    (refused_on _ _ _ c.in_err-first.ensures)

-- The first day was read. A justified refusal of the last day is a justified refusal of the span.
pub returns-in_err-last : goal.returns-in_err-last
returns-in_err-last c =
    error_reads _ _ c.from_residual-in_err-last.result c.in_err-last.field-0.0 c.from_residual-in_err-last.ensures.1
    (refused_after _ _ _ _ _ c.in_ok-first.ensures c.in_err-last.ensures)
