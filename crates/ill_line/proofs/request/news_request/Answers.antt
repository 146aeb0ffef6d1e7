-- Answers the contract of `news_request` (`src/request.rt`).
use Rattle.ill_line.proofs.RequestLemmas.{error_reads, refused_after, refused_third}
use Rattle.ill_line.proofs.request.news_request.Goals as goal

-- A justified refusal of the number of messages is a justified refusal of the request.
pub returns-in_err-last : goal.returns-in_err-last
returns-in_err-last c =
    error_reads _ _ c.from_residual-in_err-last.result c.in_err-last.field-0.0 c.from_residual-in_err-last.ensures.1
    (refused_after _ _ _ _ _ c.in_ok-paths.ensures c.in_err-last.ensures)

-- A justified refusal of the day is a justified refusal of the request.
pub returns-in_err-since : goal.returns-in_err-since
returns-in_err-since c =
    error_reads _ _ c.from_residual-in_err-since.result c.in_err-since.field-0.0 c.from_residual-in_err-since.ensures.1
    (refused_third _ _ _ _ _ _ _ c.in_ok-paths.ensures c.in_ok-last.ensures c.in_err-since.ensures)
