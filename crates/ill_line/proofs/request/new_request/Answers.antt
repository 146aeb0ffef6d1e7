-- Answers the contract of `new_request` (`src/request.rt`).
use Rattle.ill_line.proofs.RequestLemmas.{error_reads, refused_on}
use Rattle.ill_line.proofs.request.new_request.Goals as goal

-- A justified refusal of the file is a justified refusal of the request.
pub returns-in_err-file : goal.returns-in_err-file
returns-in_err-file c =
    error_reads _ _ c.from_residual.result c.in_err-file.field-0.0 c.from_residual.ensures.1
    (refused_on _ _ _ c.in_err-file.ensures)
