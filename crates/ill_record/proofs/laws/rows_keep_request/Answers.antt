-- Proves the contract of `rows_keep_request` (`src/laws.rt`).
use Rattle.ill_record.proofs.Transitions.{row_keeps_request}
use Rattle.ill_record.proofs.laws.rows_keep_request.Goals as goal

-- Each transition keeps the request.
pub returns : goal.returns
returns c = row_keeps_request (record {
  deed = c.responder_keeps_request.ensures.acts;
  message = c.responder_keeps_request.ensures.takes;
})
