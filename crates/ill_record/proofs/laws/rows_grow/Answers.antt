-- Proves the contract of `rows_grow` (`src/laws.rt`).
-- Each transition of a requester or a responder keeps the transaction and appends at most one message.
use Rattle.ill_record.proofs.Transitions.{row_grows}
use Rattle.ill_record.proofs.laws.rows_grow.Goals as goal

-- A side grows by each transition.
pub returns : goal.returns
returns c = row_grows (record {
  wish_txn = c.requester_keeps_txn.ensures.acts;
  wish_issues = c.requester_issues.ensures.acts;
  deed_txn = c.responder_keeps_txn.ensures.acts;
  deed_issues = c.responder_issues.ensures.acts;
  requester_txn = c.requester_keeps_txn.ensures.takes;
  requester_issues = c.requester_issues.ensures.takes;
  responder_txn = c.responder_keeps_txn.ensures.takes;
  responder_issues = c.responder_issues.ensures.takes;
})
