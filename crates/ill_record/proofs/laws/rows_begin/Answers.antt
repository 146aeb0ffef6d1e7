-- Proves the contract of `rows_begin` (`src/laws.rt`).
-- No wish or deed leads to IDLE, and no message leads a side back to IDLE.
use Rattle.ill_record.proofs.Transitions.{rows_stay}
use Rattle.ill_record.proofs.laws.rows_begin.Goals as goal

-- A side that is not idle is not idle after a transition.
pub returns-clause-stays : goal.returns-clause-stays
returns-clause-stays c =
    rows_stay (record {
      wish = c.requester_has_begun.ensures.acts;
      deed = c.responder_has_begun.ensures.acts;
      message = c.requester_has_begun.ensures.takes;
    })
    c.rows_keep_request.ensures
