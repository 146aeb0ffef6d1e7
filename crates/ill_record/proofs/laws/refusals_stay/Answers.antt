-- Proves the contract of `refusals_stay` (`src/laws.rt`).
use Rattle.ill_record.proofs.Transitions.{refusals_stay}
use Rattle.ill_record.proofs.laws.refusals_stay.Goals as goal

-- An APDU that is refused leaves the side unchanged.
pub returns : goal.returns
returns c = refusals_stay c.requester_is_quiet.ensures c.responder_is_quiet.ensures
