-- Proves the contract of `the_responder_has_heard_all` (`src/night_laws.rt`).
use Rattle.ill_progress.proofs.WorkedNights.{worked_hears}
use Rattle.ill_progress.proofs.night_laws.the_responder_has_heard_all.Goals as goal

-- The responder hears all in the requester's half, and its deeds keep it so.
pub returns : goal.returns
returns c = λ txn w people stands all.
    worked_hears txn (c.night_facts.ensures txn) w people stands all
