-- Proves the contract of `two_nights_are_enough` (`src/night_laws.rt`).
use Rattle.ill_progress.proofs.WorkedNights.{two_late_nights}
use Rattle.ill_progress.proofs.night_laws.two_nights_are_enough.Goals as goal

-- In the middle is a night, and the last half says nothing new.
pub returns : goal.returns
returns c = λ txn asked w stands can.
    two_late_nights txn (c.night_facts.ensures txn) asked w stands can
