-- Answers the contract of `quarantine_message_file` (`src/moves.rt`).
use Rattle.ill_message_disk.specs.MessageFileCalls.{Brings}
use Rattle.ill_message_disk.specs.Spots.{quarantined_paths}
use Rattle.ill_message_disk.proofs.Apart.{apart_of}
use Rattle.ill_message_disk.proofs.Calling.{at_paths, touches_at}
use Rattle.ill_message_disk.proofs.Staying.{stays_tell, stays_then}
use Rattle.ill_message_disk.proofs.Quarantining.{quarantined_fails, quarantined_unclaimed, quarantined_waits, quarantined_done}
use Rattle.ill_message_disk.proofs.Quarantining.{stays_reason}
use Rattle.ill_message_disk.proofs.moves.quarantine_message_file.Goals as goal

-- The look at the claimed path failed.
pub returns-in_err-is_claimed : goal.returns-in_err-is_claimed
returns-in_err-is_claimed g c = quarantined_fails c.from_residual.ensures.0
    (stays_tell (quarantined_paths c.args.spot.now) c.args.spot.now c.is_claimed.ensures.tells)

-- The file does not stand at its claimed path.
pub returns-then-not-branch : goal.returns-then-not-branch
returns-then-not-branch g c = quarantined_unclaimed c.if-not-branch.true c.in_ok-is_claimed.ensures.tells

-- The look at the path in the folder failed.
pub returns-in_err-is_waiting : goal.returns-in_err-is_waiting
returns-in_err-is_waiting g c = quarantined_fails c.from_residual-in_err-is_waiting.ensures.0
    (stays_then (stays_tell (quarantined_paths c.args.spot.now) c.args.spot.now c.is_claimed.ensures.tells)
    (stays_tell (quarantined_paths c.args.spot.now) c.args.spot.now c.is_waiting.ensures))

-- The file waits in the folder.
pub returns-then-branch : goal.returns-then-branch
returns-then-branch g c = quarantined_waits c.if-branch.true c.is_claimed.ensures.tells c.in_ok-is_waiting.ensures

-- The reason could not be written. The message file stayed at its place.
pub returns-in_err-write_reason : goal.returns-in_err-write_reason
returns-in_err-write_reason g c = quarantined_fails c.from_residual-in_err-write_reason.ensures.0
    (stays_then (stays_tell (quarantined_paths c.args.spot.now) c.args.spot.now c.is_claimed.ensures.tells)
    (stays_then (stays_tell (quarantined_paths c.args.spot.now) c.args.spot.now c.is_waiting.ensures)
    (stays_reason c.args.spot.now (apart_of c.args.spot.now c.is_claimed.ensures.apart)
    (g.D.Disk.state c.is_waiting.new.disk) (g.D.Disk.state c.write_reason.new.disk)
    (touches_at c.reason.ensures c.write_reason.ensures))))

-- The message file is claimed and does not wait, its reason was written, and the rename is done or failed.
pub returns : goal.returns
returns g c = quarantined_done (apart_of c.args.spot.now c.is_claimed.ensures.apart) c.if-not-branch.false c.if-branch.false
    c.in_ok-is_claimed.ensures.tells c.in_ok-is_waiting.ensures (touches_at c.reason.ensures c.write_reason.ensures)
    (at_paths (λ p q. Brings p q) c.claimed.ensures c.quarantined.ensures c.bring.ensures)
