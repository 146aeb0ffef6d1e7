-- Answers the contract of `remove_message_file` (`src/moves.rt`).
use Rattle.std.proofs.Common.{[], ◌∷◌}
use Rattle.ill_message_disk.proofs.Apart.{apart_of}
use Rattle.ill_message_disk.proofs.Removed.{unseen_stays, unclaimed_stays, waiting_stays, quarantined_stays, removes_claimed}
use Rattle.ill_message_disk.proofs.Staying.{stays_tell, stays_then}
use Rattle.ill_message_disk.proofs.moves.remove_message_file.Goals as goal

-- The look at the claimed path failed.
pub returns-in_err-is_claimed : goal.returns-in_err-is_claimed
returns-in_err-is_claimed g c = unseen_stays c.from_residual.ensures.0
    (stays_tell (c.args.spot.now.claimed ∷ []) c.args.spot.now c.is_claimed.ensures.tells)

-- The file does not stand at its claimed path.
pub returns-then-not-branch : goal.returns-then-not-branch
returns-then-not-branch g c = unclaimed_stays c.if-not-branch.true c.in_ok-is_claimed.ensures.tells

-- The look at the path in the folder failed.
pub returns-in_err-is_waiting : goal.returns-in_err-is_waiting
returns-in_err-is_waiting g c = unseen_stays c.from_residual-in_err-is_waiting.ensures.0
    (stays_then (stays_tell (c.args.spot.now.claimed ∷ []) c.args.spot.now c.is_claimed.ensures.tells)
    (stays_tell (c.args.spot.now.claimed ∷ []) c.args.spot.now c.is_waiting.ensures))

-- The file waits in the folder.
pub returns-then-branch : goal.returns-then-branch
returns-then-branch g c = waiting_stays c.if-branch.true
    (stays_tell (c.args.spot.now.claimed ∷ []) c.args.spot.now c.is_claimed.ensures.tells) c.in_ok-is_waiting.ensures

-- The look at the path in quarantine failed.
pub returns-in_err-is_quarantined : goal.returns-in_err-is_quarantined
returns-in_err-is_quarantined g c = unseen_stays c.from_residual-in_err-is_quarantined.ensures.0
    (stays_then (stays_tell (c.args.spot.now.claimed ∷ []) c.args.spot.now c.is_claimed.ensures.tells)
    (stays_then (stays_tell (c.args.spot.now.claimed ∷ []) c.args.spot.now c.is_waiting.ensures)
    (stays_tell (c.args.spot.now.claimed ∷ []) c.args.spot.now c.is_quarantined.ensures)))

-- The file stands in quarantine.
pub returns-then-branch-2 : goal.returns-then-branch-2
returns-then-branch-2 g c = quarantined_stays c.if-branch-2.true
    (stays_then (stays_tell (c.args.spot.now.claimed ∷ []) c.args.spot.now c.is_claimed.ensures.tells)
    (stays_tell (c.args.spot.now.claimed ∷ []) c.args.spot.now c.is_waiting.ensures)) c.in_ok-is_quarantined.ensures

-- The file stands at its claimed path alone, and the removal of this path is done or failed.
pub returns : goal.returns
returns g c = removes_claimed (apart_of c.args.spot.now c.is_claimed.ensures.apart) c.if-branch.false c.if-branch-2.false
    (stays_tell (c.args.spot.now.claimed ∷ []) c.args.spot.now c.is_claimed.ensures.tells) c.in_ok-is_waiting.ensures
    c.in_ok-is_quarantined.ensures c.clear_claimed.ensures
