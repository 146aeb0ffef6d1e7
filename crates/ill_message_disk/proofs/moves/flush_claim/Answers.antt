-- Answers the contract of `flush_claim` (`src/moves.rt`).
use Rattle.std.proofs.Common.{[], ◌∷◌}
use Rattle.ill_disk.specs.Calls.{Changes}
use Rattle.ill_message_disk.specs.MessageFileCalls.{after_flush_name}
use Rattle.ill_message_disk.proofs.Calling.{at_path, tells_touches}
use Rattle.ill_message_disk.proofs.Flushing.{flushes_claimed, unseen_flushes}
use Rattle.ill_message_disk.proofs.moves.flush_claim.Goals as goal

-- The look at the claimed path failed.
pub returns-in_err-is_claimed : goal.returns-in_err-is_claimed
returns-in_err-is_claimed g c = unseen_flushes c.from_residual.ensures.0 c.is_claimed.ensures.tells

-- The file does not stand at its claimed path, and nothing was flushed.
pub returns-then-not-branch : goal.returns-then-not-branch
returns-then-not-branch g c =
    record { touches = tells_touches (c.args.spot.now.claimed ∷ []) c.is_claimed.ensures.tells; lasts = tt }

-- The file stands at its claimed path, and the flush of that name is done or failed.
pub returns : goal.returns
returns g c = flushes_claimed c.if-not-branch.false c.in_ok-is_claimed.ensures.tells
    (at_path (λ p. Changes (after_flush_name p)) c.claimed.ensures c.flush_name.ensures)
