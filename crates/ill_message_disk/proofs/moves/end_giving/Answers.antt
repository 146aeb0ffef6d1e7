-- Answers the contract of `end_giving` (`src/moves.rt`).
use Rattle.ill_disk.specs.Calls.{Changes}
use Rattle.ill_message_disk.specs.MessageFileCalls.{after_flush_name}
use Rattle.ill_message_disk.proofs.Apart.{apart_of}
use Rattle.ill_message_disk.proofs.Calling.{at_path}
use Rattle.ill_message_disk.proofs.Staying.{stays_then}
use Rattle.ill_message_disk.proofs.GivingBack.{flush_stays, flush_lasts, clear_stays}
use Rattle.ill_message_disk.proofs.moves.end_giving.Goals as goal

-- The flush failed, and the message file stays at its place.
pub returns-in_err-flush_name : goal.returns-in_err-flush_name
returns-in_err-flush_name g c =
    flush_stays c.args.spot.now (apart_of c.args.spot.now c.waiting.ensures.apart) c.requires
    (at_path (λ p. Changes (after_flush_name p)) c.waiting.ensures.path c.flush_name.ensures)

-- The flush is done, so the message file waits after each crash. It stays when its claimed name is removed.
pub returns : goal.returns
returns g c =
    let apart = apart_of c.args.spot.now c.waiting.ensures.apart in
    stays_then (flush_stays c.args.spot.now apart c.requires
    (at_path (λ p. Changes (after_flush_name p)) c.waiting.ensures.path c.flush_name.ensures))
    (clear_stays c.args.spot.now apart (flush_lasts c.args.spot.now apart c.requires
    (at_path (λ p. Changes (after_flush_name p)) c.waiting.ensures.path c.in_ok-flush_name.ensures)) c.clear_claimed.ensures)
