-- Answers the contract of `give_message_file_back` (`src/moves.rt`).
use Rattle.ill_message_disk.specs.MessageFileCalls.{Links}
use Rattle.ill_message_disk.proofs.Apart.{apart_of}
use Rattle.ill_message_disk.proofs.Calling.{at_paths}
use Rattle.ill_message_disk.proofs.Staying.{stays_tell}
use Rattle.ill_message_disk.proofs.GivingBack.{back_paths, stays_gives, gives_then, told_claimed, links_give, linked_waits}
use Rattle.ill_message_disk.proofs.GivingBack.{linked_claimed}
use Rattle.ill_message_disk.proofs.moves.give_message_file_back.Goals as goal

-- The look at the claimed path failed, and the message file stays at its place.
pub returns-in_err-is_claimed : goal.returns-in_err-is_claimed
returns-in_err-is_claimed g c =
    stays_gives (stays_tell (back_paths c.args.spot.now) c.args.spot.now c.is_claimed.ensures.tells)

-- The file does not stand at its claimed path, and the message file stays at its place.
pub returns-then-not-branch : goal.returns-then-not-branch
returns-then-not-branch g c =
    stays_gives (stays_tell (back_paths c.args.spot.now) c.args.spot.now c.is_claimed.ensures.tells)

-- The second name was given, so the file waits.
pub end_giving-requires : goal.end_giving-requires
end_giving-requires g c = linked_waits c.args.spot.now (apart_of c.args.spot.now c.is_claimed.ensures.apart)
    (told_claimed c.args.spot.now c.if-not-branch.false c.in_ok-is_claimed.ensures.tells)
    (at_paths (λ p q. Links p q) c.claimed.ensures c.waiting.ensures.path c.in-Ok.ensures)

-- After the call for a second name the file still stands at its claimed path.
pub give_back_alone-requires : goal.give_back_alone-requires
give_back_alone-requires g c = linked_claimed c.args.spot.now (apart_of c.args.spot.now c.is_claimed.ensures.apart)
    (told_claimed c.args.spot.now c.if-not-branch.false c.in_ok-is_claimed.ensures.tells)
    (at_paths (λ p q. Links p q) c.claimed.ensures c.waiting.ensures.path c.link.ensures)

-- The second name was given, and then the message file stays at its place.
pub returns-in-Ok : goal.returns-in-Ok
returns-in-Ok g c =
    gives_then (stays_gives (stays_tell (back_paths c.args.spot.now) c.args.spot.now c.is_claimed.ensures.tells))
    (gives_then (links_give c.args.spot.now (apart_of c.args.spot.now c.is_claimed.ensures.apart)
    (told_claimed c.args.spot.now c.if-not-branch.false c.in_ok-is_claimed.ensures.tells)
    (at_paths (λ p q. Links p q) c.claimed.ensures c.waiting.ensures.path c.link.ensures))
    (stays_gives c.end_giving.ensures))

-- The call for a second name failed. Then `give_back_alone` gives the message file back, or leaves it.
pub returns-in-Err : goal.returns-in-Err
returns-in-Err g c =
    gives_then (stays_gives (stays_tell (back_paths c.args.spot.now) c.args.spot.now c.is_claimed.ensures.tells))
    (gives_then (links_give c.args.spot.now (apart_of c.args.spot.now c.is_claimed.ensures.apart)
    (told_claimed c.args.spot.now c.if-not-branch.false c.in_ok-is_claimed.ensures.tells)
    (at_paths (λ p q. Links p q) c.claimed.ensures c.waiting.ensures.path c.link.ensures)) c.give_back_alone.ensures)
