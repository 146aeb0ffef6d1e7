-- Answers the contract of `with_spot` (`src/taken_paths.rt`).
use Rattle.std.proofs.Common.{Option, subst}
use Rattle.ill_message_disk.specs.TakenPaths.{TakenOf, AreKnown}
use Rattle.ill_message_disk.proofs.Taken.{known_with}
use Rattle.ill_message_disk.proofs.taken_paths.with_spot.Goals as goal

-- There were sets, and they got the paths of the message file, or memory ran out.
pub returns-in-Some : goal.returns-in-Some
returns-in-Some c = λ spots known. known_with c.args.spot.now c.in-Some.taken c.put_into.result c.put_into.ensures spots
    (subst (λ (sets : Option TakenOf). AreKnown sets spots) c.in-Some.is known)
