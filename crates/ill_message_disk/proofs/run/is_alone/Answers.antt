-- Answers the contract of `is_alone` (`src/run.rt`).
use Rattle.std.proofs.Common.{sym, ◌∙◌}
use Rattle.ill_message_disk.proofs.Taken.{once_alone}
use Rattle.ill_message_disk.proofs.run.is_alone.Goals as goal

-- There are sets. If they do not share the name of the message file, each other message file has come under another
-- one.
pub returns-in-Some : goal.returns-in-Some
returns-in-Some c = λ is. once_alone c.args.others.taken.now c.in-Some.taken c.args.others.spots.now c.requires.known
    c.in-Some.is c.args.number c.args.spot.now c.requires.here (sym c.is_alone.ensures ∙ is)
