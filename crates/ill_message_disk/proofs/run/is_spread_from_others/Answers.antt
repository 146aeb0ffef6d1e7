-- Answers the contract of `is_spread_from_others` (`src/run.rt`).
use Rattle.std.proofs.Common.{◌∙◌}
use Rattle.ill_message_disk.proofs.Taken.{known_free}
use Rattle.ill_message_disk.proofs.run.is_spread_from_others.Goals as goal

-- There are sets. By them the message file is free if it is spread from all message files, and not else.
pub returns-in-Some : goal.returns-in-Some
returns-in-Some c = c.is_free.ensures ∙ known_free c.args.others.taken.now c.in-Some.taken c.args.others.spots.now
    c.requires c.in-Some.is c.args.spot.now
