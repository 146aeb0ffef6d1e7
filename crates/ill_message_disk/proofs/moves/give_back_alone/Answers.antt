-- Answers the contract of `give_back_alone` (`src/moves.rt`).
use Rattle.std.proofs.Common.{◌∙◌, ap, option_map}
use Rattle.ill_message_disk.specs.MessageFileCalls.{Brings, Finds}
use Rattle.ill_message_disk.proofs.Apart.{apart_of}
use Rattle.ill_message_disk.proofs.Calling.{at_path, at_paths}
use Rattle.ill_message_disk.proofs.Staying.{stays_find}
use Rattle.ill_message_disk.proofs.GivingBack.{back_paths, stays_gives, gives_then, found_stands, found_still, rename_gives}
use Rattle.ill_message_disk.proofs.GivingBack.{stays_or_same}
use Rattle.ill_message_disk.proofs.moves.give_back_alone.Goals as goal

-- The file that the look has found stands in the folder.
pub end_if_given-requires : goal.end_if_given-requires
end_if_given-requires g c h =
    found_stands (at_path (λ p. Finds p) c.waiting.ensures.path c.in-Ok-Some.ensures) h
    ∙ ap (option_map (λ f. f.file)) c.in-Ok-Some.field-0-is

-- A file stands in the folder, and the message file stays at its place.
pub returns-in-Ok-Some : goal.returns-in-Ok-Some
returns-in-Ok-Some g c =
    stays_or_same (stays_find (back_paths c.args.spot.now) c.args.spot.now c.find.ensures) c.end_if_given.ensures

-- The name in the folder is free, and the rename gives the message file back, or leaves it.
pub returns-in-Ok-None : goal.returns-in-Ok-None
returns-in-Ok-None g c = gives_then
    (stays_gives (stays_find (back_paths c.args.spot.now) c.args.spot.now c.find.ensures))
    (rename_gives c.args.spot.now (apart_of c.args.spot.now c.waiting.ensures.apart)
    (found_still c.args.spot.now.claimed c.args.spot.now c.requires c.find.ensures)
    (λ h. found_stands (at_path (λ p. Finds p) c.waiting.ensures.path c.in-Ok-None.ensures) h
    ∙ ap (option_map (λ f. f.file)) c.in-Ok-None.field-0-is)
    (at_paths (λ p q. Brings p q) c.claimed.ensures c.waiting-in-Ok-None.ensures.path c.bring.ensures))

-- The look failed, and the message file stays at its place.
pub returns-in-Err : goal.returns-in-Err
returns-in-Err g c = stays_gives (stays_find (back_paths c.args.spot.now) c.args.spot.now c.find.ensures)
