-- Answers the contract of `write_reason` (`src/moves.rt`).
use Rattle.std.proofs.Common.{[], ◌∷◌}
use Rattle.ill_message_disk.proofs.Calling.{finds_touches}
use Rattle.ill_message_disk.proofs.Steps.{touches_then}
use Rattle.ill_message_disk.proofs.moves.write_reason.Goals as goal

-- A file of that size is there. The look touched nothing.
pub returns-in-Ok-Some : goal.returns-in-Ok-Some
returns-in-Ok-Some g c = finds_touches (c.args.path.now ∷ []) c.find.ensures

-- The line was written anew after the look, which touched nothing.
pub returns-in_default : goal.returns-in_default
returns-in_default g c =
    touches_then (c.args.path.now ∷ []) (g.D.Disk.state c.args.disk.now) (g.D.Disk.state c.find.new.self)
    (g.D.Disk.state c.write_anew.new.disk) (finds_touches (c.args.path.now ∷ []) c.find.ensures) c.write_anew.ensures
