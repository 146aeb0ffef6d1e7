-- Answers the contract of `write_anew` (`src/moves.rt`).
use Rattle.std.proofs.Common.{[], ◌∷◌}
use Rattle.ill_message_disk.proofs.Calling.{clears_touches, creates_touches, flushes_touches}
use Rattle.ill_message_disk.proofs.Steps.{touches_then}
use Rattle.ill_message_disk.proofs.moves.write_anew.Goals as goal

-- The removal failed.
pub returns-in_err-clear : goal.returns-in_err-clear
returns-in_err-clear g c = clears_touches c.clear.ensures

-- The path was cleared, and the new file failed.
pub returns-in_err-create_new : goal.returns-in_err-create_new
returns-in_err-create_new g c =
    touches_then (c.args.path.now ∷ []) (g.D.Disk.state c.args.disk.now) (g.D.Disk.state c.clear.new.disk)
    (g.D.Disk.state c.create_new.new.self) (clears_touches c.clear.ensures)
    (creates_touches c.args.path.now c.args.line.now c.create_new.ensures.creates)

-- The path was cleared, the new file was made, and the flush is done or failed. Each touches `path` alone.
pub returns : goal.returns
returns g c =
    touches_then (c.args.path.now ∷ []) (g.D.Disk.state c.args.disk.now) (g.D.Disk.state c.clear.new.disk)
    (g.D.Disk.state c.flush.new.self) (clears_touches c.clear.ensures)
    (touches_then (c.args.path.now ∷ []) (g.D.Disk.state c.clear.new.disk) (g.D.Disk.state c.create_new.new.self)
    (g.D.Disk.state c.flush.new.self)
    (creates_touches c.args.path.now c.args.line.now c.create_new.ensures.creates)
    (flushes_touches c.args.path.now (c.args.path.now ∷ []) c.flush.ensures.changes))
