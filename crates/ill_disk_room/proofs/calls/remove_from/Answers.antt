-- Answers the contract of `remove_from` (`src/calls.rt`).
use Rattle.ill_message_disk.specs.Spots.{Gone}
use Rattle.ill_message_disk.specs.Runs.{run_state}
use Rattle.ill_disk_room.proofs.Keeping.{removal_keeps}
use Rattle.ill_disk_room.proofs.RoomOnDisk.{moves_in_room}
use Rattle.ill_disk_room.proofs.calls.remove_from.Goals as goal

-- What the run removes, the room removes.
pub returns-clause-moves : goal.returns-clause-moves
returns-clause-moves g c = moves_in_room (run_state g.D.Disk.state c.args.run.now)
    (run_state g.D.Disk.state c.remove.new.self) Gone c.args.number c.remove.result c.answer_of.result
    c.answer_of.ensures.agree
    c.remove.ensures.moves

-- Each message file that was kept stays kept, as the contract of `MessageRun::remove` says.
pub returns-clause-kept : goal.returns-clause-kept
returns-clause-kept g c = removal_keeps g.D.Disk.state c.args.run.now c.remove.new.self c.remove.ensures.message_files
    c.remove.ensures.moves.correct
    c.remove.ensures.kept
