-- Answers the contract of `quarantine_from` (`src/calls.rt`).
use Rattle.ill_message_disk.specs.Spots.{Quarantined}
use Rattle.ill_message_disk.specs.Runs.{run_state}
use Rattle.ill_disk_room.proofs.Keeping.{moves_keep}
use Rattle.ill_disk_room.proofs.RoomOnDisk.{moves_in_room}
use Rattle.ill_disk_room.proofs.calls.quarantine_from.Goals as goal

-- What the run quarantines, the room quarantines.
pub returns-clause-moves : goal.returns-clause-moves
returns-clause-moves g c = moves_in_room (run_state g.D.Disk.state c.args.run.now)
    (run_state g.D.Disk.state c.quarantine.new.self) Quarantined c.args.number c.quarantine.result c.answer_of.result
    c.answer_of.ensures.agree c.quarantine.ensures.moves

-- Each message file survives, so the message files stay kept.
pub returns-clause-kept : goal.returns-clause-kept
returns-clause-kept g c = moves_keep g.D.Disk.state c.args.run.now c.quarantine.new.self c.quarantine.ensures.message_files
    Quarantined
    c.args.number c.quarantine.result
    c.quarantine.ensures.moves c.quarantine.ensures.survive
