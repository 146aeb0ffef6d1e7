-- Answers the contract of `give_back_from` (`src/calls.rt`).
use Rattle.ill_message_disk.specs.Runs.{run_state}
use Rattle.ill_disk_room.proofs.Keeping.{gives_keep}
use Rattle.ill_disk_room.proofs.RoomOnDisk.{gives_in_room}
use Rattle.ill_disk_room.proofs.calls.give_back_from.Goals as goal

-- What the run gives back, the room gives back.
pub returns-clause-moves : goal.returns-clause-moves
returns-clause-moves g c = gives_in_room (run_state g.D.Disk.state c.args.run.now)
    (run_state g.D.Disk.state c.give_back.new.self) c.args.number c.answer_of.result c.give_back.ensures.moves

-- Each message file survives, so the message files stay kept.
pub returns-clause-kept : goal.returns-clause-kept
returns-clause-kept g c = gives_keep g.D.Disk.state c.args.run.now c.give_back.new.self c.give_back.ensures.message_files
    c.args.number
    c.give_back.ensures.moves
    c.give_back.ensures.survive
