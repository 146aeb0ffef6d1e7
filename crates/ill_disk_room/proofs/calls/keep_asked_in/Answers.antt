-- Answers the contract of `keep_asked_in` (`src/calls.rt`).
use Rattle.ill_message_disk.specs.Runs.{run_state}
use Rattle.ill_disk_room.proofs.Keeping.{asks_keep}
use Rattle.ill_disk_room.proofs.RoomOnDisk.{keeps_in_room}
use Rattle.ill_disk_room.proofs.calls.keep_asked_in.Goals as goal

-- What the run keeps, the room keeps.
pub returns-clause-keeps : goal.returns-clause-keeps
returns-clause-keeps g c = keeps_in_room (run_state g.D.Disk.state c.args.run.now)
    (run_state g.D.Disk.state c.keep_asked.new.self) c.args.asked.now c.keep_asked.result c.answer_of.result
    c.answer_of.ensures.agree c.keep_asked.ensures.keeps

-- Each message file survives, so the message files stay kept.
pub returns-clause-kept : goal.returns-clause-kept
returns-clause-kept g c = asks_keep g.D.Disk.state c.args.run.now c.keep_asked.new.self c.keep_asked.ensures.message_files
    c.args.asked.now c.keep_asked.result
    c.keep_asked.ensures.keeps c.keep_asked.ensures.survive
