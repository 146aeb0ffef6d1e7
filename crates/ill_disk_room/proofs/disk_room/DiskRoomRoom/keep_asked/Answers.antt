-- Answers the contract of `keep_asked` of a room on a disk (`src/disk_room.rt`).
use Rattle.std.proofs.Common.{subst}
use Rattle.ill_room.specs.Room.{Answers, Keeps, is_correct_room}
use Rattle.ill_disk_room.specs.DiskRooms.{room_state}
use Rattle.ill_disk_room.proofs.disk_room.DiskRoomRoom.keep_asked.Goals as goal

-- The contract of `keep_asked_in` gives this clause for the run, which is the value of the room (`view_is`).
pub returns-clause-keeps : goal.returns-clause-keeps
returns-clause-keeps g c = subst (λ r. Answers is_correct_room (Keeps c.args.asked.now) (room_state g.D.Disk.state r)
    c.keep_asked_in-kept.result (room_state g.D.Disk.state c.keep_asked_in-kept.new.run)) c.self.view_is
    c.keep_asked_in-kept.ensures.keeps

-- If the message files of the run were kept, `keep_asked_in` keeps them (`AreKept`), which is the invariant of the
-- room.
pub invariant_of-self : goal.invariant_of-self
invariant_of-self g c = c.keep_asked_in-kept.ensures.kept c.self.invariant
