-- Answers the contract of `remove` of a room on a disk (`src/disk_room.rt`).
use Rattle.std.proofs.Common.{subst}
use Rattle.ill_room.specs.Room.{Answers, Moves, is_correct_room}
use Rattle.ill_room.specs.declared.room.Place.TheVariants as places
use Rattle.ill_disk_room.specs.DiskRooms.{room_state}
use Rattle.ill_disk_room.proofs.disk_room.DiskRoomRoom.remove.Goals as goal

-- The contract of `remove_from` gives this clause for the run, which is the value of the room (`view_is`).
pub returns-clause-moves : goal.returns-clause-moves
returns-clause-moves g c = subst
    (λ r. Answers is_correct_room (Moves places.Gone c.args.number) (room_state g.D.Disk.state r)
    c.remove_from.result (room_state g.D.Disk.state c.remove_from.new.run)) c.self.view_is c.remove_from.ensures.moves

-- If the message files of the run were kept, `remove_from` keeps them (`AreKept`), which is the invariant of the room.
pub invariant_of-self : goal.invariant_of-self
invariant_of-self g c = c.remove_from.ensures.kept c.self.invariant
