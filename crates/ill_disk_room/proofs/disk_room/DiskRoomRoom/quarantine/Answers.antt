-- Answers the contract of `quarantine` of a room on a disk (`src/disk_room.rt`).
use Rattle.std.proofs.Common.{subst}
use Rattle.ill_room.specs.Room.{Answers, Moves, is_correct_room}
use Rattle.ill_room.specs.declared.room.Place.TheVariants as places
use Rattle.ill_disk_room.specs.DiskRooms.{room_state}
use Rattle.ill_disk_room.proofs.disk_room.DiskRoomRoom.quarantine.Goals as goal

-- The contract of `quarantine_unfit` gives this clause for the run, which is the value of the room (`view_is`).
pub returns-clause-moves : goal.returns-clause-moves
returns-clause-moves g c = subst
    (λ r. Answers is_correct_room (Moves places.Quarantined c.args.number) (room_state g.D.Disk.state r)
    c.quarantine_unfit.result (room_state g.D.Disk.state c.quarantine_unfit.new.run)) c.self.view_is
    c.quarantine_unfit.ensures.moves

-- If the message files of the run were kept, `quarantine_unfit` keeps them (`AreKept`), which is the invariant of the
-- room.
pub invariant_of-self : goal.invariant_of-self
invariant_of-self g c = c.quarantine_unfit.ensures.kept c.self.invariant
