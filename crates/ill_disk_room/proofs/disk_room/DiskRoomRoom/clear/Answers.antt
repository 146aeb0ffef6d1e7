-- Answers the contract of `clear` of a room on a disk (`src/disk_room.rt`).
use Rattle.std.proofs.Common.{◌≡◌, ap, subst}
use Rattle.ill_disk_room.specs.DiskRooms.{room_on, room_state}
use Rattle.ill_disk_room.proofs.Keeping.{same_kept}
use Rattle.ill_disk_room.proofs.disk_room.DiskRoomRoom.clear.Goals as goal

-- The removal of folders leaves the state of the run, and so that of the room.
pub returns : goal.returns
returns g c = subst (λ r. room_state g.D.Disk.state c.remove_folders.new.run ≡ room_state g.D.Disk.state r) c.self.view_is
    (ap room_on c.remove_folders.ensures.state)

-- The disk and the message files are those before, so the message files stay kept.
pub invariant_of-self : goal.invariant_of-self
invariant_of-self g c = same_kept g.D.Disk.state c.self.inside.run c.remove_folders.new.run c.remove_folders.ensures.message_files
    c.remove_folders.ensures.disk c.self.invariant
