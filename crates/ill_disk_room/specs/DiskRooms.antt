-- The room of a desk's message files on a disk.
use Rattle.std.specs.Prelude.{map, Result, Ok, Err}
use Rattle.ill_room.specs.declared.room.Place.{Place}
use Rattle.ill_room.specs.declared.room.Place.TheVariants as places
use Rattle.ill_room.specs.Room.{RoomState}
use Rattle.ill_disk.specs.Calls.{DiskState}
use Rattle.ill_message_disk.specs.Spots as disks
use Rattle.ill_message_disk.specs.Runs.{MessageRunOf, RunState, run_state}

-- Returns the place in a room of a message file on a disk.
abbrev pub place_on : disks.Place → Place
place_on disks.Waiting = places.Waiting
place_on disks.Claimed = places.Claimed
place_on disks.Quarantined = places.Quarantined
place_on disks.Gone = places.Gone

-- Returns the state of a room by the state of its run on the disk.
abbrev pub room_on : RunState → RoomState
room_on run = record { places = map place_on run.places; asked = run.asked; is_correct = run.is_correct }

-- Returns the state of the room of a run.
abbrev pub room_state : {D : Type 0} → (D → DiskState) → MessageRunOf D → RoomState
room_state state run = room_on (run_state state run)

-- Two calls are both done, or both failed.
abbrev pub Agree : {A B E F : Type 0} → Result A E → Result B F → Type 0
Agree (Ok done) (Ok other) = Unit {0}
Agree (Err fault) (Err other) = Unit {0}
Agree answer other = ⊥
