-- The room of a desk's message files in folders of the host's. No contract says what these have, so it is not correct.
use Rattle.std.specs.Prelude.{false, []}
use Rattle.ill_room.specs.Room.{RoomState}

-- The state of a room in folders.
abbrev pub host_room : RoomState
host_room = record { places = []; asked = []; is_correct = false }
