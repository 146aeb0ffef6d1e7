-- The changes of names of a disk in memory that has message files.
use Rattle.std.specs.Prelude.{ℕ, ◌<◌, List, Option, Some, None}
use Rattle.ill_disk.specs.Disk.{Name, with_name, without}
use Rattle.ill_message_disk_kit.specs.declared.memory_message_disk.Change.{Change}
use Rattle.ill_message_disk_kit.specs.declared.memory_message_disk.Change.TheVariants.{Make, Remove, Rename}

-- Returns the names after a change: a file put at a path, a path removed, or a path renamed to another.
abbrev pub names_after : Change → List Name → List Name
names_after (Make path file) names = with_name path.now file names
names_after (Remove path) names = without path.now names
names_after (Rename from to file) names = with_name to.now file (without from.now names)

-- The file of the change, if it has one, is one of the first `count` files.
abbrev pub IsMadeBy : ℕ → Change → Type 0
IsMadeBy count (Make path file) = file < count
IsMadeBy count (Remove path) = Unit {0}
IsMadeBy count (Rename from to file) = file < count

-- The file, if there is one, is one of the first `count` files.
abbrev pub IsBelow : ℕ → Option ℕ → Type 0
IsBelow count None = Unit {0}
IsBelow count (Some file) = file < count
