-- The state of a disk in memory.
use Rattle.std.specs.Prelude.{ℕ, ◌<◌, true, if◌then◌else◌, List, [], map, Vec, Some, None}
use Rattle.std.specs.declared.alloc.Global.{Global}
use Rattle.ill_disk.specs.Disk.{File, Name, Disk, with_name, without}
use Rattle.ill_disk.specs.Calls.{DiskState}
use Rattle.ill_disk.specs.declared.memory_disk.Change.{Change}
use Rattle.ill_disk.specs.declared.memory_disk.Change.TheVariants.{Make, Remove, Rename}

-- Returns the state of a disk in memory, which is correct and keeps no past.
abbrev pub memory_state : Disk → DiskState
memory_state disk = record { now = disk; past = None; is_correct = true }

-- A disk in memory with its past: the disk now, and the disks that it was, the first one first.
pub record DiskOverTime : Type 0 where
  pub disk : Disk
  pub past : List Disk

-- Returns the state of a disk in memory with its past, which is correct.
abbrev pub past_state : DiskOverTime → DiskState
past_state over_time = record { now = over_time.disk; past = Some over_time.past; is_correct = true }

-- Returns the lists of names that the lists in memory hold.
abbrev pub lists_of : List (Vec Name Global) → List (List Name)
lists_of lists = map (λ names. names.items) lists

-- Returns the names after a change.
abbrev pub names_after : Change → List Name → List Name
names_after (Make path file) names = with_name path.now file names
names_after (Remove path) names = without path.now names
names_after (Rename from to file) names = with_name to.now file (without from.now names)

-- Returns a file as a crash leaves it: its bytes if it was flushed, and else none.
abbrev pub file_after_crash : File → File
file_after_crash f = record { bytes = if f.is_flushed then f.bytes else []; is_flushed = true }

-- The file that the change puts at a path, if any, is one of the first `count` files.
abbrev pub IsMadeBy : ℕ → Change → Type 0
IsMadeBy count (Make path file) = file < count
IsMadeBy count (Remove path) = Unit {0}
IsMadeBy count (Rename from to file) = file < count
