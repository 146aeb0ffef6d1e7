-- The state of a record in a file of the host's.
use Rattle.std.specs.Prelude.{ℕ, false, List, [], codes, Option, Some, None}
use Rattle.std.specs.Path.{path_parent}
use Rattle.ill_disk.specs.Disk.{empty_disk}
use Rattle.ill_disk.specs.Calls.{DiskState}

-- The folder of a record in a file of the host's: the path of the record.
pub record HostDiskOf : Type 0 where
  pub path : List ℕ

-- Returns the state of such a folder. It is not correct, so nothing is said of its files.
abbrev pub host_state : HostDiskOf → DiskState
host_state disk = record { now = empty_disk; past = None; is_correct = false }

-- Returns the folder, or `.` if there is none or if its name is empty.
abbrev pub folder_named : Option (List ℕ) → List ℕ
folder_named None = codes "."
folder_named (Some []) = codes "."
folder_named (Some folder) = folder

-- Returns the folder that holds the file at `path`: its parent, or `.` if it has none.
abbrev pub folder_of : List ℕ → List ℕ
folder_of path = folder_named (path_parent path)
