-- The message files of a desk in files of the host's. No contract says what these have, so the disk is not correct.
use Rattle.std.specs.Prelude.{false, None}
use Rattle.ill_disk.specs.Disk.{empty_disk}
use Rattle.ill_disk.specs.Calls.{DiskState}

-- The state of the files of message files on the host.
abbrev pub host_message_files : DiskState
host_message_files = record { now = empty_disk; past = None; is_correct = false }
