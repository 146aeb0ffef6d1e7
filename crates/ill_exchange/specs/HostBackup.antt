-- The copy of a desk and the sign of life in files of the host's. No contract says what these have, so they are not
-- correct.
use Rattle.std.specs.Prelude.{false, None}
use Rattle.ill_room.specs.Backup.{BackupState}

-- The state of a copy and of a sign of life in files.
abbrev pub host_backup : BackupState
host_backup = record { copied = None; signs = 0; keeps_copy = false; keeps_sign = false; is_correct = false }
