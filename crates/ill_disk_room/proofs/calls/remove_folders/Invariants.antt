-- The loop of `remove_folders` (`src/calls.rt`) keeps this invariant.
use Rattle.std.proofs.Common.{◌≡◌}
use Rattle.ill_message_disk.specs.Runs.{run_state}
use Rattle.ill_disk_room.proofs.calls.remove_folders.Given as goal

-- The state of the run, its disk and its message files are those at first.
abbrev pub invariant-loop-folder : goal.invariant-loop-folder
invariant-loop-folder g l = (run_state g.D.Disk.state l.run ≡ run_state g.D.Disk.state l.initial.run)
    × (g.D.Disk.state l.run.disk ≡ g.D.Disk.state l.initial.run.disk) × (l.run.spots ≡ l.initial.run.spots)
