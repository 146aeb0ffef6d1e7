-- The loop of `flush_each` (`src/run.rt`) keeps this invariant.
use Rattle.ill_message_disk.proofs.Flushing.{FlushedTo}
use Rattle.ill_message_disk.proofs.run.flush_each.Given as goal

-- The claimed names of the message files below `number` are flushed: on a correct disk each crash leaves these
-- message files.
abbrev pub invariant-loop-number : goal.invariant-loop-number
invariant-loop-number g l = FlushedTo l.spots l.number (g.D.Disk.state l.initial.disk) (g.D.Disk.state l.disk)
