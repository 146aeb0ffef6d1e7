-- The loop of `is_spread_from_all` (`src/run.rt`) keeps this invariant.
use Rattle.std.proofs.Common.{◌≡◌, drop}
use Rattle.ill_message_disk.specs.Runs.{is_spread_from_all}
use Rattle.ill_message_disk.proofs.run.is_spread_from_all.Given as goal

-- The message file is spread from those so far. So the test of the message files that are left is the test of all.
abbrev pub invariant-loop-other : goal.invariant-loop-other
invariant-loop-other l = is_spread_from_all l.spot (drop l.other-index l.spots) ≡ is_spread_from_all l.spot l.spots
