-- The loop of `has_come_alone` (`src/run.rt`) keeps this invariant.
use Rattle.std.proofs.Common.{◌≡◌, ℕ, ◌<◌, false, Option, Some, slice_get}
use Rattle.ill_message_disk.specs.Runs.{has_come_as}
use Rattle.ill_message_disk.specs.Spots.{SpotOf}
use Rattle.ill_message_disk.proofs.run.has_come_alone.Given as goal

-- Each message file so far, but message file `number`, has come under another name than `path`.
abbrev pub invariant-loop-other : goal.invariant-loop-other
invariant-loop-other l = (other : ℕ) (spot : Option SpotOf) → other < l.other → (other ≡ l.number → ⊥) →
    slice_get l.spots other ≡ Some spot → has_come_as l.path spot ≡ false
