-- States the loop invariant of `kept_at` (`src/kept.rt`).
use Rattle.std.proofs.Common.{◌≡◌, [], take}
use Rattle.ill_beside.specs.Kept.{looks_kept}
use Rattle.ill_beside.specs.Places.{looked_up}
use Rattle.ill_beside.proofs.kept.kept_at.Given as goal

-- `kept` has what the places so far give.
abbrev pub invariant-loop-place : goal.invariant-loop-place
invariant-loop-place l = record {
  kept : l.kept.items ≡ looked_up (looks_kept l.txn) l.came [] (take l.place-index l.places);
}
