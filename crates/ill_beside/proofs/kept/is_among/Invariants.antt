-- States the loop invariant of `is_among` (`src/kept.rt`).
use Rattle.std.proofs.Common.{◌≡◌, false, take}
use Rattle.ill_beside.specs.Kept.{is_among}
use Rattle.ill_beside.proofs.kept.is_among.Given as goal

-- None of the messages so far has the bytes of `apdu`.
abbrev pub invariant-loop-other : goal.invariant-loop-other
invariant-loop-other l = record {
  none : is_among (take l.other-index l.kept) l.apdu ≡ false;
}
