-- States the loop invariant of `push_arrows` (`src/picture.rt`).
use Rattle.std.proofs.Common.{◌≡◌, ◌++◌, take}
use Rattle.ill_show.specs.Picture.{arrows}
use Rattle.ill_show.proofs.picture.push_arrows.Given as goal

-- The arrows of the messages so far are appended.
abbrev pub invariant-loop-apdu : goal.invariant-loop-apdu
invariant-loop-apdu l = record {
  drawn : l.lines.items ≡ l.initial.lines.items ++ arrows (take l.apdu-index l.apdus);
}
