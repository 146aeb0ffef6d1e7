-- States the loop invariant of `push_drawn` (`src/picture.rt`).
use Rattle.std.proofs.Common.{◌≡◌, ◌++◌, take}
use Rattle.ill_show.specs.Picture.{drawn}
use Rattle.ill_show.proofs.picture.push_drawn.Given as goal

-- The bytes so far are appended, as `drawn` has them.
abbrev pub invariant-loop-byte : goal.invariant-loop-byte
invariant-loop-byte l = record {
  drawn : l.lines.items ≡ l.initial.lines.items ++ drawn (take l.byte-index l.text);
}
