-- States the loop invariant of `draw` (`src/picture.rt`).
use Rattle.std.proofs.Common.{◌≡◌, take}
use Rattle.std.specs.Prelude.{fold}
use Rattle.ill_show.specs.Picture.{opening, with_own}
use Rattle.ill_show.proofs.picture.draw.Given as goal

-- The own messages so far are drawn, with the other side's messages between them. `left` has those that are not drawn
-- yet.
abbrev pub invariant-loop-apdu : goal.invariant-loop-apdu
invariant-loop-apdu l = record {
  drawn : record { lines = l.lines.items; left = l.left }
      ≡ fold with_own (record { lines = opening; left = l.theirs }) (take l.apdu-index l.own);
}
