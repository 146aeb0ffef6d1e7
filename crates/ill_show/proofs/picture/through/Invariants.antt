-- States the loop invariant of `through` (`src/picture.rt`).
use Rattle.std.proofs.Common.{◌≡◌, ◌≤◌, take}
use Rattle.std.specs.Prelude.{fold}
use Rattle.ill_show.specs.Picture.{reach}
use Rattle.ill_show.proofs.picture.through.Given as goal

-- `last` is the number of messages up to the last linked one so far, and at most `place`.
abbrev pub invariant-loop-place : goal.invariant-loop-place
invariant-loop-place l = record {
  reached : record { place = l.place; last = l.last }
      ≡ fold (reach l.link l.own) (record { place = 0; last = 0 }) (take l.place l.theirs);
  within : l.last ≤ l.place;
}
