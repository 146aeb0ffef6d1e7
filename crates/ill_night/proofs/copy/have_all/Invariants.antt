-- States the loop invariant of `have_all` (`src/copy.rt`).
use Rattle.std.proofs.Common.{map, take}
use Rattle.std.specs.Prelude.{All}
use Rattle.ill_night.specs.CopyOver.{HasLoan}
use Rattle.ill_night.proofs.copy.have_all.Given as goal

-- `own` has the loans of the sides so far, with at least their messages.
abbrev pub invariant-loop-side : goal.invariant-loop-side
invariant-loop-side l = record {
  held : All (HasLoan l.own.sides) (map (λ side. side.now) (take l.side-index l.copied));
}
