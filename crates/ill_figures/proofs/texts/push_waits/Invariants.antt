-- States the loop invariant of `push_waits` (`src/texts.rt`).
use Rattle.std.proofs.Common.{◌≡◌, ◌++◌, take}
use Rattle.std.specs.List.{flat_map}
use Rattle.ill_figures.specs.Texts.{wait_line}
use Rattle.ill_figures.proofs.texts.push_waits.Given as goal

-- The lines of the waits so far are appended.
abbrev pub invariant-loop-wait : goal.invariant-loop-wait
invariant-loop-wait l = record {
  appended : l.text.items ≡ l.initial.text.items ++ flat_map (wait_line l.asked) (take l.wait-index l.waits);
}
