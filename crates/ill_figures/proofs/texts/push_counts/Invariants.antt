-- States the loop invariant of `push_counts` (`src/texts.rt`).
use Rattle.std.proofs.Common.{◌≡◌, ◌++◌, take}
use Rattle.std.specs.List.{flat_map}
use Rattle.ill_figures.specs.Texts.{count_line}
use Rattle.ill_figures.proofs.texts.push_counts.Given as goal

-- The lines of the counts so far are appended.
abbrev pub invariant-loop-count : goal.invariant-loop-count
invariant-loop-count l = record {
  appended : l.text.items ≡ l.initial.text.items ++ flat_map (count_line l.asked) (take l.count-index l.counts);
}
