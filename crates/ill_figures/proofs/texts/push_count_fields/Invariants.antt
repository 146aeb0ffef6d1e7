-- States the loop invariant of `push_count_fields` (`src/texts.rt`).
use Rattle.std.proofs.Common.{◌≡◌, ◌++◌, take}
use Rattle.std.specs.List.{flat_map}
use Rattle.ill_figures.specs.Texts.{count_field}
use Rattle.ill_figures.proofs.texts.push_count_fields.Given as goal

-- The fields of the counts so far are appended.
abbrev pub invariant-loop-count : goal.invariant-loop-count
invariant-loop-count l = record {
  appended : l.text.items ≡ l.initial.text.items ++ flat_map (count_field l.asked) (take l.count-index l.counts);
}
