-- States the loop invariant of `push_wait_fields` (`src/texts.rt`).
use Rattle.std.proofs.Common.{◌≡◌, ◌++◌, take}
use Rattle.std.specs.List.{flat_map}
use Rattle.ill_figures.specs.Texts.{wait_field}
use Rattle.ill_figures.proofs.texts.push_wait_fields.Given as goal

-- The fields of the waits so far are appended.
abbrev pub invariant-loop-wait : goal.invariant-loop-wait
invariant-loop-wait l = record {
  appended : l.text.items ≡ l.initial.text.items ++ flat_map (wait_field l.asked) (take l.wait-index l.waits);
}
