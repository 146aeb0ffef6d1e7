-- States the loop invariant of `push_last_words` (`src/retire.rt`).
use Rattle.std.proofs.Common.{◌≡◌, ◌++◌, map, take}
use Rattle.ill_night.specs.Retire.{last_words}
use Rattle.ill_night.proofs.retire.push_last_words.Given as goal

-- The last words of the sides so far are appended.
abbrev pub invariant-loop-side : goal.invariant-loop-side
invariant-loop-side l = record {
  words : l.mark.items ≡ l.initial.mark.items ++ last_words (map (λ side. side.now) (take l.side-index l.sides));
}
