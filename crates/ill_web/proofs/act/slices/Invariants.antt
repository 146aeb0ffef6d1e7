-- States the loop invariant of `slices` (`src/act.rt`).
use Rattle.std.proofs.Common.{◌≡◌, map, take}
use Rattle.ill_web.proofs.act.slices.Given as goal

-- The slices are those of the words so far.
abbrev pub invariant-loop-word : goal.invariant-loop-word
invariant-loop-word l = map (λ slice. slice.now) l.slices.items ≡ map (λ word. word.items) (take l.word-index l.words)
