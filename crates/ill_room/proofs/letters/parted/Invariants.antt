-- States the loop invariant and the measure of `parted` (`src/letters.rt`).
use Rattle.std.proofs.Common.{◌≡◌, ◌++◌, map, length}
use Rattle.std.specs.List.{concat}
use Rattle.ill_room.proofs.letters.parted.Given as goal

-- The messages so far, and what is left, are the text.
abbrev pub invariant-loop-rest : goal.invariant-loop-rest
invariant-loop-rest l = record {
  there : concat (map (λ message. message.items) l.messages.items) ++ l.rest ≡ l.text;
}

-- Returns the number of bytes that are left.
abbrev pub decreases-loop-rest : goal.decreases-loop-rest
decreases-loop-rest l = length l.rest
