-- States the loop invariant and the measure of `history_of` (`src/diary.rt`).
use Rattle.std.proofs.Common.{◌≡◌, ◌++◌, length, map}
use Rattle.ill_beside.specs.Diary.{history_of, named, printed}
use Rattle.ill_beside.proofs.diary.history_of.Given as goal

-- `parts` and the history by the lines that are left are the whole history.
abbrev pub invariant-loop-line : goal.invariant-loop-line
invariant-loop-line l = record {
  whole : map printed l.parts.items ++ history_of (map named l.messages) (map (λ line. line.items) l.rest)
      ≡ history_of (map named l.messages) (map (λ line. line.items) l.lines);
}

-- Returns the number of lines that are left.
abbrev pub decreases-loop-line : goal.decreases-loop-line
decreases-loop-line l = length l.rest
