-- States the loop invariant and the measure of `mentions_in` (`src/mentions.rt`).
use Rattle.std.proofs.Common.{◌≡◌, ◌++◌, length, map}
use Rattle.ill_figures.specs.LoanFigures.{mentioned, mentions_in}
use Rattle.ill_figures.proofs.mentions.mentions_in.Given as goal

-- The mentions so far and those in the lines that are left are all mentions.
abbrev pub invariant-loop-line : goal.invariant-loop-line
invariant-loop-line l = record {
  whole : map mentioned l.mentions.items ++ mentions_in (map (λ line. line.items) l.rest)
      ≡ mentions_in (map (λ line. line.items) l.lines);
}

-- Returns the number of lines that are left.
abbrev pub decreases-loop-line : goal.decreases-loop-line
decreases-loop-line l = length l.rest
