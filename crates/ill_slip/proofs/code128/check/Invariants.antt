-- States the loop invariant of `check` (`src/code128.rt`).
use Rattle.std.proofs.Common.{◌≡◌, ◌+◌, ◌*◌, ◌≤◌, suc, drop}
use Rattle.ill_slip.specs.Code128.{start, weighted}
use Rattle.ill_slip.proofs.code128.check.Given as goal

-- The sum so far and the sum of the characters that are left make up the sum of the text. The sum so far is too small
-- to overflow.
abbrev pub invariant-loop-character : goal.invariant-loop-character
invariant-loop-character l = record {
  counted : l.position ≡ l.character-index;
  summed : l.sum + weighted (suc l.position) (drop l.character-index l.text) ≡ start + weighted 1 l.text;
  small : l.sum ≤ 104 + l.character-index * 28767;
}
