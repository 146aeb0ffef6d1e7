-- States the loop invariant of `day_said` (`src/mentions.rt`).
use Rattle.std.proofs.Common.{◌≡◌, map, take}
use Rattle.ill_figures.specs.LoanFigures.{day_said, mentioned}
use Rattle.ill_figures.proofs.mentions.day_said.Given as goal

-- `found` is the day of the last mention so far of the message.
abbrev pub invariant-loop-mention : goal.invariant-loop-mention
invariant-loop-mention l = record {
  found : l.found ≡ day_said l.key (map mentioned (take l.mention-index l.mentions));
}
