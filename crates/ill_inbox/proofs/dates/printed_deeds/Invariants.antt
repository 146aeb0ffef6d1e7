-- States the loop invariant of `printed_deeds` (`src/dates.rt`).
use Rattle.std.proofs.Common.{◌≡◌, take, Bor}
use Rattle.std.specs.List.{flat_map}
use Rattle.ill_inbox.specs.declared.due.Due.{Due}
use Rattle.ill_inbox.specs.Objects.{printed_deed}
use Rattle.ill_inbox.proofs.dates.printed_deeds.Given as goal

-- `printed` has the texts of the deeds so far.
abbrev pub invariant-loop-due : goal.invariant-loop-due
invariant-loop-due g l = record {
  so_far : l.printed.items ≡ flat_map (λ (due : Bor Due). printed_deed l.form g.H.Held.effects l.desk.live due.now)
      (take l.due-index l.done);
}
