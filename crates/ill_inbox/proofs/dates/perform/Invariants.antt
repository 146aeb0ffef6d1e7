-- States the loop invariant of `perform` (`src/dates.rt`).
use Rattle.std.proofs.Common.{◌≡◌, [], map, take, Bor}
use Rattle.std.specs.Prelude.{fold}
use Rattle.ill_inbox.specs.declared.due.Due.{Due}
use Rattle.ill_inbox.specs.Dates.{after_deed, doing}
use Rattle.ill_inbox.proofs.dates.perform.Given as goal

-- The deeds so far are performed, and the store is unchanged.
abbrev pub invariant-loop-due : goal.invariant-loop-due
invariant-loop-due g l = record {
  performed : doing l.desk.live (map (λ (due : Bor Due). due.now) l.done.items)
      ≡ fold (after_deed g.H.Held.effects l.today) (doing l.initial.desk.live []) (take l.due-index l.dues);
  store : l.desk.store ≡ l.initial.desk.store;
}
