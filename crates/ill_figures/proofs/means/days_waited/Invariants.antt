-- States the loop invariant of `days_waited` (`src/means.rt`).
use Rattle.std.proofs.Common.{◌≡◌, ◌*◌, ◌≤◌, take}
use Rattle.ill_figures.specs.Figures.{days_waited}
use Rattle.ill_figures.proofs.means.days_waited.Given as goal

-- The days of the loans so far are summed. Each loan has fewer than 2^32.
abbrev pub invariant-loop-loan : goal.invariant-loop-loan
invariant-loop-loan l = record {
  summed : l.days ≡ days_waited (take l.loan-index l.asked) l.wait;
  small : l.days ≤ l.loan-index * 4_294_967_295;
}
