-- States the loop invariant and the measure of `day_of` (`src/loan_figures.rt`).
use Rattle.std.proofs.Common.{◌≡◌, length}
use Rattle.ill_figures.specs.LoanFigures.{day_of}
use Rattle.ill_figures.proofs.loan_figures.day_of.Given as goal

-- No message so far takes the step. So the messages that are left tell the day of the step.
abbrev pub invariant-loop-message : goal.invariant-loop-message
invariant-loop-message l = record {
  left : day_of l.step l.rest ≡ day_of l.step l.messages;
}

-- Returns the number of messages that are left.
abbrev pub decreases-loop-message : goal.decreases-loop-message
decreases-loop-message l = length l.rest
