-- States the loop invariant and the measure of `refusal_of` (`src/loan_figures.rt`).
use Rattle.std.proofs.Common.{◌≡◌, length}
use Rattle.ill_figures.specs.LoanFigures.{refusal_of}
use Rattle.ill_figures.proofs.loan_figures.refusal_of.Given as goal

-- No message so far gives a reason. So the messages that are left give the reason.
abbrev pub invariant-loop-message : goal.invariant-loop-message
invariant-loop-message l = record {
  left : refusal_of l.rest ≡ refusal_of l.messages;
}

-- Returns the number of messages that are left.
abbrev pub decreases-loop-message : goal.decreases-loop-message
decreases-loop-message l = length l.rest
