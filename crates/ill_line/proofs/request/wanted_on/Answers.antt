-- Answers the contract of `wanted_on` (`src/request.rt`).
use Rattle.ill_line.proofs.RequestLemmas.{error_reads, refused_after, refused_on, refused_third}
use Rattle.ill_line.proofs.request.wanted_on.Goals as goal

-- A justified refusal of the days ahead is a justified refusal of the conditions on the loans.
pub returns-in_err-ahead : goal.returns-in_err-ahead
returns-in_err-ahead c =
    error_reads _ _ c.from_residual.result c.in_err-ahead.field-0.0 c.from_residual.ensures.1
    (refused_on _ _ _ c.in_err-ahead.ensures)

-- The days ahead were read. A justified refusal of the due date is a justified refusal of the conditions.
pub returns-in_err-due_before : goal.returns-in_err-due_before
returns-in_err-due_before c =
    error_reads _ _ c.from_residual-in_err-due_before.result c.in_err-due_before.field-0.0
    c.from_residual-in_err-due_before.ensures.1
    (refused_after _ _ _ _ _ c.in_ok-ahead.ensures c.in_err-due_before.ensures)

-- The days ahead and the due date were read. A justified refusal of the state is a justified refusal of the conditions.
pub returns-in_err-state : goal.returns-in_err-state
returns-in_err-state c =
    error_reads _ _ c.from_residual-in_err-state.result c.in_err-state.field-0.0 c.from_residual-in_err-state.ensures.1
    (refused_third _ _ _ _ _ _ _ c.in_ok-ahead.ensures c.in_ok-due_before.ensures c.in_err-state.ensures)
