-- Answers the contract of `push_fault` (`src/report.rt`).
use Rattle.ill_report.proofs.report.push_fault.Goals as goal

-- Proves the contract of `push_fault`. `push_unread` appends a part with the text of the fault.
pub returns : goal.returns
returns c = (c.as_str.result.now, c.in_ok-push_unread.ensures)
