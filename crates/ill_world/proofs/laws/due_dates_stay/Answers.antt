-- Answers the contract of `due_dates_stay` (`src/laws.rt`).
use Rattle.ill_world.proofs.DueDates.{dates_kept}
use Rattle.ill_world.proofs.laws.due_dates_stay.Goals as goal

pub returns : goal.returns
returns c = dates_kept (record { acts = c.requester_keeps_due.ensures.acts; takes = c.requester_keeps_due.ensures.takes })
