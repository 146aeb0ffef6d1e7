-- Answers the contract of `desks_show_what_they_hold` (`src/desk_laws.rt`).
use Rattle.ill_world.proofs.Projections.{shows}
use Rattle.ill_world.proofs.desk_laws.desks_show_what_they_hold.Goals as goal

pub returns : goal.returns
returns c = λ txn w. (shows w.requester txn, shows w.responder txn)
