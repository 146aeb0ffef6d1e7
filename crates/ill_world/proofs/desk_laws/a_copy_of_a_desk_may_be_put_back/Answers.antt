-- Proves the clauses `each` and `safe` of `a_copy_of_a_desk_may_be_put_back` (`src/desk_laws.rt`). In each transaction
-- a copy of a desk's record is a copy of a party's record.
use Rattle.ill_world.specs.World.{party}
use Rattle.ill_world.specs.Desks.{desks_run, project}
use Rattle.ill_world.specs.Copies.{desk_puts_back}
use Rattle.ill_world.proofs.Copies.{shows_copy, desk_back_stands}
use Rattle.ill_world.proofs.desk_laws.a_copy_of_a_desk_may_be_put_back.Goals as goal

pub returns-clause-each : goal.returns-clause-each
returns-clause-each c = λ txn w who copy. shows_copy txn who copy w

-- The invariant holds in `txn` after the copy is put back. It has the three parts of safety.
pub returns-clause-safe : goal.returns-clause-safe
returns-clause-safe c =
    λ txn w more who stands has.
    let world = project txn (desk_puts_back who (party w who).committed (desks_run w more)) in
    let back = desk_back_stands c.desk_events_are_events.ensures c.desks_stand.ensures.after txn
    (c.world_stands.ensures.after txn) w more who stands has in
    record {
      ends = c.ends_alike.ensures txn world back;
      shipped = c.was_shipped.ensures txn world back;
      granted = c.was_granted.ensures txn world back;
    }
