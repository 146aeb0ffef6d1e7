-- Proves the clauses `first` and `after` of `desks_stand` (`src/desk_laws.rt`). For each transaction an event is one of
-- its events, or leaves the projection to it unchanged. Each event also keeps `DesksCount`.
use Rattle.std.proofs.Common.{refl}
use Rattle.ill_world.specs.World.{who_of}
use Rattle.ill_world.specs.Desks.{plain}
use Rattle.ill_world.proofs.Desks.{desks_first, desks_after}
use Rattle.ill_world.proofs.DeskCounts.{first_counts, count_at}
use Rattle.ill_world.proofs.desk_laws.desks_stand.Goals as goal

pub returns-clause-first : goal.returns-clause-first
returns-clause-first c = desks_first first_counts c.world_stands.ensures.first

-- `count_at` gives `DesksCount` after the event, and `desks_after` the other parts.
pub returns-clause-after : goal.returns-clause-after
returns-clause-after c =
    λ w event stands.
    desks_after c.rows_grow.ensures
    (record { requester = c.requester_is_quiet.ensures; responder = c.responder_is_quiet.ensures })
    c.world_stands.ensures.after w event stands
    (count_at c.rows_grow.ensures w event stands (who_of (plain event)) refl)
