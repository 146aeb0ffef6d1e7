-- Proves the clauses of `no_bad_desk_trace_is_written` (`src/desk_laws.rt`). They hold of any replay, by the lemmas of
-- `BadTraces`.
use Rattle.std.proofs.Common.{None, refl}
use Rattle.ill_world.specs.Desks.{first_desks}
use Rattle.ill_script.specs.Replay.{before_first}
use Rattle.ill_world.specs.DeskSimulation.{two_desks}
use Rattle.ill_script.proofs.BadTraces.{none_leaves, some_prefix, none_misreports}
use Rattle.ill_world.proofs.desk_laws.no_bad_desk_trace_is_written.Goals as goal

pub returns-clause-write : goal.returns-clause-write
returns-clause-write c = none_leaves two_desks (before_first None first_desks)

pub returns-clause-memory : goal.returns-clause-memory
returns-clause-memory c = some_prefix two_desks (before_first None first_desks)

pub returns-clause-result : goal.returns-clause-result
returns-clause-result c =
    λ text left written result. none_misreports two_desks (before_first None first_desks) text left written result refl
