-- Proves the clauses of `no_bad_trace_is_written` (`src/laws.rt`). They hold of any replay, by the lemmas of
-- `BadTraces`.
use Rattle.std.proofs.Common.{refl}
use Rattle.ill_world.specs.World.{first_world}
use Rattle.ill_script.specs.Replay.{before_first}
use Rattle.ill_world.specs.Simulation.{two_sides}
use Rattle.ill_script.proofs.BadTraces.{none_leaves, some_prefix, none_misreports}
use Rattle.ill_world.proofs.laws.no_bad_trace_is_written.Goals as goal

pub returns-clause-write : goal.returns-clause-write
returns-clause-write c = λ txn. none_leaves two_sides (before_first tt (first_world txn))

pub returns-clause-memory : goal.returns-clause-memory
returns-clause-memory c = λ txn. some_prefix two_sides (before_first tt (first_world txn))

pub returns-clause-result : goal.returns-clause-result
returns-clause-result c =
    λ txn text left written result. none_misreports two_sides (before_first tt (first_world txn)) text left written result refl
