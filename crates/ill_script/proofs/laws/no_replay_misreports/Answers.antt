-- Proves the clauses of `no_replay_misreports` (`src/laws.rt`), by the lemmas of `BadTraces`.
use Rattle.ill_script.proofs.BadTraces.{none_leaves, none_misreports, some_prefix}
use Rattle.ill_script.proofs.laws.no_replay_misreports.Goals as goal

pub returns-clause-write : goal.returns-clause-write
returns-clause-write g c = none_leaves

pub returns-clause-memory : goal.returns-clause-memory
returns-clause-memory g c = some_prefix

pub returns-clause-result : goal.returns-clause-result
returns-clause-result g c = none_misreports
