-- Proves the clauses of `each_shelf_history_is_safe` (`src/shelf_laws.rt`). The desks of a group have a history.
use Rattle.std.proofs.Common.{sym, subst}
use Rattle.ill_world.specs.World.{party}
use Rattle.ill_runs.specs.Libraries.{AreSafe, HasAllThatLeft, Libraries}
use Rattle.ill_runs.specs.ShelfLibraries.{first_shelf_libraries, visits_of}
use Rattle.ill_runs.proofs.shelf_laws.each_shelf_history_is_safe.Goals as goal

pub returns-clause-safe : goal.returns-clause-safe
returns-clause-safe c = λ group visits history.
    let own = c.each_group_has_its_history.ensures in
    subst AreSafe (sym (own.after first_shelf_libraries group visits))
    (c.each_history_is_safe.ensures (visits_of group visits) (own.history first_shelf_libraries group visits history))

pub returns-clause-left : goal.returns-clause-left
returns-clause-left c = λ group visits who history.
    let own = c.each_group_has_its_history.ensures in
    subst (λ (libraries : Libraries). HasAllThatLeft (party libraries who)) (sym (own.after first_shelf_libraries group visits))
    (c.what_has_left_is_in_the_file.ensures (visits_of group visits) (own.history first_shelf_libraries group visits history)
    who)
