-- Proves the contract of `a_good_night_of_a_group_is_enough` (`src/laws.rt`). The files of `group` have a history of
-- two libraries (`own.history`), so `a_good_night_is_enough` holds of them.
use Rattle.std.proofs.Common.{subst}
use Rattle.ill_runs.specs.Libraries.{Libraries}
use Rattle.ill_runs.specs.ShelfLibraries.{first_shelf_libraries, visits_of}
use Rattle.ill_nights.specs.Nights.{IsGoodNight}
use Rattle.ill_nights.proofs.laws.a_good_night_of_a_group_is_enough.Goals as goal

pub returns : goal.returns
returns c =
    λ group txn visits after history good can.
    let own = c.each_group_has_its_history.ensures in
    c.a_good_night_is_enough.ensures txn (visits_of group visits) after
    (own.history first_shelf_libraries group visits history)
    (subst (λ (libraries : Libraries). IsGoodNight txn libraries after) (own.after first_shelf_libraries group visits) good) can
