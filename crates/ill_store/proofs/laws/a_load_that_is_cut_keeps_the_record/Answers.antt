-- Proves the contract of `a_load_that_is_cut_keeps_the_record` (`src/laws.rt`).
use Rattle.ill_store.proofs.Moments.{cut_load}
use Rattle.ill_store.proofs.laws.a_load_that_is_cut_keeps_the_record.Goals as goal

pub returns : goal.returns
returns c path old new later last moment lasted read answer again h lasts loads at crash g loads_again is =
    cut_load path old new later last moment lasted read answer again h lasts loads at crash g loads_again is
