-- Proves the contract of `a_save_that_is_cut_leaves_one_record_whole` (`src/laws.rt`).
use Rattle.ill_store.proofs.Moments.{cut_save}
use Rattle.ill_store.proofs.laws.a_save_that_is_cut_leaves_one_record_whole.Goals as goal

pub returns : goal.returns
returns c path bytes old new later last moment lasted read answer again h lasts saves at crash g loads_again is =
    cut_save path bytes old new later last moment lasted read answer again h lasts saves at crash g loads_again is
