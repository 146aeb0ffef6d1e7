-- Answers the contract of `no_open_group_is_retired` (`src/laws.rt`).
use Rattle.ill_shelf.proofs.AwayLemmas.{none_retires}
use Rattle.ill_shelf.proofs.laws.no_open_group_is_retired.Goals as goal

-- Proves that no open group is retired.
pub returns : goal.returns
returns g c = λ folder group before after is_open retired.
    none_retires g.S.Store.state folder group before after is_open retired
