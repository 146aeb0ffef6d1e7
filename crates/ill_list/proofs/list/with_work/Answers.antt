-- Answers the contract of `with_work` (`src/list.rt`).
use Rattle.std.proofs.Common.{List, Bor, map, ap, ◌∙◌}
use Rattle.ill_record.specs.declared.side.Side.{Side}
use Rattle.ill_list.specs.List.{has_work}
use Rattle.ill_list.proofs.ListLemmas.{filter_mapped}
use Rattle.ill_list.proofs.list.with_work.Goals as goal

-- Proves the contract of `with_work`. By `filter_mapped` it filters the loans as it filters the references to them.
pub returns : goal.returns
returns c =
    ap (λ (items : List (Bor Side)). map (λ side. side.now) items) c.in_ok-kept_with_work.ensures
    ∙ filter_mapped (λ side. side.now) (has_work c.args.wanted.now c.args.work) c.args.listed.now
