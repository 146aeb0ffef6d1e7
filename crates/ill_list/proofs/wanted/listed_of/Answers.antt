-- Answers the contract of `listed_of` (`src/wanted.rt`).
use Rattle.std.proofs.Common.{List, Bor, map, ap, ◌∙◌}
use Rattle.ill_record.specs.declared.side.Side.{Side}
use Rattle.ill_list.specs.List.{is_listed}
use Rattle.ill_beside.specs.Since.{annex_of}
use Rattle.ill_list.proofs.ListLemmas.{filter_mapped}
use Rattle.ill_list.proofs.wanted.listed_of.Goals as goal

-- Proves the contract of `listed_of`. By `filter_mapped` it filters the loans as it filters the references to them.
pub returns : goal.returns
returns c =
    ap (λ (items : List (Bor Side)). map (λ side. side.now) items) c.in_ok-kept_listed.ensures
    ∙ filter_mapped (λ side. side.now) (is_listed c.args.wanted.now (annex_of c.args.annex.now).news) c.args.sides.now
