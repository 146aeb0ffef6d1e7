-- Answers the contract of `slices` (`src/action.rt`).
use Rattle.std.proofs.Common.{rules, ap, ◌∙◌}
use Rattle.std.proofs.lemmas.Iterator.{YieldsList-from_slice, YieldsList-from_map_by}
use Rattle.std.specs.Slice.Iter.{iter_rest}
use Rattle.std.proofs.lemmas.Iterator.Consumers.{map_from_collect}
use Rattle.ill_desk.proofs.action.slices.Goals as goal

-- Proves the contract of `slices`. The iterator maps each word to its bytes, and `collect` keeps their order.
pub returns : goal.returns
returns c =
    map_from_collect
    _
    c.collect.ensures.ran
    (YieldsList-from_map_by
    _
    (λ word. word.now)
    (λ word. word.now)
    (YieldsList-from_slice c.args.words.now (ap iter_rest c.map.ensures.source ∙ c.iter.ensures.rest))
    c.map.ensures.closure
    (λ x r q k. search rules))
