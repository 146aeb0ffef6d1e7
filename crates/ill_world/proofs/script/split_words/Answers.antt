-- Proves the contract of `split_words` (`src/script.rt`). The iterator splits the line at its spaces, and filters the
-- empty parts out.
use Rattle.std.proofs.Common.{rules, not, ◌==◌, List, ℕ, length, ap, ◌∙◌}
use Rattle.std.specs.Slice.Iter.{split_rest, split_done, split_callee}
use Rattle.std.proofs.lemmas.Iterator.Consumers.{map_from_collect, YieldsList-from_filter}
use Rattle.std.proofs.lemmas.Iterator.Splits.{YieldsList-from_slice_split}
use Rattle.ill_world.specs.Script.{words_of}
use Rattle.ill_world.proofs.script.split_words.Goals as goal

pub returns : goal.returns
unfolding words_of
returns c =
    let source = c.filter.ensures.source in
    map_from_collect
    _
    c.collect.ensures.ran
    (YieldsList-from_filter
    _
    (λ (word : List ℕ). not (length word == 0))
    (YieldsList-from_slice_split
    _
    (λ byte. byte == 0x20)
    c.args.line.now
    (ap split_rest source ∙ c.split.ensures.rest)
    (ap split_done source ∙ c.split.ensures.done)
    (ap split_callee source ∙ c.split.ensures.closure)
    (λ x b q k. search rules))
    c.filter.ensures.closure
    (λ x b q k. search rules))
