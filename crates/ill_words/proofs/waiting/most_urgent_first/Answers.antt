-- Answers the contract of `most_urgent_first` (`src/waiting.rt`).
use Rattle.std.proofs.Common.{rules, Bool, Option, Bor, is_none, ap, ◌∙◌}
use Rattle.std.proofs.lemmas.List.Sorted.{answers_always}
use Rattle.ill_values.specs.Day.{Date}
use Rattle.ill_record.specs.declared.side.Side.{Side}
use Rattle.ill_words.specs.Waiting.{deadline_of, most_urgent_first}
use Rattle.ill_words.proofs.WaitingLemmas.{sorted_by_urgency}
use Rattle.ill_words.proofs.waiting.most_urgent_first.Goals as goal

-- Proves the contract of `most_urgent_first`. `sort_by_cached_key` is a stable sort by deadlines.
pub returns : goal.returns
returns c =
    let key : Bor Side → Bool × Option Date = λ side. (is_none (deadline_of side.now), deadline_of side.now) in
    let sorted = c.in_ok-sort_by_cached_key.ensures in
    sorted_by_urgency _ (λ a b. search rules) c.in_ok-ordered.ordered.items c.sort_by_cached_key.new.self.items
    (sorted.sorted key (answers_always _ _ _ (λ f a r q k. search rules)))
    (sorted.stable key (answers_always _ _ _ (λ f a r q k. search rules)))
    ∙ ap most_urgent_first c.in_ok-ordered.ensures
