-- Proves the contract of `most_pressing_first` (`src/order.rt`). `sort_by_cached_key` is a stable sort by urgency, over
-- the order by deadlines.
use Rattle.std.proofs.Common.{rules, of_calls, ℕ, ap, sym, subst, ◌∙◌}
use Rattle.std.proofs.lemmas.Fn.{always_returns_same}
use Rattle.std.proofs.lemmas.List.Sorted.{IsNonDecreasingBy-from_sort}
use Rattle.std.specs.Prelude.{IsPermutation}
use Rattle.ill_record.specs.declared.side.Side.{Side}
use Rattle.ill_words.specs.Waiting.{ordered}
use Rattle.ill_work.specs.Order.{is_more_pressing, urgency_on}
use Rattle.ill_work.proofs.OrderLemmas.{pressing_kept, sorted_by_number}
use Rattle.ill_work.proofs.order.most_pressing_first.Goals as goal

-- The sort by urgency is stable, so it returns what `ordered` returns over the order by deadlines.
pub returns-clause-list : goal.returns-clause-list
returns-clause-list c =
    let key : Side → ℕ = urgency_on c.args.today c.args.ahead in
    let sort = c.in_ok-sort_by_cached_key.ensures in
    sorted_by_number (λ side. side.now) key c.in_ok-ordered.ordered.items c.sort_by_cached_key.new.self.items
    (sort.sorted (λ side. key side.now) (always_returns_same _ _ _ (λ a r f k. search (rules, of_calls))))
    (sort.stable (λ side. key side.now) (always_returns_same _ _ _ (λ a r f k. search (rules, of_calls))))
    ∙ ap (ordered (is_more_pressing c.args.today c.args.ahead)) c.in_ok-ordered.ensures

-- The list is the one of `returns-clause-list`, which has each loan.
pub returns-clause-kept : goal.returns-clause-kept
returns-clause-kept c =
    let sides = c.args.sides.now.sides in
    subst (IsPermutation sides) (sym (returns-clause-list c)) (pressing_kept c.args.today c.args.ahead sides)

-- The sort leaves the loans in the order of their urgency.
pub returns-clause-rises : goal.returns-clause-rises
returns-clause-rises c =
    let key : Side → ℕ = urgency_on c.args.today c.args.ahead in
    IsNonDecreasingBy-from_sort (λ side. key side.now) c.sort_by_cached_key.new.self.items
    (c.in_ok-sort_by_cached_key.ensures.sorted (λ side. key side.now)
    (always_returns_same _ _ _ (λ a r f k. search (rules, of_calls))))
