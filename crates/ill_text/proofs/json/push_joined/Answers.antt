-- Answers the contract of `push_joined` (`src/json.rt`).
use Rattle.std.proofs.Common.{◌+◌, ◌≤◌, ◌++◌, length, codes, drop, ap, sym, ◌∙◌, arith}
use Rattle.ill_text.specs.Json.{joined}
use Rattle.ill_text.proofs.JsonLemmas.{one_joined, all_joined}
use Rattle.ill_text.proofs.json.push_joined.Goals as goal

-- Proves the loop invariant of `push_joined` after one more item. By `one_joined` the later items are left.
pub loop-item-preserved : goal.loop-item-preserved
loop-item-preserved g c =
    let text = g.F.ItemForm.text_of c.args.form.now in
    let items = c.args.items.now in
    let place = c.loop-item.item-index in
    let item = c.item-item.result in
    record {
      shown = ap (λ shown. shown ++ joined text (codes ",") (drop (place + 1) items))
          (c.in_ok-push.ensures ∙ ap (λ shown. shown ++ text item) c.in_ok-extend_from_slice.ensures.items)
          ∙ (one_joined text c.loop-item.before.now c.loop-item.text.items items place item c.loop-item-test.true
          c.item-item.is ∙ c.loop-item.invariant.shown);
    }

-- Proves the contract of `push_joined`. After the loop no item is left.
pub returns : goal.returns
returns g c =
    let text = g.F.ItemForm.text_of c.args.form.now in
    let items = c.args.items.now in
    let all : length items ≤ c.loop-item.item-index = omega (arith, c.loop-item-test.false) in
    sym (all_joined text c.loop-item.before.now c.loop-item.text.items items c.loop-item.item-index all)
    ∙ c.loop-item.invariant.shown
