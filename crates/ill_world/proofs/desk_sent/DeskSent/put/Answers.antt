-- Proves the clause `put` of `DeskSent::put` (`src/desk_sent.rt`), if `txn` has an entry and if it has none. The entry
-- that is changed or added agrees with the model, by `DeskMaps`.
use Rattle.std.proofs.Common.{◌≡◌, OnOk, option_map, refl, ap, sym, ◌∙◌, subst}
use Rattle.std.specs.Map.{lookup}
use Rattle.ill_core.specs.Issued.{is_same_txn}
use Rattle.ill_world.specs.World.{with_sent}
use Rattle.ill_world.specs.Desks.{with_sent_for}
use Rattle.ill_world.specs.DeskRefinement.{sendings_of, BecomesAmong}
use Rattle.ill_world.proofs.DeskMaps.{becomes_put, becomes_none, first_put}
use Rattle.ill_world.proofs.desk_sent.DeskSent.put.Goals as goal

-- `message` has joined the entry of `txn`.
pub returns-in-None-clause-put : goal.returns-in-None-clause-put
returns-in-None-clause-put c =
    let txn = c.args.txn.now in
    let n = c.args.number in
    let a = c.args.message in
    let old = c.self.inside.map.entries in
    let new = c.put_among.new.map.entries in
    let found = lookup (is_same_txn txn) old in
    becomes_put txn n a old new found refl
    (subst (λ back. BecomesAmong txn old (option_map (λ sent. with_sent sent n a) found) back a new) c.in-None.is
    c.put_among.ensures)
    ∙ ap (λ all. with_sent_for txn all n a) c.self.view_is

-- `message` came back, since `txn` has no entry. A new entry has this message alone.
pub returns-in_ok-copy-in-Some-clause-put : goal.returns-in_ok-copy-in-Some-clause-put
returns-in_ok-copy-in-Some-clause-put c =
    let txn = c.args.txn.now in
    let n = c.args.number in
    let a = c.args.message in
    let old = c.self.inside.map.entries in
    let among = c.put_among.new.map.entries in
    let found = lookup (is_same_txn txn) old in
    let none = becomes_none txn (λ sent. with_sent sent n a) a c.in-Some.message old among found
    (subst (λ back. BecomesAmong txn old (option_map (λ sent. with_sent sent n a) found) back a among) c.in-Some.is
    c.put_among.ensures) in
    let sent = c.put.ensures ∙ ap (λ s. with_sent s n c.in-Some.message) c.in_ok-sent-in-Some.ensures
    ∙ ap (with_sent _ n) (sym none.1) in
    subst (λ all. OnOk c.insert_new.result (sendings_of c.insert_new.new.map.entries ≡ with_sent_for txn all n a)) c.self.view_is
    (first_put txn c.in_ok-copy-in-Some.field-0 n a c.put.new.self old among c.insert_new.new.map.entries c.insert_new.result
    none.0 c.in_ok-copy-in-Some.ensures sent none.2 c.insert_new.ensures.done)
