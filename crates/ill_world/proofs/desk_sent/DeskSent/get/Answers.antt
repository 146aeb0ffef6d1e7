-- Proves the contract of `DeskSent::get` (`src/desk_sent.rt`), if `txn` has an entry and if it has none. The list of
-- the model has the entries of the map, by `sent_there`.
use Rattle.std.proofs.Common.{rules, ◌≡◌, Some, None, sym, ap, ◌∙◌}
use Rattle.std.specs.Map.{lookup}
use Rattle.ill_core.specs.Issued.{is_same_txn}
use Rattle.ill_saved.specs.ManySides.{found_or}
use Rattle.ill_world.specs.World.{nothing_sent, sent_message}
use Rattle.ill_world.specs.Desks.{sent_for}
use Rattle.ill_world.proofs.DeskMaps.{sent_there, nothing_there}
use Rattle.ill_world.proofs.desk_sent.DeskSent.get.Goals as goal

-- The map has an entry for `txn`, and the model has its messages.
pub returns-in-Some : goal.returns-in-Some
returns-in-Some c =
    let entries = c.self.inside.map.entries in
    let there : lookup (is_same_txn c.args.txn.now) entries ≡ Some c.in-Some.sent.now = search (rules, c.in-Some.ensures.value) in
    c.get-in-Some.ensures
    ∙ ap (λ s. sent_message s c.args.number)
    (sym (ap (sent_for c.args.txn.now) (sym c.self.view_is) ∙ sent_there c.args.txn.now entries
    ∙ ap (found_or nothing_sent) there))

-- The map has no entry for `txn`, and the model has no message of `txn`.
pub returns-in-None : goal.returns-in-None
returns-in-None c =
    let entries = c.self.inside.map.entries in
    let there : lookup (is_same_txn c.args.txn.now) entries ≡ None = search (rules, c.in-None.ensures.value) in
    sym (ap (λ s. sent_message s c.args.number)
    (ap (sent_for c.args.txn.now) (sym c.self.view_is) ∙ sent_there c.args.txn.now entries ∙ ap (found_or nothing_sent) there)
    ∙ nothing_there c.args.number)
