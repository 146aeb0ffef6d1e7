-- Answers the contract of `outbox_of_shelf_with` (`src/keyed.rt`).
use Rattle.std.proofs.Common.{false, sym, subst}
use Rattle.std.specs.Prelude.{is_some, option_map}
use Rattle.ill_exchange.specs.Keyed.{WithKey}
use Rattle.ill_exchange.specs.Nights.{OutboxAtFile}
use Rattle.ill_exchange.proofs.KeyedLemmas.{without_key}
use Rattle.ill_shelf.specs.Shelf.{Headed, VisitsShelf}
use Rattle.ill_shelf.proofs.keyed.outbox_of_shelf_with.Goals as goal

-- Proves that without a folder the messages are written, whether there is a key or not.
pub returns-in-None : goal.returns-in-None
returns-in-None g c =
    let state = g.D.DeskStore.Store.state in
    let key = option_map (λ file. file.now) c.args.key_file in
    let folder = c.args.place.now.folder.now in
    let before = g.W.Write.contents c.args.machine.now.writer in
    let after = g.W.Write.contents c.outbox_of_shelf.new.machine.writer in
    let result = c.outbox_of_shelf.result in
    let sent = without_key key (VisitsShelf folder (Headed state false (OutboxAtFile false))) before after result
    c.outbox_of_shelf.ensures in
    subst (λ out. WithKey key (VisitsShelf folder (Headed state (is_some out) (OutboxAtFile (is_some out)))) before after result)
    (sym c.in-None.is) sent
