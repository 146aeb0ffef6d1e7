-- Answers the contract of `outbox_with` (`src/keyed.rt`).
use Rattle.std.proofs.Common.{false, sym, subst}
use Rattle.std.specs.Prelude.{is_some, option_map}
use Rattle.ill_place.specs.Place.{place_of}
use Rattle.ill_exchange.specs.Keyed.{WithKey}
use Rattle.ill_exchange.specs.Nights.{OutboxAtFile}
use Rattle.ill_exchange.proofs.KeyedLemmas.{without_key}
use Rattle.ill_exchange.proofs.keyed.outbox_with.Goals as goal

-- Proves that without a folder the messages are written, whether there is a key or not.
pub returns-in-None : goal.returns-in-None
returns-in-None g c =
    let key = option_map (λ file. file.now) c.args.key_file in
    let place = place_of g.D.DeskStore.Store.state c.args.place.now.path.now in
    let before = g.W.Write.contents c.args.machine.now.writer in
    let after = g.W.Write.contents c.outbox.new.machine.writer in
    let sent = without_key key (OutboxAtFile false place) before after c.outbox.result c.outbox.ensures in
    subst (λ folder. WithKey key (OutboxAtFile (is_some folder) place) before after c.outbox.result) (sym c.in-None.is) sent
