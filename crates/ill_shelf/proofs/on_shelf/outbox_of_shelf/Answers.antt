-- Answers the contract of `outbox_of_shelf` (`src/on_shelf.rt`).
use Rattle.std.proofs.Common.{ℕ, List, Option, inr, map, ap, subst, sym}
use Rattle.std.specs.Prelude.{string_bytes, is_some}
use Rattle.ill_files.specs.ShelfNames.{AreOnShelf}
use Rattle.ill_exchange.specs.Nights.{OutboxAtFile}
use Rattle.ill_shelf.specs.Shelf.{Headed, VisitsAll}
use Rattle.ill_shelf.proofs.on_shelf.outbox_of_shelf.Goals as goal

-- Proves the contract of `outbox_of_shelf`. `visit_all` visits the desks, and `graver` combines its answer with that of
-- `send_words_to`, which writes nothing. The paths are those of desks in the folder of `place` (`here`).
pub returns : goal.returns
returns g c =
    let paths = map (λ path. string_bytes path) c.deref.result.now in
    let answer = c.visit_all-answer.result in
    let to_folder = is_some c.args.outlet in
    let ended = ap (λ writer. g.W.Write.contents writer) c.send_words_to.ensures.silent in
    let visited = subst (λ (end : Option (List ℕ)).
    VisitsAll (Headed g.D.DeskStore.Store.state to_folder (OutboxAtFile to_folder)) paths
    (g.W.Write.contents c.args.machine.now.writer) end answer)
    (sym ended) c.visit_all-answer.ensures in
    let found = subst (λ desks. AreOnShelf c.in_ok-shelf.shelf.folder.now (map (λ path. string_bytes path) desks))
    (sym c.deref.ensures.value) c.in_ok-desks.ensures.on_shelf in
    let here = subst (λ (folder : List ℕ). AreOnShelf folder paths) c.in_ok-shelf.ensures.folder found in
    inr (paths, answer, c.send_words_to.result, here, visited, c.send_words_to.ensures.further, c.graver.ensures)
