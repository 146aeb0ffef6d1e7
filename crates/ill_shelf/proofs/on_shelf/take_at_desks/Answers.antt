-- Answers the contract of `take_at_desks` (`src/on_shelf.rt`).
use Rattle.std.proofs.Common.{ℕ, List, Option, inr, map, true, ap, subst, sym}
use Rattle.std.specs.Prelude.{string_bytes}
use Rattle.ill_files.specs.ShelfNames.{AreOnShelf}
use Rattle.ill_exchange.specs.Nights.{InboxAtFile}
use Rattle.ill_shelf.specs.Shelf.{Headed, VisitsAll}
use Rattle.ill_shelf.proofs.on_shelf.take_at_desks.Goals as goal

-- Proves the contract of `take_at_desks`. `sort_message_files` writes nothing, and `visit_all` visits the desks.
-- `graver` combines its answer with that of `waiting`.
pub returns : goal.returns
returns g c =
    let paths = map (λ path. string_bytes path) c.deref.result.now in
    let answer = c.visit_all-answer.result in
    let quiet = ap (λ writer. g.W.Write.contents writer) c.in_ok-is_waiting.ensures.silent in
    let visited = subst (λ (start : Option (List ℕ)).
    VisitsAll (Headed g.D.DeskStore.Store.state true InboxAtFile) paths start
    (g.W.Write.contents c.visit_all-answer.new.machine.writer) answer) quiet
    c.visit_all-answer.ensures in
    let found = subst (λ desks. AreOnShelf c.args.shelf.now.folder.now (map (λ path. string_bytes path) desks))
    (sym c.deref.ensures.value) c.in_ok-desks.ensures.on_shelf in
    inr (paths, answer, c.waiting.result, found, visited, c.waiting.ensures, c.graver.ensures)
