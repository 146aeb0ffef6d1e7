-- Answers the contract of `exchange_at_desks` (`src/on_shelf.rt`).
use Rattle.std.proofs.Common.{ℕ, List, Option, inr, map, ap, subst, sym}
use Rattle.std.specs.Prelude.{string_bytes}
use Rattle.ill_files.specs.ShelfNames.{AreOnShelf}
use Rattle.ill_exchange.specs.Nights.{AskedNight, ExchangesAtFile, asked_night}
use Rattle.ill_shelf.specs.Shelf.{Headed, VisitsAll, is_lines}
use Rattle.ill_shelf.proofs.on_shelf.exchange_at_desks.Goals as goal

-- Proves the contract of `exchange_at_desks`. `visit_all` visits the desks, and `graver` combines its answer with that
-- of `end_night`. All else writes nothing.
pub returns : goal.returns
returns g c =
    let paths = map (λ path. string_bytes path) c.deref.result.now in
    let asked = asked_night c.args.night.now in
    let heads = is_lines asked.form in
    let answer = c.visit_all-answer.result in
    let quiet = ap (λ writer. g.W.Write.contents writer) c.in_ok-is_waiting.ensures.silent in
    let ended = ap (λ writer. g.W.Write.contents writer) c.end_night-further.ensures.silent in
    let printed = g.W.Write.contents c.visit_all-answer.new.machine.writer in
    let as_asked = subst (λ (now : AskedNight).
    VisitsAll (Headed g.D.DeskStore.Store.state (is_lines now.form) (ExchangesAtFile now)) paths
    (g.W.Write.contents c.sort_message_files.new.machine.writer) printed answer) c.at_each.ensures c.visit_all-answer.ensures in
    let begun = subst (λ (start : Option (List ℕ)).
    VisitsAll (Headed g.D.DeskStore.Store.state heads (ExchangesAtFile asked)) paths start printed answer) quiet as_asked in
    let visited = subst (λ (end : Option (List ℕ)).
    VisitsAll (Headed g.D.DeskStore.Store.state heads (ExchangesAtFile asked)) paths
    (g.W.Write.contents c.args.machine.now.writer) end answer) (sym ended)
    begun in
    let found = subst (λ desks. AreOnShelf c.args.shelf.now.folder.now (map (λ path. string_bytes path) desks))
    (sym c.deref.ensures.value) c.in_ok-desks.ensures.on_shelf in
    inr (paths, answer, c.end_night-further.result, found, visited, c.end_night-further.ensures.further, c.graver.ensures)
