-- Answers the contract of `visit_all` (`src/visit.rt`).
use Rattle.std.proofs.Common.{◌≡◌, ◌+◌, ◌<◌, ℕ, Bool, List, Result, map, take, get_or, ap, sym, subst, ◌∙◌}
use Rattle.std.specs.Prelude.{string_bytes}
use Rattle.std.proofs.lemmas.List.{length-map, get_or-map}
use Rattle.ill_text.specs.declared.fault.ToolFault.{ToolFault}
use Rattle.ill_shelf.specs.Shelf.{Headed, RunsVisit, VisitsAll, is_headed}
use Rattle.ill_text.specs.Visits.{Stop}
use Rattle.ill_text.proofs.VisitsLemmas.{no_visit, one_more_visit}
use Rattle.ill_shelf.proofs.visit.visit_all.Goals as goal

-- Proves the loop invariant of `visit_all` after one more desk. `one_more_visit` appends the visit at `place`.
pub loop-place-preserved : goal.loop-place-preserved
loop-place-preserved g c =
    let names = map (λ path. string_bytes path) c.args.paths.now in
    let place = c.loop-place.place in
    let count = length-map c.args.paths.now (λ path. string_bytes path) in
    let within = subst (λ (n : ℕ). place < n) (sym count) c.loop-place-test.true in
    let at = ap (λ path. string_bytes path) c.index-paths-place.is
    ∙ sym (get_or-map (λ path. string_bytes path) c.args.paths.now place c.index-paths-place.result
    (string_bytes c.index-paths-place.result) c.loop-place-test.true) in
    let found = subst (λ (path : List ℕ). path ≡ get_or names place path) (sym c.as_str.ensures.value) at in
    let Runs : Bool → Stop → Type 0 = λ is_first.
    Headed g.D.DeskStore.Store.state (is_headed c.args.visit.now) (RunsVisit c.args.visit.now) in
    let visited = one_more_visit Runs names place _
    (g.W.Write.contents c.args.machine.now.writer) (g.W.Write.contents c.loop-place.machine.writer)
    (g.W.Write.contents c.visit_desk-next.new.machine.writer) c.loop-place.answer c.visit_desk-next.result within found
    c.loop-place.invariant c.visit_desk-next.ensures in
    subst (λ (answer : Result Bool ToolFault).
    VisitsAll (Headed g.D.DeskStore.Store.state (is_headed c.args.visit.now) (RunsVisit c.args.visit.now))
    (take (place + 1) names)
    (g.W.Write.contents c.args.machine.now.writer) (g.W.Write.contents c.visit_desk-next.new.machine.writer) answer)
    (sym c.graver-answer.ensures) visited

-- Proves the loop invariant of `visit_all` before the first desk. By `no_visit` no path was visited.
pub loop-place-init : goal.loop-place-init
loop-place-init g c =
    no_visit (λ is_first. Headed g.D.DeskStore.Store.state (is_headed c.args.visit.now) (RunsVisit c.args.visit.now))
    (g.W.Write.contents c.args.machine.now.writer)
