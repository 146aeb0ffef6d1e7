-- Answers the contract of `visit_files` (`src/visit.rt`).
use Rattle.std.proofs.Common.{◌≡◌, ◌+◌, ◌<◌, ℕ, Bool, List, map, take, get_or, ap, sym, subst, ◌∙◌}
use Rattle.std.specs.Prelude.{◌==◌, string_bytes, nat_lt}
use Rattle.std.proofs.lemmas.List.{length-map, get_or-map}
use Rattle.ill_visits.specs.Visits.{RunsVisit, are_several}
use Rattle.ill_text.specs.Visits.{Stop, VisitsEach}
use Rattle.ill_text.proofs.VisitsLemmas.{no_visit, one_more_visit}
use Rattle.ill_visits.proofs.visit.visit_files.Goals as goal

-- Proves the loop invariant of `visit_files` after one more desk. `one_more_visit` appends the visit at `place`.
-- `within` and `found` say that its file is the next of `names`, and `ran` that the visit had its effect.
pub loop-place-preserved : goal.loop-place-preserved
loop-place-preserved g c =
    let names = map (λ file. string_bytes file) c.args.files.now in
    let place = c.loop-place.place in
    let count = length-map c.args.files.now (λ file. string_bytes file) in
    let within = subst (λ (n : ℕ). place < n) (sym count) c.loop-place-test.true in
    let before = g.W.Write.contents c.args.machine.now.writer in
    let between = g.W.Write.contents c.loop-place.machine.writer in
    let after = g.W.Write.contents c.visit_next-next.new.machine.writer in
    let next = c.visit_next-next.result in
    let at = ap (λ file. string_bytes file) c.index-files-place.is
    ∙ sym (get_or-map (λ file. string_bytes file) c.args.files.now place c.index-files-place.result
    (string_bytes c.index-files-place.result) c.loop-place-test.true) in
    let found = subst (λ (file : List ℕ). file ≡ get_or names place file) (sym c.as_str.ensures.value) at in
    let stop : Stop = record { path = c.as_str.result.now; before = between; after = after; answer = next } in
    let Runs : Bool → Bool → Stop → Type 0 = RunsVisit c.args.visit.now c.args.form in
    let ran = subst (λ (n : ℕ). Runs (nat_lt 1 n) (place == 0) stop) (sym count) c.visit_next-next.ensures in
    let visited = one_more_visit (Runs (are_several names)) names place c.as_str.result.now before between after
    c.loop-place.answer next within found c.loop-place.invariant ran in
    subst (λ answer. VisitsEach (Runs (are_several names)) (take (place + 1) names) before after answer)
    (sym c.graver-answer.ensures) visited

-- Proves the loop invariant of `visit_files` before the first desk. By `no_visit` no path was visited.
pub loop-place-init : goal.loop-place-init
loop-place-init g c =
    no_visit (RunsVisit c.args.visit.now c.args.form (are_several (map (λ file. string_bytes file) c.args.files.now)))
    (g.W.Write.contents c.args.machine.now.writer)
