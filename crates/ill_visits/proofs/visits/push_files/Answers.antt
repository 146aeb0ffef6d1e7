-- Answers the contract of `push_files` (`src/visits.rt`).
use Rattle.std.proofs.Common.{◌≡◌, ◌+◌, ◌<◌, ℕ, List, map, take, get_or, ap, sym, subst, refl, ◌∙◌}
use Rattle.std.specs.Prelude.{IfErr, string_bytes}
use Rattle.std.proofs.lemmas.List.{length-map, get_or-map}
use Rattle.ill_visits.specs.Parts.{AddsParts}
use Rattle.ill_visits.proofs.PageLemmas.{no_parts, one_more_part, open_graver}
use Rattle.ill_visits.proofs.visits.push_files.Goals as goal
use Rattle.ill_text.specs.Fault.{IsOpenFault}

-- Proves the loop invariant of `push_files` after one more desk. `one_more_part` appends its part, and by `open_graver`
-- the gravest fault is one of opening. `within` and `found` say that its file is the next of `names`.
pub loop-place-preserved : goal.loop-place-preserved
loop-place-preserved g c =
    let names = map (λ file. string_bytes file) c.args.files.now in
    let place = c.loop-place.place in
    let count = length-map c.args.files.now (λ file. string_bytes file) in
    let within = subst (λ (n : ℕ). place < n) (sym count) c.loop-place-test.true in
    let before = c.args.page.now.items in
    let after = c.push_file.new.page.items in
    let next = c.in_ok-next.next in
    let at = ap (λ file. string_bytes file) c.index-files-place.is
    ∙ sym (get_or-map (λ file. string_bytes file) c.args.files.now place c.index-files-place.result
    (string_bytes c.index-files-place.result) c.loop-place-test.true) in
    let found = subst (λ (file : List ℕ). file ≡ get_or names place file) (sym c.as_str.ensures.value) at in
    let printed = one_more_part c.args.days.now.today c.args.days.now.since names place c.as_str.result.now before
    c.loop-place.page.items after
    c.loop-place.answer next within found c.loop-place.invariant.printed c.in_ok-next.ensures.printed in
    let fault = open_graver c.loop-place.answer next c.loop-place.invariant.fault c.in_ok-next.ensures.fault in
    record {
      printed = subst (λ answer. AddsParts c.args.days.now.today c.args.days.now.since (take (place + 1) names) before after
          answer)
          (sym c.graver-answer.ensures)
          printed;
      fault = subst (λ answer. IfErr answer IsOpenFault) (sym c.graver-answer.ensures) fault;
      silent = c.in_ok-next.ensures.silent ∙ c.loop-place.invariant.silent;
    }

-- Proves the loop invariant of `push_files` before the first desk. By `no_parts` the page has no part.
pub loop-place-init : goal.loop-place-init
loop-place-init g c = record {
  printed = no_parts c.args.days.now.today c.args.days.now.since c.args.page.now.items;
  fault = tt;
  silent = refl;
}
