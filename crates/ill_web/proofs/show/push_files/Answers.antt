-- Answers the contract of `push_files` (`src/show.rt`).
use Rattle.std.proofs.Common.{◌≡◌, ◌+◌, ◌<◌, ℕ, List, map, take, get_or, ap, sym, subst, refl, ◌∙◌, option_map}
use Rattle.std.specs.Prelude.{string_bytes}
use Rattle.std.proofs.lemmas.List.{length-map, get_or-map}
use Rattle.ill_web.proofs.DeskLemmas.{no_desks, one_more_desk}
use Rattle.ill_web.proofs.show.push_files.Goals as goal

-- Proves the loop invariant of `push_files` after one more desk. `one_more_desk` appends its part.
pub loop-place-preserved : goal.loop-place-preserved
loop-place-preserved g c =
    let files = c.args.house.now.files.now in
    let names = map (λ file. string_bytes file) files in
    let place = c.loop-place.place in
    let count = length-map files (λ file. string_bytes file) in
    let within = subst (λ (n : ℕ). place < n) (sym count) c.loop-place-test.true in
    let at = ap (λ file. string_bytes file) c.index-files-place.is
    ∙ sym (get_or-map (λ file. string_bytes file) files place c.index-files-place.result
    (string_bytes c.index-files-place.result) c.loop-place-test.true) in
    let found = subst (λ (file : List ℕ). file ≡ get_or names place file) (sym c.as_str.ensures.value) at in
    record {
      told = one_more_desk c.args.house.now.operator.now.today (option_map (λ words. words.now) c.args.find) names place
          c.as_str.result.now c.args.page.now.items c.loop-place.page.items c.push_file.new.page.items within found
          c.loop-place.invariant.told c.in_ok-push_file.ensures;
    }

-- Proves the loop invariant of `push_files` before the first desk. By `no_desks` the page has no part.
pub loop-place-init : goal.loop-place-init
loop-place-init g c = record {
  told = no_desks c.args.house.now.operator.now.today (option_map (λ words. words.now) c.args.find) c.args.page.now.items;
}
