-- Answers the contract of `all_held` (`src/sides.rt`).
use Rattle.std.proofs.Common.{◌≡◌, ◌+◌, ◌++◌, map, drop, ap, ◌∙◌, append_assoc, add-one}
use Rattle.std.specs.Prelude.{slice_get}
use Rattle.std.specs.Option.{option_to_list}
use Rattle.ill_words.specs.Sides.{held_of}
use Rattle.ill_words.proofs.SidesLemmas.{list_split_at}
use Rattle.ill_words.proofs.sides.all_held.Goals as goal

-- Proves the loop invariant of `all_held` after one more entry. `list_split_at` splits off the entry at `place`.
-- `here` has this entry alone, `left` the entries after it, and `so_far` the entries that were pushed before.
pub loop-place-preserved : goal.loop-place-preserved
loop-place-preserved g c =
    let held = c.args.desk.now.live.held in
    let place = c.loop-place.place in
    let so_far = map held_of c.loop-place.all.items in
    let here = option_to_list (slice_get held place) in
    let left = drop (place + 1) held in
    let further : here ++ left ≡ drop place held = ap (λ n. here ++ drop n held) (add-one place) ∙ list_split_at held place in
    record {
      all = ap (λ items. items ++ left) c.in_ok-push_held_at.ensures ∙ append_assoc so_far here left
          ∙ ap (λ items. so_far ++ items) further ∙ c.loop-place.invariant.all;
    }
