-- Answers the contract of `all_of` (`src/sides.rt`).
use Rattle.std.proofs.Common.{◌≡◌, ◌+◌, ◌++◌, map, drop, Bor, ap, ◌∙◌, append_assoc, add-one}
use Rattle.std.specs.Prelude.{slice_get}
use Rattle.std.specs.Option.{option_to_list}
use Rattle.ill_record.specs.declared.side.Side.{Side}
use Rattle.ill_words.proofs.SidesLemmas.{list_split_at}
use Rattle.ill_words.proofs.sides.all_of.Goals as goal

-- Proves the loop invariant of `all_of` after one more side. `list_split_at` splits off the side at `place`.
-- `here` has this side alone, `left` the sides after it, and `so_far` the sides that were pushed before.
pub loop-place-preserved : goal.loop-place-preserved
loop-place-preserved c =
    let sides = c.args.sides.now.sides in
    let place = c.loop-place.place in
    let so_far = map (λ (side : Bor Side). side.now) c.loop-place.all.items in
    let here = option_to_list (slice_get sides place) in
    let left = drop (place + 1) sides in
    let further : here ++ left ≡ drop place sides = ap (λ n. here ++ drop n sides) (add-one place) ∙ list_split_at sides place in
    record {
      all = ap (λ items. items ++ left) c.in_ok-push_at.ensures ∙ append_assoc so_far here left
          ∙ ap (λ items. so_far ++ items) further ∙ c.loop-place.invariant.all;
    }
