-- Answers the contract of `all_due` (`src/dates.rt`).
use Rattle.std.proofs.Common.{◌≡◌, ◌+◌, ◌++◌, drop, ap, sym, ◌∙◌, append_assoc, add-one}
use Rattle.std.specs.Prelude.{slice_get}
use Rattle.std.specs.Option.{option_to_list}
use Rattle.ill_inbox.specs.Dates.{all_due, due_at}
use Rattle.ill_inbox.proofs.DatesLemmas.{deeds_split_at}
use Rattle.ill_inbox.proofs.dates.all_due.Goals as goal

-- Proves the loop invariant of `all_due` after one more loan. `deeds_split_at` splits off `here`, the deed of the
-- loan at `place`, from the deeds of the later loans, which are `left`.
pub loop-place-preserved : goal.loop-place-preserved
loop-place-preserved c =
    let which = c.args.which in
    let today = c.args.today in
    let sides = c.args.sides.now.sides in
    let place = c.loop-place.place in
    let so_far = c.loop-place.dues.items in
    let here = option_to_list (due_at which today (slice_get sides place)) in
    let left = all_due which today (drop (place + 1) sides) in
    let further : here ++ left ≡ all_due which today (drop place sides) =
    ap (λ n. here ++ all_due which today (drop n sides)) (add-one place) ∙ sym (deeds_split_at which today sides place) in
    record {
      all = ap (λ items. items ++ left) c.in_ok-push_due_at.ensures ∙ append_assoc so_far here left
          ∙ ap (λ items. so_far ++ items) further ∙ c.loop-place.invariant.all;
    }
