-- Answers the contract of `push_desk` (`src/status.rt`).
use Rattle.std.proofs.Common.{◌≡◌, ◌+◌, ◌++◌, drop, ap, sym, ◌∙◌, append_assoc, add-one}
use Rattle.std.specs.Prelude.{slice_get}
use Rattle.ill_show.specs.Objects.{status_of_desk, text_of_one}
use Rattle.ill_show.proofs.StatusLemmas.{status_split_at}
use Rattle.ill_show.proofs.status.push_desk.Goals as goal

-- Proves the loop invariant of `push_desk` after one more side. `status_split_at` splits off `here`, the text of the
-- entry at `place`, from the texts of the later entries, which are `left`.
pub loop-place-preserved : goal.loop-place-preserved
loop-place-preserved g c =
    let held = c.args.desk.now.live.held in
    let place = c.loop-place.place in
    let here = text_of_one c.args.form (slice_get held place) in
    let left = status_of_desk c.args.form (drop (place + 1) held) in
    let shown = c.loop-place.lines.items in
    let further : here ++ left ≡ status_of_desk c.args.form (drop place held) =
    ap (λ n. here ++ status_of_desk c.args.form (drop n held)) (add-one place) ∙ sym (status_split_at c.args.form held place) in
    let pushed : c.push_status_at.new.lines.items ++ left ≡ shown ++ (here ++ left) =
    ap (λ lines. lines ++ left) c.in_ok-push_status_at.ensures ∙ append_assoc shown here left in
    let on : c.push_status_at.new.lines.items ++ left ≡ shown ++ status_of_desk c.args.form (drop place held) =
    pushed ∙ ap (λ lines. shown ++ lines) further in
    record { shown = on ∙ c.loop-place.invariant.shown }
