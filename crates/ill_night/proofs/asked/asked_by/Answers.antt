-- Answers the contract of `asked_by` (`src/asked.rt`).
use Rattle.std.proofs.Common.{◌≡◌, ◌+◌, ◌++◌, drop, ap, ◌∙◌, append_assoc, add-one}
use Rattle.std.specs.Prelude.{slice_get}
use Rattle.std.specs.List.{zip}
use Rattle.ill_night.specs.Outbox.{asked_by, asking_bytes_at}
use Rattle.ill_night.proofs.OutboxLemmas.{asking_split_at}
use Rattle.ill_night.proofs.asked.asked_by.Goals as goal

-- Proves the loop invariant of `asked_by` after one more message file. `asking_split_at` splits off `here`, the bytes
-- of the message file at `place`, from the bytes of the later message files, which are `left`.
pub loop-place-preserved : goal.loop-place-preserved
loop-place-preserved g c =
    let live = c.args.desk.now.live in
    let message_files = c.args.message_files.now in
    let verdicts = c.args.verdicts.now in
    let place = c.loop-place.place in
    let so_far = c.loop-place.asked.items in
    let here = asking_bytes_at live (slice_get message_files place) (slice_get verdicts place) in
    let left = asked_by live (zip (drop (place + 1) message_files) (drop (place + 1) verdicts)) in
    let further : here ++ left ≡ asked_by live (zip (drop place message_files) (drop place verdicts)) =
    ap (λ n. here ++ asked_by live (zip (drop n message_files) (drop n verdicts))) (add-one place)
    ∙ asking_split_at live message_files verdicts place in
    record {
      there = ap (λ items. items ++ left) c.in_ok-push_asking_at.ensures ∙ append_assoc so_far here left
          ∙ ap (λ items. so_far ++ items) further ∙ c.loop-place.invariant.there;
    }
