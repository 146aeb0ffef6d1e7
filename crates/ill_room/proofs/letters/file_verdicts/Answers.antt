-- Answers the contract of `file_verdicts` (`src/letters.rt`).
use Rattle.std.proofs.Common.{◌≡◌, ◌+◌, ◌++◌, drop, map, ap, sym, ◌∙◌, append_assoc, add-one}
use Rattle.std.specs.Prelude.{slice_get}
use Rattle.std.specs.List.{zip}
use Rattle.std.proofs.lemmas.List.{map-append}
use Rattle.ill_night.specs.declared.verdict.MessageFile.{MessageFile}
use Rattle.ill_night.specs.declared.verdict.Verdict.{Verdict}
use Rattle.ill_room.specs.Letters.{file_verdict, pair_at}
use Rattle.ill_room.proofs.LettersLemmas.{split_at, verdict_of_pair}
use Rattle.ill_room.proofs.letters.file_verdicts.Goals as goal

-- Proves the loop invariant after one more message file. `here` has the message file at `place` with its verdict, if
-- there are both, and `left` has the later pairs. By `split_at` they are the pairs from `place` on (`further`).
pub loop-place-preserved : goal.loop-place-preserved
loop-place-preserved c =
    let message_files = c.args.message_files.now in
    let verdicts = c.args.verdicts.now in
    let place = c.loop-place.place in
    let so_far = c.loop-place.settled.items in
    let settle = λ (message_file : MessageFile × Verdict).
    file_verdict (zip message_files verdicts) message_file.0.letter message_file.1 in
    let here = pair_at (slice_get message_files place) (slice_get verdicts place) in
    let left = zip (drop (place + 1) message_files) (drop (place + 1) verdicts) in
    let further : here ++ left ≡ zip (drop place message_files) (drop place verdicts) =
    ap (λ n. here ++ zip (drop n message_files) (drop n verdicts)) (add-one place) ∙ split_at message_files verdicts place in
    record {
      there = ap (λ items. items ++ map settle left)
          (c.in_ok-push_file_verdict.ensures
          ∙ ap (λ items. so_far ++ items)
          (verdict_of_pair (zip message_files verdicts) (slice_get message_files place) (slice_get verdicts place)))
          ∙ append_assoc so_far (map settle here) (map settle left)
          ∙ ap (λ items. so_far ++ items) (sym (map-append settle here left) ∙ ap (map settle) further)
          ∙ c.loop-place.invariant.there;
    }
