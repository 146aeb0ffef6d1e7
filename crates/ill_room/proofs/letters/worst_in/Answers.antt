-- Answers the contract of `worst_in` (`src/letters.rt`).
use Rattle.std.proofs.Common.{◌≡◌, ◌+◌, ◌++◌, drop, Bor, ap, sym, ◌∙◌, add-one}
use Rattle.std.specs.Prelude.{slice_get, option_map}
use Rattle.std.specs.List.{fold, zip}
use Rattle.std.proofs.lemmas.List.Sums.{fold-append}
use Rattle.ill_night.specs.declared.verdict.MessageFile.{MessageFile}
use Rattle.ill_night.specs.declared.verdict.Verdict.{Verdict}
use Rattle.ill_room.specs.Letters.{pair_at, worse_if_in}
use Rattle.ill_room.proofs.LettersLemmas.{item_at, split_at}
use Rattle.ill_room.proofs.letters.worst_in.Goals as goal

-- Proves the loop invariant after one more message file. `here` has the message file at `place` with its verdict, if
-- there are both, and `left` has the later pairs. The call gets the pair `here` (`found`). By `split_at` the pairs from
-- `place` on are `here` and `left` (`further`).
pub loop-place-preserved : goal.loop-place-preserved
loop-place-preserved c =
    let message_files = c.args.message_files.now in
    let verdicts = c.args.verdicts.now in
    let place = c.loop-place.place in
    let step = worse_if_in c.args.number in
    let here = pair_at (slice_get message_files place) (slice_get verdicts place) in
    let at_place = option_map (λ (verdict : Bor Verdict). verdict.now) c.get-in-loop-place.result in
    let found : pair_at (option_map (λ (message_file : Bor MessageFile). message_file.now) c.get.result) at_place ≡ here =
    ap (λ message_file. pair_at message_file at_place) (item_at message_files place c.get.result c.get.ensures.lookup)
    ∙ ap (λ verdict. pair_at (slice_get message_files place) verdict)
    (item_at verdicts place c.get-in-loop-place.result c.get-in-loop-place.ensures.lookup) in
    let left = zip (drop (place + 1) message_files) (drop (place + 1) verdicts) in
    let further : here ++ left ≡ zip (drop place message_files) (drop place verdicts) =
    ap (λ n. here ++ zip (drop n message_files) (drop n verdicts)) (add-one place) ∙ split_at message_files verdicts place in
    record {
      there = ap (λ worst. fold step worst left)
          (c.worse_at-worst.ensures ∙ ap (λ pairs. fold step c.loop-place.worst pairs) found)
          ∙ sym (fold-append step c.loop-place.worst here left)
          ∙ ap (λ pairs. fold step c.loop-place.worst pairs) further ∙ c.loop-place.invariant.there;
    }
