-- Answers the contract of `push_count_fields` (`src/texts.rt`).
use Rattle.std.proofs.Common.{ap}
use Rattle.std.specs.Fmt.{decimal}
use Rattle.ill_figures.specs.Texts.{count_field, next_field}
use Rattle.ill_figures.proofs.GrowLemmas.{appended_more}
use Rattle.ill_figures.proofs.texts.push_count_fields.Goals as goal

-- Proves the loop invariant of `push_count_fields` after one more count. By `appended_more` its field is appended.
pub loop-count-preserved : goal.loop-count-preserved
loop-count-preserved c = record {
  appended = appended_more (count_field c.args.asked.now) c.args.counts.now c.loop-count.count-index _ c.args.text.now.items
      c.loop-count.text.items c.push_number_field.new.text.items _ c.loop-count-test.true c.loop-count.invariant.appended
      c.in_ok-push_number_field.ensures (ap (λ number. next_field (decimal number)) c.counted.ensures);
}
