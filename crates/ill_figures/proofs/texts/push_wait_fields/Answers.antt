-- Answers the contract of `push_wait_fields` (`src/texts.rt`).
use Rattle.std.proofs.Common.{refl}
use Rattle.ill_figures.specs.Texts.{wait_field}
use Rattle.ill_figures.proofs.GrowLemmas.{appended_more}
use Rattle.ill_figures.proofs.texts.push_wait_fields.Goals as goal

-- Proves the loop invariant of `push_wait_fields` after one more wait. By `appended_more` its fields are appended.
pub loop-wait-preserved : goal.loop-wait-preserved
loop-wait-preserved c = record {
  appended = appended_more (wait_field c.args.asked.now) c.args.waits.now c.loop-wait.wait-index _ c.args.text.now.items
      c.loop-wait.text.items c.push_wait_pair.new.text.items _ c.loop-wait-test.true c.loop-wait.invariant.appended
      c.in_ok-push_wait_pair.ensures refl;
}
