-- Proves the loop invariant and the contract of `Simulation::run` (`src/simulation.rt`). Each step performs the next
-- line, or ends the script.
use Rattle.std.proofs.Common.{arith, ℕ, Ok, Err, subst}
use Rattle.std.specs.Io.KnownBytes.{prepend_known}
use Rattle.ill_script.specs.Replay.{before_first, Replays}
use Rattle.ill_script.proofs.Simulations.{goes_on, ends_here}
use Rattle.ill_script.proofs.Steps.{finds_end, counts_as_read}
use Rattle.ill_script.proofs.simulation.Simulation.run.Goals as goal

-- Before line 1 the rest of the script is the whole, and no event has happened.
pub loop-before-init : goal.loop-before-init
loop-before-init g c =
    let self = c.args.self in (
      λ result new replays.
          subst (λ (count : ℕ). Replays g.T.Performer.replay
          (record { number = 1; carried = self.carried; world = self.performer; count = count }) (record {
            left = prepend_known self.ahead (g.R.Read.remaining c.args.reader.now);
            written = g.W.Write.contents c.args.writer.now;
          }) result new)
          c.requires.begins replays,
      omega (arith, c.requires.begins),
    )

-- The step has ended the script, and all bytes ahead count as read.
pub returns-in-Ok-false : goal.returns-in-Ok-false
returns-in-Ok-false g c =
    let self = c.args.self in
    let replay = g.T.Performer.replay in
    let ends = ends_here replay _ _ _ _ _ c.in-Ok-false.field-0-test c.in-Ok-false.ensures.steps in
    counts_as_read replay (before_first self.carried self.performer) self.ahead c.step.new.self.ahead _ _ _ _
    (Ok c.step.new.self.count) c.requires.unread tt (c.loop-before.invariant.0 (Ok c.step.new.self.count) _ ends)

-- The step has failed, and the script ends with its fault.
pub returns-in-Err : goal.returns-in-Err
returns-in-Err g c =
    let self = c.args.self in
    counts_as_read g.T.Performer.replay (before_first self.carried self.performer) self.ahead c.step.new.self.ahead _ _ _ _
    (Err c.in-Err.fault) c.requires.unread c.in-Err.ensures.used
    (c.loop-before.invariant.0 (Err c.in-Err.fault) _ c.in-Err.ensures.steps)

-- The step has performed a line, and the rest of the script performs the whole.
pub loop-before-preserved : goal.loop-before-preserved
loop-before-preserved g c =
    let old = c.loop-before in (
      λ result new rest.
          old.invariant.0 result new
          (goes_on g.T.Performer.replay _ _ _ _ new _ result c.in-Ok-true.field-0-test c.in-Ok-true.ensures.steps rest),
      omega (arith, old.invariant.1, c.in-Ok-true.ensures.few),
    )

-- After line 100,000 the script ends as `end` finds.
pub returns : goal.returns
returns g c =
    let self = c.args.self in
    let replay = g.T.Performer.replay in
    let finds = finds_end replay _ _ _ _ c.end.result (omega arith) c.end.ensures.end in
    counts_as_read replay (before_first self.carried self.performer) self.ahead c.end.new.self.ahead _ _ _ _ c.end.result
    c.requires.unread c.end.ensures.used (c.loop-before.invariant.0 c.end.result _ finds)
