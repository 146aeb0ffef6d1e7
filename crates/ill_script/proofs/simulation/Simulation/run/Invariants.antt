-- The loop of `Simulation::run` (`src/simulation.rt`) keeps this invariant.
use Rattle.std.proofs.Common.{◌+◌, ◌≤◌, ℕ, Result}
use Rattle.std.specs.Io.KnownBytes.{prepend_known}
use Rattle.ill_script.specs.declared.fault.SimFault.{SimFault}
use Rattle.ill_script.specs.Replay.{before_first, Streams, Replays}
use Rattle.ill_script.proofs.simulation.Simulation.run.Given as goal

-- If the rest of the script ends with a result, the whole script ends with it.
abbrev pub invariant-loop-before : goal.invariant-loop-before
invariant-loop-before g l =
    ((result : Result ℕ SimFault) (new : Streams)
    → Replays g.T.Performer.replay
    (record { number = l.before + 1; carried = l.self.carried; world = l.self.performer; count = l.self.count })
    (record { left = prepend_known l.self.ahead (g.R.Read.remaining l.reader); written = g.W.Write.contents l.writer }) result new
    → Replays g.T.Performer.replay (before_first l.fn.self.carried l.fn.self.performer) (record {
      left = prepend_known l.initial.self.ahead (g.R.Read.remaining l.initial.reader);
      written = g.W.Write.contents l.initial.writer;
    }) result new)
    × (l.self.count ≤ l.before)
