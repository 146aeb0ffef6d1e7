-- The loop of `handling::handle_all` keeps this invariant.
use Rattle.std.proofs.Common.{List, ◌-◌, ◌≤◌, length, drop}
use Rattle.ill_values.specs.declared.apdu.Apdu.{Apdu}
use Rattle.ill_der.specs.Feed.{Begins}
use Rattle.ill_der.specs.Handling.{Handled}
use Rattle.ill_der.proofs.handling.handle_all.Given as goal

-- The APDUs before the offset `at` were handled.
abbrev pub invariant-loop-size : goal.invariant-loop-size
invariant-loop-size g l = record {
  within : l.at ≤ length l.bytes;
  so_far : (apdus : List Apdu) × Begins l.bytes apdus (drop l.at l.bytes)
      × Handled g.H.Handler.handles (l.initial.handler, l.initial.context) apdus (l.handler, l.context);
}

-- The number of bytes from the offset `at` on. Each turn of the loop makes it smaller.
abbrev pub decreases-loop-size : goal.decreases-loop-size
decreases-loop-size g l = length l.bytes - l.at
