-- The loop of `Sent::nothing` (`src/sent.rt`) keeps this invariant.
use Rattle.std.proofs.Common.{◌≡◌, None, replicate}
use Rattle.ill_world.proofs.sent.Sent.nothing.Given as goal

-- All places so far are empty.
abbrev pub invariant-loop : goal.invariant-loop
invariant-loop l = l.places.items ≡ replicate l.counter None
