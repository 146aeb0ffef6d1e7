-- States why `take` ends (`src/operator.rt`).
use Rattle.std.proofs.Common.{length}
use Rattle.ill_web.proofs.operator.Options.+take.Given as goal

-- Each call of `take` has fewer words than the one before.
abbrev pub decreases-take : goal.decreases-take
decreases-take l = length l.words.now
