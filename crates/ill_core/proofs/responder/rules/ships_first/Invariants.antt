-- Defines the loop invariant of `ships_first` (`src/responder/rules.rt`).
use Rattle.std.proofs.Common.{◌≡◌, drop}
use Rattle.ill_core.specs.Responder.{ships_first}
use Rattle.ill_core.proofs.responder.rules.ships_first.Given as goal

-- `ships_first` of the list equals `ships_first` of the part from the index on.
abbrev pub invariant-loop-apdu : goal.invariant-loop-apdu
invariant-loop-apdu l = ships_first l.apdus ≡ ships_first (drop l.apdu-index l.apdus)
