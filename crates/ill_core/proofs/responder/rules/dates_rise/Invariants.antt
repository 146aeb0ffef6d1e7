-- Defines the loop invariant of `dates_rise` (`src/responder/rules.rt`).
use Rattle.std.proofs.Common.{◌≡◌, drop}
use Rattle.std.specs.List.{filter_map}
use Rattle.ill_core.specs.Issued.{granted_day}
use Rattle.ill_core.specs.Responder.{are_rising, rise_from}
use Rattle.ill_core.proofs.responder.rules.dates_rise.Given as goal

-- The granted dates rise if, and only if, those from the index on rise after `last`.
abbrev pub invariant-loop-apdu : goal.invariant-loop-apdu
invariant-loop-apdu l = are_rising (filter_map granted_day l.apdus)
    ≡ rise_from l.last (filter_map granted_day (drop l.apdu-index l.apdus))
