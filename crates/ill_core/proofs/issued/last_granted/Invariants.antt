-- Defines the loop invariant of `last_granted` (`src/issued.rt`).
use Rattle.std.proofs.Common.{◌≡◌, None, drop}
use Rattle.std.specs.List.{filter_map, last_or}
use Rattle.ill_core.specs.Issued.{granted_day}
use Rattle.ill_core.proofs.issued.last_granted.Given as goal

-- The last granted date is the one of the part from the index on, or else `last`.
abbrev pub invariant-loop-apdu : goal.invariant-loop-apdu
invariant-loop-apdu l =
    last_or None (filter_map granted_day l.apdus) ≡ last_or l.last (filter_map granted_day (drop l.apdu-index l.apdus))
