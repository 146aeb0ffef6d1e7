-- Defines the loop invariant of `Issued::last` (`src/issued.rt`).
use Rattle.std.proofs.Common.{◌≡◌, None, drop}
use Rattle.std.specs.List.{filter_map, last_or}
use Rattle.ill_core.specs.Issued.{sought_number}
use Rattle.ill_core.proofs.issued.Issued.last.Given as goal

-- The last number sought is the one of the part from the index on, or else `last`.
abbrev pub invariant-loop-apdu : goal.invariant-loop-apdu
invariant-loop-apdu l =
    last_or None (filter_map (sought_number l.sought) l.self.apdus)
    ≡ last_or l.last (filter_map (sought_number l.sought) (drop l.apdu-index l.apdu-items))
