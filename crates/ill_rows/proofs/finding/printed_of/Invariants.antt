-- States the loop invariant of `printed_of` (`src/finding.rt`).
use Rattle.std.proofs.Common.{◌≡◌, map, take, Bor}
use Rattle.std.specs.Prelude.{filter}
use Rattle.ill_record.specs.declared.side.Side.{Side}
use Rattle.ill_rows.specs.Finding.{has_words}
use Rattle.ill_rows.proofs.finding.printed_of.Given as goal

-- `found` has the loans so far of which a text has the words `sought`.
abbrev pub invariant-loop-side : goal.invariant-loop-side
invariant-loop-side l = record {
  found : map (λ (side : Bor Side). side.now) l.found.items
      ≡ filter (has_words l.sought l.notes) (map (λ (side : Bor Side). side.now) (take l.side-index l.sides));
}
