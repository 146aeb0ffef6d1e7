-- States the loop invariant of `push_rows` (`src/list.rt`).
use Rattle.std.proofs.Common.{◌≡◌, ◌++◌, take, Bor}
use Rattle.std.specs.List.{flat_map}
use Rattle.ill_record.specs.declared.side.Side.{Side}
use Rattle.ill_list.specs.Listing.{printed_row}
use Rattle.ill_beside.specs.Since.{annex_of}
use Rattle.ill_list.proofs.list.push_rows.Given as goal

-- The lines of the sides so far are appended.
abbrev pub invariant-loop-side : goal.invariant-loop-side
invariant-loop-side l = record {
  listed : l.lines.items ≡ l.initial.lines.items
      ++ flat_map (λ (side : Bor Side). printed_row l.rows.columns (annex_of l.rows.annex.now) l.wanted side.now)
      (take l.side-index l.sides);
}
