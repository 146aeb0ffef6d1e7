-- States the loop invariant of `push_rows` (`src/report.rt`).
use Rattle.std.proofs.Common.{◌≡◌, ◌++◌, take, ◌∷◌, [], Bor}
use Rattle.std.specs.List.{flat_map}
use Rattle.ill_record.specs.declared.side.Side.{Side}
use Rattle.ill_beside.specs.Since.{annex_of}
use Rattle.ill_report.specs.Report.{page_shown, rows_text}
use Rattle.ill_report.proofs.report.push_rows.Given as goal

-- The rows of the loans so far that have the work are appended to the page.
abbrev pub invariant-loop-side : goal.invariant-loop-side
invariant-loop-side l = record {
  printed : l.page.items ≡ l.initial.page.items
      ++ flat_map (λ (side : Bor Side). rows_text (page_shown l.view) (annex_of l.annex) l.work (side.now ∷ []))
      (take l.side-index l.sides);
}
