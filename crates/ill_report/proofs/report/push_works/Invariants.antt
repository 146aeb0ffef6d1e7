-- States the loop invariant of `push_works` (`src/report.rt`).
use Rattle.std.proofs.Common.{◌≡◌, ◌++◌, take, map, Bor}
use Rattle.std.specs.List.{flat_map}
use Rattle.ill_record.specs.declared.side.Side.{Side}
use Rattle.ill_beside.specs.Since.{annex_of}
use Rattle.ill_report.specs.Report.{page_shown, work_text}
use Rattle.ill_report.proofs.report.push_works.Given as goal

-- The tables of the kinds of work so far are appended to the page.
abbrev pub invariant-loop-work : goal.invariant-loop-work
invariant-loop-work l = record {
  printed : l.page.items ≡ l.initial.page.items
      ++ flat_map (work_text (page_shown l.view) (annex_of l.annex) (map (λ (side : Bor Side). side.now) l.sides))
      (take l.work-index l.works);
}
