-- States the loop invariant of `push_fields` (`src/report.rt`).
use Rattle.std.proofs.Common.{◌≡◌, ◌++◌, take}
use Rattle.std.specs.List.{flat_map}
use Rattle.ill_beside.specs.Since.{annex_of}
use Rattle.ill_report.specs.Report.{field_text, page_shown}
use Rattle.ill_report.proofs.report.push_fields.Given as goal

-- The fields so far are appended to the page.
abbrev pub invariant-loop-field : goal.invariant-loop-field
invariant-loop-field l = record {
  printed : l.page.items ≡ l.initial.page.items
      ++ flat_map (field_text (page_shown l.view) (annex_of l.annex) l.side) (take l.field-index l.fields);
}
