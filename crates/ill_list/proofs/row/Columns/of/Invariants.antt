-- States the loop invariant of `Columns::of` (`src/row.rt`).
use Rattle.std.proofs.Common.{◌≡◌, take, Bor}
use Rattle.std.specs.Prelude.{fold}
use Rattle.ill_record.specs.declared.side.Side.{Side}
use Rattle.ill_list.specs.declared.row.Columns.{Columns}
use Rattle.ill_list.specs.List.{no_columns, widened}
use Rattle.ill_list.proofs.row.Columns.of.Given as goal

-- The columns are wide enough for the sides so far.
abbrev pub invariant-loop-side : goal.invariant-loop-side
invariant-loop-side l = record {
  widened : l.columns ≡ fold (λ (columns : Columns) (side : Bor Side). widened l.wanted.today columns side.now)
      (no_columns l.wanted.has_actions) (take l.side-index l.listed);
}
