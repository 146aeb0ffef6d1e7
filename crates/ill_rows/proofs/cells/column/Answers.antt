-- Answers the contract of `column` (`src/cells.rt`).
use Rattle.std.proofs.Common.{◌++◌, Bool, ap, ◌∙◌}
use Rattle.std.proofs.lemmas.List.{nil_from_length}
use Rattle.ill_rows.specs.Cells.{column, column_byte}
use Rattle.ill_rows.proofs.CellLemmas.{column_ends, column_goes_on}
use Rattle.ill_rows.proofs.cells.column.Goals as goal

-- Proves the loop invariant of `column` after one more byte. By `column_goes_on` the bytes after it are left.
pub loop-byte-preserved : goal.loop-byte-preserved
loop-byte-preserved c =
    let shown = c.loop-byte.shown.items in
    let byte = c.in-Some.byte.now in
    let pushed = c.in_ok-push_column_byte.ensures ∙ ap (λ (edge : Bool). shown ++ column_byte edge byte) c.is_at_edge.ensures in
    record {
      shown = column_goes_on shown c.push_column_byte.new.shown.items (column c.args.text.now) c.loop-byte.is_edge byte
          c.in-Some.after.now c.loop-byte.rest.now c.in-Some.ensures.cases.0 c.loop-byte.invariant.shown pushed;
    }

-- Proves the contract of `column`. After the loop no byte is left to show.
pub returns : goal.returns
returns c =
    column_ends c.loop-byte.shown.items (column c.args.text.now) c.loop-byte.is_edge c.loop-byte.rest.now
    c.loop-byte.invariant.shown (nil_from_length c.loop-byte.rest.now c.in_default.ensures.cases)
