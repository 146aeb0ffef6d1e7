-- States the loop invariant of `push_work_objects` (`src/list.rt`).
use Rattle.std.proofs.Common.{◌≡◌, ◌++◌, take, Bor, option_map}
use Rattle.std.specs.List.{flat_map}
use Rattle.ill_record.specs.declared.side.Side.{Side}
use Rattle.ill_list.specs.ListObjects.{row_object}
use Rattle.ill_beside.specs.Since.{annex_of}
use Rattle.ill_list.proofs.list.push_work_objects.Given as goal

-- The objects of the sides so far are appended.
abbrev pub invariant-loop-side : goal.invariant-loop-side
invariant-loop-side l = record {
  listed : l.text.items ≡ l.initial.text.items
      ++ flat_map (λ (side : Bor Side).
      row_object (option_map (λ path. path.now) l.rows.file) (annex_of l.rows.annex.now) l.wanted.today l.work side.now)
      (take l.side-index l.sides);
}
