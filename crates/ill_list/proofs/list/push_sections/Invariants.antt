-- States the loop invariant of `push_sections` (`src/list.rt`).
use Rattle.std.proofs.Common.{◌≡◌, ◌++◌, map, take, Bor}
use Rattle.std.specs.List.{flat_map}
use Rattle.ill_record.specs.declared.side.Side.{Side}
use Rattle.ill_list.specs.Listing.{section, work_text}
use Rattle.ill_list.proofs.list.push_sections.Given as goal

-- The texts of the kinds of work so far are appended.
abbrev pub invariant-loop-work : goal.invariant-loop-work
invariant-loop-work l = record {
  listed : l.text.items ≡ l.initial.text.items
      ++ flat_map (section (work_text l.rows) l.wanted (map (λ (side : Bor Side). side.now) l.listed))
      (take l.work-index l.works);
}
