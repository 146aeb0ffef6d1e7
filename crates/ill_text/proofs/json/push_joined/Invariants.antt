-- States the loop invariant of `push_joined` (`src/json.rt`).
use Rattle.std.proofs.Common.{◌≡◌, ◌++◌, drop}
use Rattle.ill_text.specs.Json.{joined}
use Rattle.ill_text.proofs.json.push_joined.Given as goal

-- `text`, and the items that are left, are the old text and all items.
abbrev pub invariant-loop-item : goal.invariant-loop-item
invariant-loop-item g l = record {
  shown : l.text.items ++ joined (g.F.ItemForm.text_of l.form) l.before (drop l.item-index l.items)
      ≡ l.fn.text.items ++ joined (g.F.ItemForm.text_of l.form) l.fn.before l.items;
}
