-- States the loop invariant of `push_verb` (`src/forms.rt`).
use Rattle.std.proofs.Common.{◌≡◌, ◌++◌, map, take}
use Rattle.std.specs.List.{flat_map}
use Rattle.ill_page.specs.Forms.{form_shown, form_text}
use Rattle.ill_page.proofs.forms.push_verb.Given as goal

-- The forms of the verb with the inputs so far are appended to the page.
abbrev pub invariant-loop-inputs : goal.invariant-loop-inputs
invariant-loop-inputs l =
    l.page.items ≡ l.initial.page.items
    ++ flat_map (form_text (form_shown l.view) l.verb) (take l.inputs-index l.inputs-items)
