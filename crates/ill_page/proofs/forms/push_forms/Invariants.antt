-- States the loop invariant of `push_forms` (`src/forms.rt`).
use Rattle.std.proofs.Common.{◌≡◌, ◌++◌, take}
use Rattle.ill_page.specs.Forms.{form_shown, forms_text}
use Rattle.ill_page.proofs.forms.push_forms.Given as goal

-- The forms of the verbs so far are appended to the page.
abbrev pub invariant-loop-verb : goal.invariant-loop-verb
invariant-loop-verb l =
    l.page.items ≡ l.initial.page.items ++ forms_text (form_shown l.view) (take l.verb-index l.verbs)
