-- States the loop invariant of `words` (`src/field.rt`).
use Rattle.std.proofs.Common.{◌≡◌, map, take}
use Rattle.ill_browser.specs.Fields.{field_shown, words_in}
use Rattle.ill_browser.proofs.field.words.Given as goal

-- The words are those of the fields so far.
abbrev pub invariant-loop-field : goal.invariant-loop-field
invariant-loop-field l =
    map (λ word. word.items) l.words.items ≡ words_in (map field_shown (take l.field-index l.fields))
