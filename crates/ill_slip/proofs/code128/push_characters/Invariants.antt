-- States the loop invariant of `push_characters` (`src/code128.rt`).
use Rattle.std.proofs.Common.{◌≡◌, ◌++◌, take}
use Rattle.std.specs.List.{flat_map}
use Rattle.ill_slip.specs.Code128.{drawn, value_of}
use Rattle.ill_slip.proofs.code128.push_characters.Given as goal

-- The symbols of the characters so far are appended to the page.
abbrev pub invariant-loop-character : goal.invariant-loop-character
invariant-loop-character l = record {
  drawn : l.page.items ≡ l.initial.page.items
      ++ flat_map (λ character. drawn (value_of character)) (take l.character-index l.text);
}
