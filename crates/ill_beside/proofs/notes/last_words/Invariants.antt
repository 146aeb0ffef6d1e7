-- States the loop invariant of `last_words` (`src/notes.rt`).
use Rattle.std.proofs.Common.{◌≡◌, None, take}
use Rattle.std.specs.Prelude.{option_copied}
use Rattle.ill_beside.specs.Notes.{looks_after}
use Rattle.ill_beside.specs.Places.{looked_up}
use Rattle.ill_beside.proofs.notes.last_words.Given as goal

-- `found` has what the places so far give.
abbrev pub invariant-loop-place : goal.invariant-loop-place
invariant-loop-place l = record {
  found : option_copied l.found ≡ looked_up (looks_after l.begin) l.lines None (take l.place-index l.places);
}
