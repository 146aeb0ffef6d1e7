-- States the loop invariant of `push_files` (`src/visits.rt`).
use Rattle.std.proofs.Common.{◌≡◌, map, take}
use Rattle.std.specs.Prelude.{IfErr, string_bytes}
use Rattle.ill_visits.specs.Parts.{AddsParts}
use Rattle.ill_visits.proofs.visits.push_files.Given as goal
use Rattle.ill_text.specs.Fault.{IsOpenFault}

-- A part for each of the first `place` files is appended to the page. Their gravest fault is one of opening, and
-- nothing was written.
abbrev pub invariant-loop-place : goal.invariant-loop-place
invariant-loop-place g l = record {
  printed : AddsParts l.days.today l.days.since (take l.place (map (λ file. string_bytes file) l.files)) l.initial.page.items
      l.page.items
      l.answer;
  fault : IfErr l.answer IsOpenFault;
  silent : l.machine.writer ≡ l.initial.machine.writer;
}
