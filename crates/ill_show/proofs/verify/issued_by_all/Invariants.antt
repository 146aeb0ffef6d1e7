-- States the loop invariant of `issued_by_all` (`src/verify.rt`).
use Rattle.std.proofs.Common.{◌≡◌, ◌≤◌, ◌*◌, length, take, Bor}
use Rattle.std.specs.Prelude.{sum_by}
use Rattle.ill_record.specs.declared.side.Side.{Side}
use Rattle.ill_record.specs.Side.{issued_of}
use Rattle.ill_show.proofs.verify.issued_by_all.Given as goal

-- `issued` is the number of messages of the sides so far. Each side has at most 255 of them.
abbrev pub invariant-loop-side : goal.invariant-loop-side
invariant-loop-side l = record {
  counted : l.issued ≡ sum_by (λ (side : Bor Side). length (issued_of side.now)) (take l.side-index l.sides);
  few : l.issued ≤ l.side-index * 255;
}
