-- States the loop invariant of `push_parts` (`src/encoding_v2.rt`).
use Rattle.std.proofs.Common.{◌≡◌, ◌++◌, drop}
use Rattle.ill_record.specs.Layout.{encode_all}
use Rattle.ill_record.specs.RecordsV2.{part}
use Rattle.ill_record.specs.Ranges.{Each, IsSide}
use Rattle.ill_record.proofs.encoding_v2.push_parts.Given as goal

-- The bytes so far, followed by the parts of the sides from `place` on, are the whole encoding.
-- If the sides from `place` on are consistent and in range, all sides are.
abbrev pub invariant-loop-place : goal.invariant-loop-place
invariant-loop-place l = record {
  bytes : l.bytes.items ++ encode_all part.encode (drop l.place l.sides.sides)
      ≡ l.fn.bytes.items ++ encode_all part.encode l.sides.sides;
  sides : Each IsSide (drop l.place l.sides.sides) → Each IsSide l.sides.sides;
}
