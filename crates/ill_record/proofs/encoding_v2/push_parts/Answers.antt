-- Proves the contract of `push_parts` (`src/encoding_v2.rt`).
-- Each turn of the loop appends the part of the next side.
use Rattle.std.proofs.Common.{◌≡◌, ◌+◌, ◌≤◌, ◌<◌, ◌++◌, length, drop, Some, ap, sym, ◌∙◌, arith, rules}
use Rattle.std.specs.List.{slice_get}
use Rattle.std.proofs.lemmas.Option.{get_or_from_slice_get}
use Rattle.ill_record.specs.Layout.{encode_all}
use Rattle.ill_record.specs.RecordsV2.{part}
use Rattle.ill_record.specs.Ranges.{IsSide}
use Rattle.ill_record.proofs.Lists.{one_encoded, all_encoded, one_each, none_each, none_past}
use Rattle.ill_record.proofs.encoding_v2.push_parts.Goals as goal
use Rattle.ill_record.proofs.encoding_v2.push_parts.Goals.{in-Some+in_ok-push_part, in_default}

-- One more turn of the loop keeps the invariant. A side is at `place`, so the second branch cannot be taken. `held` are
-- all sides, `there` says that `side` is at `place`, and `pushed` that its part was appended.
pub loop-place-preserved : goal.loop-place-preserved
loop-place-preserved c =
    let held = c.args.sides.now.sides in
    let place = c.loop-place.place in
    let inside : place < length held = omega (arith, c.loop-place-test.true, c.len-place-end.ensures.value) in
    elim c.match-at.branch [
      | in-Some+in_ok-push_part w ↦
          let side = w.in-Some.side.now in
          let found : slice_get held place ≡ Some side = search rules in
          let there = sym (get_or_from_slice_get held place side side found) in
          let pushed = ap (λ b. b.items) w.bytes-is ∙ w.in_ok-push_part.ensures.bytes in
          record {
            bytes = ap (λ bytes. bytes ++ encode_all part.encode (drop (place + 1) held)) pushed
                ∙ (one_encoded part.encode c.loop-place.bytes.items held place side inside there ∙ c.loop-place.invariant.bytes);
            sides = λ others. c.loop-place.invariant.sides
                (one_each IsSide held place side inside there w.in_ok-push_part.ensures.side others);
          }
      | in_default w ↦ absurd (none_past held place inside (search rules))
    ]

-- After the last side, the parts of all are appended.
pub returns-clause-bytes : goal.returns-clause-bytes
returns-clause-bytes c =
    let held = c.args.sides.now.sides in
    let all : length held ≤ c.loop-place.place = omega (arith, c.loop-place-test.false, c.len-place-end.ensures.value) in
    sym (all_encoded part.encode c.loop-place.bytes.items held c.loop-place.place all) ∙ c.loop-place.invariant.bytes

-- After the last side, all sides are consistent and in range.
pub returns-clause-sides : goal.returns-clause-sides
returns-clause-sides c =
    let held = c.args.sides.now.sides in
    let all : length held ≤ c.loop-place.place = omega (arith, c.loop-place-test.false, c.len-place-end.ensures.value) in
    c.loop-place.invariant.sides (none_each IsSide held c.loop-place.place all)
