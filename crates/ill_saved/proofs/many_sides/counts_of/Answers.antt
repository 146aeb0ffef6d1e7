-- Proves the contract of `counts_of` (`src/many_sides.rt`).
-- Each turn of the loop appends the count of the next side.
use Rattle.std.proofs.Common.{rules, arith, ◌≡◌, ◌<◌, ◌+◌, ◌++◌, ◌∷◌, [], length, drop, Some, ap, sym, ◌∙◌}
use Rattle.std.specs.List.{slice_get}
use Rattle.std.proofs.lemmas.Option.{get_or_from_slice_get}
use Rattle.ill_saved.specs.ManySides.{counts}
use Rattle.ill_record.proofs.Lists.{none_past}
use Rattle.ill_saved.proofs.Contents.{one_counted}
use Rattle.ill_saved.proofs.many_sides.counts_of.Goals as goal
use Rattle.ill_saved.proofs.many_sides.counts_of.Goals.{in-Some+in_ok-push, in_default}

-- One more turn of the loop keeps the invariant. A side is at `place`, so the second branch cannot be taken. `held` are
-- all sides, `there` says that `side` is at `place`, and `pushed` that its count was appended.
pub loop-place-preserved : goal.loop-place-preserved
loop-place-preserved c =
    let held = c.args.sides.now.sides in
    let place = c.loop-place.place in
    let inside : place < length held = omega (arith, c.loop-place-test.true, c.len-place-end.ensures.value) in
    elim c.match-at.branch [
      | in-Some+in_ok-push w ↦
          let side = w.in-Some.side.now in
          let found : slice_get held place ≡ Some side = search rules in
          let there = sym (get_or_from_slice_get held place side side found) in
          let pushed = ap (λ b. b.items) w.counts-is ∙ w.in_ok-push.ensures.items
          ∙ ap (λ n. c.loop-place.counts.items ++ n ∷ []) w.issued_count.ensures in
          record {
            counted = ap (λ ns. ns ++ counts (drop (place + 1) held)) pushed
                ∙ (one_counted c.loop-place.counts.items held place side inside there ∙ c.loop-place.invariant.counted);
          }
      | in_default w ↦ absurd (none_past held place inside (search rules))
    ]
