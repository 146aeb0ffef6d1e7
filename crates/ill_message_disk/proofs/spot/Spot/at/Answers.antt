-- Answers the contract of `Spot::at` (`src/spot.rt`).
use Rattle.std.proofs.Common.{sym, ◌∙◌}
use Rattle.ill_message_disk.proofs.Apart.{copies_apart}
use Rattle.ill_message_disk.proofs.spot.Spot.at.Goals as goal

-- The copies of the four paths differ, since the paths do.
pub invariant_of-result : goal.invariant_of-result
invariant_of-result c = copies_apart c.args.paths.claimed.now c.args.paths.waiting.now c.args.paths.quarantined.now
    c.args.paths.reason.now c.in_ok-from_slice.field-0.items c.in_ok-from_slice-2.field-0.items
    c.in_ok-from_slice-3.field-0.items c.in_ok-from_slice-4.field-0.items c.args.file c.in_ok-from_slice.ensures.items
    c.in_ok-from_slice-2.ensures.items c.in_ok-from_slice-3.ensures.items c.in_ok-from_slice-4.ensures.items
    (sym (c.are_apart.ensures c.args.file) ∙ c.if-not-are_apart.false)
