-- Answers the contract of `flush_each` (`src/run.rt`).
use Rattle.std.proofs.Common.{inr, refl, arith, ◌+◌, slice_get, Some}
use Rattle.ill_disk.specs.declared.disk.DiskFault.{DiskFault}
use Rattle.ill_message_disk.proofs.Flushing.{flushed_next, got_below}
use Rattle.ill_message_disk.proofs.run.flush_each.Goals as goal

-- The invariant holds after the claimed name of one more message file is flushed.
pub loop-number-preserved : goal.loop-number-preserved
loop-number-preserved g c =
    flushed_next c.args.spots.now c.requires c.loop-number.number (g.D.Disk.state c.args.disk.now)
    (g.D.Disk.state c.loop-number.disk) (g.D.Disk.state c.flush_at.new.disk) DiskFault
    (c.loop-number.number + 1)
    c.in_ok-flush_at.field-0 (slice_get c.args.spots.now c.loop-number.number) refl (omega (arith))
    c.loop-number.invariant
    c.in_ok-flush_at.ensures

-- After the loop each message file of the list is below the number of those that were flushed.
pub returns-clause-kept : goal.returns-clause-kept
returns-clause-kept g c = λ h number spot found.
    let below = got_below c.args.spots.now number (Some spot) found in
    inr (c.loop-number.invariant.lasts h number spot (omega (arith, below, c.loop-number-test.false)) found)
