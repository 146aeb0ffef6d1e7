-- Answers the contract of `MessageRun::quarantine` (`src/run.rt`), by lemmas of `Running` on the fields of the run.
use Rattle.std.proofs.Common.{◌≡◌, sym, subst, ap, slice_get, Some, ℕ}
use Rattle.ill_message_disk.specs.Runs.{AnyMessageFile, DoesAt, DoesNothing, MovesInRun, run_state}
use Rattle.ill_message_disk.specs.Spots.{SpotOf, Quarantined, QuarantinesMessageFile, Survives}
use Rattle.ill_message_disk.proofs.Running.{quarantined_in_run, quarantined_survive, same_survives, state_at}
use Rattle.ill_message_disk.proofs.run.MessageRun.quarantine.Goals as goal

-- The folder could not be made. The disk is as before, so each message file survived.
pub returns-in_err-make_folder-clause-survive : goal.returns-in_err-make_folder-clause-survive
returns-in_err-make_folder-clause-survive g c = subst (λ r. (other : ℕ) (spot : SpotOf) → AnyMessageFile other →
    slice_get r.spots other ≡ Some (Some spot) →
    Survives spot (g.D.Disk.state r.disk) (g.D.Disk.state c.make_folder.new.self)) c.self.view_is
    (λ other spot any at. same_survives spot c.make_folder.ensures)

-- The folder was made, which does not change the disk. The message file was then quarantined, or was left.
pub returns-clause-moves : goal.returns-clause-moves
returns-clause-moves g c =
    let does = subst (λ s. DoesAt (λ spot. QuarantinesMessageFile spot s c.quarantine_at.result
    (g.D.Disk.state c.quarantine_at.new.disk)) (DoesNothing s c.quarantine_at.result
    (g.D.Disk.state c.quarantine_at.new.disk)) (slice_get c.deref-2.result.now c.args.number)) c.make_folder.ensures
    c.quarantine_at.ensures in
    let moves = quarantined_in_run c.self.inside.asked c.self.inside.spots.items c.self.invariant.spread
    (g.D.Disk.state c.self.inside.disk) (g.D.Disk.state c.quarantine_at.new.disk) c.args.number c.quarantine_at.result
    (slice_get c.deref-2.result.now c.args.number)
    (ap (λ l. slice_get l c.args.number) (sym c.deref-2.ensures.value)) does in
    subst (λ r. MovesInRun Quarantined c.args.number (run_state g.D.Disk.state r) c.quarantine_at.result
    (state_at c.self.inside.asked c.self.inside.spots.items (g.D.Disk.state c.quarantine_at.new.disk))) c.self.view_is moves

-- Each message file survived the call, whether the message file was quarantined or left.
pub returns-clause-survive : goal.returns-clause-survive
returns-clause-survive g c =
    let does = subst (λ s. DoesAt (λ spot. QuarantinesMessageFile spot s c.quarantine_at.result
    (g.D.Disk.state c.quarantine_at.new.disk)) (DoesNothing s c.quarantine_at.result
    (g.D.Disk.state c.quarantine_at.new.disk)) (slice_get c.deref-2.result.now c.args.number)) c.make_folder.ensures
    c.quarantine_at.ensures in
    let survive = quarantined_survive c.self.inside.asked c.self.inside.spots.items c.self.invariant.spread
    (g.D.Disk.state c.self.inside.disk) (g.D.Disk.state c.quarantine_at.new.disk) c.args.number c.quarantine_at.result
    (slice_get c.deref-2.result.now c.args.number)
    (ap (λ l. slice_get l c.args.number) (sym c.deref-2.ensures.value)) does in
    subst (λ r. (other : ℕ) (spot : SpotOf) → AnyMessageFile other → slice_get r.spots other ≡ Some (Some spot) →
    Survives spot (g.D.Disk.state r.disk) (g.D.Disk.state c.quarantine_at.new.disk)) c.self.view_is
    (λ other spot any at. survive other spot at)
