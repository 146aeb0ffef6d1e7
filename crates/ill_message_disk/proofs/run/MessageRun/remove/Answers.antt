-- Answers the contract of `MessageRun::remove` (`src/run.rt`), by lemmas of `Running` on the fields of the run.
use Rattle.std.proofs.Common.{◌≡◌, sym, subst, ap, slice_get, Some, ℕ}
use Rattle.ill_message_disk.specs.Runs.{AllStayKept, MovesInRun, run_state}
use Rattle.ill_message_disk.specs.Spots.{SpotOf, Gone, Survives}
use Rattle.ill_message_disk.proofs.Running.{removal_keeps, removes_in_run, others_survive, state_at}
use Rattle.ill_message_disk.proofs.run.MessageRun.remove.Goals as goal

-- The message file was removed, or was left. `view_is` turns the fields into the value of the run.
pub returns-clause-moves : goal.returns-clause-moves
returns-clause-moves g c =
    let moves = removes_in_run c.self.inside.asked c.self.inside.spots.items c.self.invariant.spread
    (g.D.Disk.state c.self.inside.disk) (g.D.Disk.state c.remove_at.new.disk) c.args.number c.remove_at.result
    (slice_get c.deref.result.now c.args.number)
    (ap (λ l. slice_get l c.args.number) (sym c.deref.ensures.value)) c.remove_at.ensures in
    subst (λ r. MovesInRun Gone c.args.number (run_state g.D.Disk.state r) c.remove_at.result
    (state_at c.self.inside.asked c.self.inside.spots.items (g.D.Disk.state c.remove_at.new.disk))) c.self.view_is moves

-- Each other message file survived the removal.
pub returns-clause-survive : goal.returns-clause-survive
returns-clause-survive g c =
    let survive = others_survive c.self.inside.asked c.self.inside.spots.items c.self.invariant.spread
    (g.D.Disk.state c.self.inside.disk) (g.D.Disk.state c.remove_at.new.disk) c.args.number c.remove_at.result
    (slice_get c.deref.result.now c.args.number)
    (ap (λ l. slice_get l c.args.number) (sym c.deref.ensures.value)) c.remove_at.ensures in
    subst (λ r. (other : ℕ) (spot : SpotOf) → (other ≡ c.args.number → ⊥) → slice_get r.spots other ≡ Some (Some spot) →
    Survives spot (g.D.Disk.state r.disk) (g.D.Disk.state c.remove_at.new.disk)) c.self.view_is survive

-- Each message file that was kept before is kept.
pub returns-clause-kept : goal.returns-clause-kept
returns-clause-kept g c =
    let kept = removal_keeps c.self.inside.asked c.self.inside.spots.items c.self.invariant.spread
    (g.D.Disk.state c.self.inside.disk) (g.D.Disk.state c.remove_at.new.disk) c.args.number c.remove_at.result
    (slice_get c.deref.result.now c.args.number)
    (ap (λ l. slice_get l c.args.number) (sym c.deref.ensures.value)) c.remove_at.ensures in
    subst (λ r. AllStayKept r.spots (g.D.Disk.state r.disk) (g.D.Disk.state c.remove_at.new.disk)) c.self.view_is kept
