-- Answers the contract of `MessageRun::keep_asked` (`src/run.rt`), by lemmas of `Running` on the fields of the run.
use Rattle.std.proofs.Common.{◌≡◌, refl, sym, ◌∙◌, subst, slice_get, Some, None, ℕ}
use Rattle.ill_message_disk.specs.Runs.{AnyMessageFile, KeepsInRun, run_state}
use Rattle.ill_message_disk.specs.Spots.{SpotOf, Survives}
use Rattle.ill_message_disk.proofs.Running.{empty_is, keeps_in_run, keeps_survive, state_at}
use Rattle.ill_message_disk.proofs.run.MessageRun.keep_asked.Goals as goal

-- There are no messages, and the file was removed, or was not.
pub returns-then-is_empty-clause-keeps : goal.returns-then-is_empty-clause-keeps
returns-then-is_empty-clause-keeps g c =
    let keeps = keeps_in_run c.self.inside.asked c.self.inside.spots.items c.self.invariant.spread
    (g.D.Disk.state c.self.inside.disk) (g.D.Disk.state c.forget.new.disk) c.args.asked.now None c.forget.result
    (empty_is c.args.asked.now (sym c.is_empty.ensures ∙ c.if-is_empty.true)) c.forget.ensures in
    subst (λ r. KeepsInRun c.args.asked.now (run_state g.D.Disk.state r) c.forget.result
    (state_at c.self.inside.asked c.self.inside.spots.items (g.D.Disk.state c.forget.new.disk))) c.self.view_is keeps

-- Each message file survived the removal.
pub returns-then-is_empty-clause-survive : goal.returns-then-is_empty-clause-survive
returns-then-is_empty-clause-survive g c =
    let survive = keeps_survive c.self.inside.asked c.self.inside.spots.items c.self.invariant.spread
    (g.D.Disk.state c.self.inside.disk) (g.D.Disk.state c.forget.new.disk) c.forget.ensures.touches in
    subst (λ r. (other : ℕ) (spot : SpotOf) → AnyMessageFile other → slice_get r.spots other ≡ Some (Some spot) →
    Survives spot (g.D.Disk.state r.disk) (g.D.Disk.state c.forget.new.disk)) c.self.view_is
    (λ other spot any at. survive other spot at)

-- The messages were kept in the file, or were not.
pub returns-clause-keeps : goal.returns-clause-keeps
returns-clause-keeps g c =
    let keeps = keeps_in_run c.self.inside.asked c.self.inside.spots.items c.self.invariant.spread
    (g.D.Disk.state c.self.inside.disk) (g.D.Disk.state c.keep.new.disk) c.args.asked.now (Some c.args.asked.now) c.keep.result
    refl c.keep.ensures in
    subst (λ r. KeepsInRun c.args.asked.now (run_state g.D.Disk.state r) c.keep.result
    (state_at c.self.inside.asked c.self.inside.spots.items (g.D.Disk.state c.keep.new.disk))) c.self.view_is keeps

-- Each message file survived the calls that keep the messages.
pub returns-clause-survive : goal.returns-clause-survive
returns-clause-survive g c =
    let survive = keeps_survive c.self.inside.asked c.self.inside.spots.items c.self.invariant.spread
    (g.D.Disk.state c.self.inside.disk) (g.D.Disk.state c.keep.new.disk) c.keep.ensures.touches in
    subst (λ r. (other : ℕ) (spot : SpotOf) → AnyMessageFile other → slice_get r.spots other ≡ Some (Some spot) →
    Survives spot (g.D.Disk.state r.disk) (g.D.Disk.state c.keep.new.disk)) c.self.view_is
    (λ other spot any at. survive other spot at)
