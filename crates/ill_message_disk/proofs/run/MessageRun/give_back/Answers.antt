-- Answers the contract of `MessageRun::give_back` (`src/run.rt`), by lemmas of `Running` on the fields of the run.
use Rattle.std.proofs.Common.{◌≡◌, sym, subst, ap, slice_get, Some, ℕ}
use Rattle.ill_message_disk.specs.Runs.{AnyMessageFile, GivesBackInRun, run_state}
use Rattle.ill_message_disk.specs.Spots.{SpotOf, Survives}
use Rattle.ill_message_disk.proofs.Running.{given_at, given_in_run, given_survive, state_at}
use Rattle.ill_message_disk.proofs.run.MessageRun.give_back.Goals as goal

-- The message file was given back, or was left. `view_is` turns the fields into the value of the run.
pub returns-clause-moves : goal.returns-clause-moves
returns-clause-moves g c =
    let moves = given_in_run c.self.inside.asked c.self.inside.spots.items c.self.invariant.spread
    (g.D.Disk.state c.self.inside.disk) (g.D.Disk.state c.give_back_at.new.disk) c.args.number c.give_back_at.result
    (slice_get c.deref.result.now c.args.number)
    (ap (λ l. slice_get l c.args.number) (sym c.deref.ensures.value))
    (given_at c.deref.result.now c.self.inside.spots.items (g.D.Disk.state c.self.inside.disk)
    (g.D.Disk.state c.give_back_at.new.disk) c.args.number (slice_get c.deref.result.now c.args.number)
    c.give_back_at.result c.deref.ensures.value c.give_back_at.ensures) in
    subst (λ r. GivesBackInRun c.args.number (run_state g.D.Disk.state r)
    (state_at c.self.inside.asked c.self.inside.spots.items (g.D.Disk.state c.give_back_at.new.disk))) c.self.view_is moves

-- Each message file survived the call, whether the message file was given back or left.
pub returns-clause-survive : goal.returns-clause-survive
returns-clause-survive g c =
    let survive = given_survive c.self.inside.asked c.self.inside.spots.items c.self.invariant.spread
    (g.D.Disk.state c.self.inside.disk) (g.D.Disk.state c.give_back_at.new.disk) c.args.number c.give_back_at.result
    (slice_get c.deref.result.now c.args.number)
    (ap (λ l. slice_get l c.args.number) (sym c.deref.ensures.value))
    (given_at c.deref.result.now c.self.inside.spots.items (g.D.Disk.state c.self.inside.disk)
    (g.D.Disk.state c.give_back_at.new.disk) c.args.number (slice_get c.deref.result.now c.args.number)
    c.give_back_at.result c.deref.ensures.value c.give_back_at.ensures) in
    subst (λ r. (other : ℕ) (spot : SpotOf) → AnyMessageFile other → slice_get r.spots other ≡ Some (Some spot) →
    Survives spot (g.D.Disk.state r.disk) (g.D.Disk.state c.give_back_at.new.disk)) c.self.view_is
    (λ other spot any at. survive other spot at)
