-- Proves the loop invariant and the contract of `World::perform_all` (`src/world.rt`). Each step leads on from the
-- world after the events so far.
use Rattle.std.proofs.Common.{arith, sym, ap, ◌∙◌, drop, take, refl}
use Rattle.std.proofs.Math.ListN.{take-append-drop}
use Rattle.ill_world.specs.World.{happens, run_by}
use Rattle.ill_world.proofs.Rounds.{performs_prefix}
use Rattle.ill_world.proofs.Runs.{run_taken}
use Rattle.ill_world.proofs.world.World.perform_all.Goals as goal

-- Before the first event the world is unchanged.
pub loop-event-init : goal.loop-event-init
unfolding run_by
loop-event-init c = refl

-- The step leads to the world after one event more. `here` says this of the model: the event leads there from the world
-- after the events so far.
pub loop-event-preserved : goal.loop-event-preserved
loop-event-preserved c =
    let here = ap (λ w. happens w c.event-item.result) (sym c.loop-event.invariant) ∙ c.in_ok-step.ensures.gives in
    sym (run_taken happens c.args.self.now c.step.new.self c.args.events.now c.loop-event.event-index c.event-item.result
    c.in_ok-step.field-0 (omega (arith, c.loop-event-test.true)) c.event-item.is here)

-- If memory runs out in a step, the events before this step have happened.
pub returns-in_err-step : goal.returns-in_err-step
returns-in_err-step c =
    let events = c.args.events.now in
    let first = take c.loop-event.event-index events in
    performs_prefix happens events first c.args.self.now c.step.new.self c.from_residual.result c.from_residual.ensures.0
    (drop c.loop-event.event-index events, sym (take-append-drop c.loop-event.event-index events))
    (c.in_err-step.ensures.gives ∙ c.loop-event.invariant)
