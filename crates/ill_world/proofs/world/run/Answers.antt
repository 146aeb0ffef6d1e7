-- Proves the loop invariant and all clauses of `run` (`src/world.rt`). Each step performs the first of the events that
-- are left.
use Rattle.std.proofs.Common.{arith, ap, sym, ◌∙◌}
use Rattle.ill_world.specs.World.{happens, run_of}
use Rattle.ill_world.proofs.Runs.{run_on, run_ended}
use Rattle.ill_world.proofs.world.run.Goals as goal

-- Before the first event all events are left.
pub loop-event-init : goal.loop-event-init
loop-event-init c = ap (λ w. run_of w c.args.events.now) c.in_ok-world.ensures

-- After a step the events that are left lead to the world to which all events lead.
pub loop-event-preserved : goal.loop-event-preserved
loop-event-preserved c =
    let on = run_on happens c.loop-event.world c.step.new.self c.args.events.now c.loop-event.event-index c.event-item.result
    c.in_ok-step.field-0 (omega (arith, c.loop-event-test.true)) c.event-item.is c.in_ok-step.ensures.gives in
    sym on ∙ c.loop-event.invariant

-- After the last event no event is left.
pub returns-clause-runs : goal.returns-clause-runs
returns-clause-runs c = sym (run_ended happens c.loop-event.world c.args.events.now c.loop-event.event-index
    (omega (arith, c.loop-event-test.false))) ∙ c.loop-event.invariant

-- Every run is safe, even if memory runs out before its first event.
pub returns-in_err-world-clause-safe : goal.returns-in_err-world-clause-safe
returns-in_err-world-clause-safe c = c.every_run_is_safe.ensures c.args.txn.now c.args.events.now

-- Every run is safe, even if memory runs out in a step.
pub returns-in_err-step-clause-safe : goal.returns-in_err-step-clause-safe
returns-in_err-step-clause-safe c = c.every_run_is_safe.ensures c.args.txn.now c.args.events.now

-- Every run is safe.
pub returns-clause-safe : goal.returns-clause-safe
returns-clause-safe c = c.every_run_is_safe.ensures c.args.txn.now c.args.events.now

-- Both sides agree in every run, even if memory runs out before its first event.
pub returns-in_err-world-clause-agrees : goal.returns-in_err-world-clause-agrees
returns-in_err-world-clause-agrees c = c.every_run_agrees.ensures c.args.txn.now c.args.events.now

-- Both sides agree in every run, even if memory runs out in a step.
pub returns-in_err-step-clause-agrees : goal.returns-in_err-step-clause-agrees
returns-in_err-step-clause-agrees c = c.every_run_agrees.ensures c.args.txn.now c.args.events.now

-- Both sides agree in every run.
pub returns-clause-agrees : goal.returns-clause-agrees
returns-clause-agrees c = c.every_run_agrees.ensures c.args.txn.now c.args.events.now
