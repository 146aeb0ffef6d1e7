-- Proves the loop invariant and the clause `runs` of `run_desks` (`src/desk_world.rt`). Each step performs the first of
-- the events that are left.
use Rattle.std.proofs.Common.{arith, ap, sym, ◌∙◌}
use Rattle.ill_world.specs.Desks.{desks_happen, desks_run}
use Rattle.ill_world.proofs.Runs.{run_on, run_ended}
use Rattle.ill_world.proofs.desk_world.run_desks.Goals as goal

-- Before the first event all events are left.
pub loop-event-init : goal.loop-event-init
loop-event-init c = ap (λ w. desks_run w c.args.events.now) c.in_ok-world.ensures

-- After a step the events that are left lead to the desks to which all events lead.
pub loop-event-preserved : goal.loop-event-preserved
loop-event-preserved c =
    let on = run_on desks_happen c.loop-event.world c.step.new.self c.args.events.now c.loop-event.event-index c.event-item.result
    c.in_ok-step.field-0 (omega (arith, c.loop-event-test.true)) c.event-item.is c.in_ok-step.ensures.gives in
    sym on ∙ c.loop-event.invariant

-- After the last event no event is left.
pub returns-clause-runs : goal.returns-clause-runs
returns-clause-runs c = sym (run_ended desks_happen c.loop-event.world c.args.events.now c.loop-event.event-index
    (omega (arith, c.loop-event-test.false))) ∙ c.loop-event.invariant
