-- Proves the invariant and all clauses of `World::step` (`src/world.rt`), for an event at either party. The event of
-- one party is the event of the world, by `world_gives`.
use Rattle.std.proofs.Common.{sym, ◌∙◌, subst}
use Rattle.ill_record.specs.declared.role.Role.TheVariants as who
use Rattle.ill_world.specs.World.{Parties, happens}
use Rattle.ill_world.specs.Agreement.{KeepsDates, Arrives}
use Rattle.ill_world.specs.PartyRefinement.{GivesOutcome}
use Rattle.ill_world.proofs.Worlds.{world_gives, still_stands, dates_of}
use Rattle.ill_world.proofs.world.World.step.Goals as goal

-- After an event at the requester the invariant holds, by the law `world_stands`.
pub invariant_of-self : goal.invariant_of-self
invariant_of-self c =
    let w : Parties = record { requester = c.self.inside.requester; responder = c.self.inside.responder } in
    let new : Parties = record { requester = c.perform.new.party; responder = c.self.inside.responder } in
    let event = c.args.event.now in
    let gives = world_gives w event who.Requester c.perform.result c.perform.new.party (sym c.who.ensures ∙ c.in-Requester.is)
    c.perform.ensures in (
      c.self.invariant.0,
      still_stands c.self.invariant.0 w new event c.perform.result
          (c.world_stands.ensures.after c.self.invariant.0) gives c.self.invariant.1,
    )

-- An event at the requester gives the outcome and the world of the model.
pub returns-in-Requester-clause-gives : goal.returns-in-Requester-clause-gives
returns-in-Requester-clause-gives c =
    let w : Parties = record { requester = c.self.inside.requester; responder = c.self.inside.responder } in
    let new : Parties = record { requester = c.perform.new.party; responder = c.self.inside.responder } in
    let event = c.args.event.now in
    let gives = world_gives w event who.Requester c.perform.result c.perform.new.party (sym c.who.ensures ∙ c.in-Requester.is)
    c.perform.ensures in
    subst (λ v. GivesOutcome (happens v event) v c.perform.result new) c.self.view_is gives

-- An event at the requester satisfies `KeepsDates`, by the law `due_dates_stay`.
pub returns-in-Requester-clause-dates : goal.returns-in-Requester-clause-dates
returns-in-Requester-clause-dates c =
    let w : Parties = record { requester = c.self.inside.requester; responder = c.self.inside.responder } in
    let new : Parties = record { requester = c.perform.new.party; responder = c.self.inside.responder } in
    let event = c.args.event.now in
    let gives = world_gives w event who.Requester c.perform.result c.perform.new.party (sym c.who.ensures ∙ c.in-Requester.is)
    c.perform.ensures in
    subst (λ v. KeepsDates v event new) c.self.view_is
    (dates_of w new event c.perform.result (c.due_dates_stay.ensures c.self.invariant.0 w event c.self.invariant.1) gives)

-- An event at the requester satisfies `Arrives`, by the law `one_arrival_is_enough`.
pub returns-in-Requester-clause-arrives : goal.returns-in-Requester-clause-arrives
returns-in-Requester-clause-arrives c =
    let w : Parties = record { requester = c.self.inside.requester; responder = c.self.inside.responder } in
    subst (λ v. Arrives v c.args.event.now) c.self.view_is
    (c.one_arrival_is_enough.ensures c.self.invariant.0 w c.args.event.now c.self.invariant.1)

-- After an event at the responder the invariant holds, by the law `world_stands`.
pub invariant_of-self-in-Responder : goal.invariant_of-self-in-Responder
invariant_of-self-in-Responder c =
    let w : Parties = record { requester = c.self.inside.requester; responder = c.self.inside.responder } in
    let new : Parties = record { requester = c.self.inside.requester; responder = c.perform-in-Responder.new.party } in
    let event = c.args.event.now in
    let gives = world_gives w event who.Responder c.perform-in-Responder.result c.perform-in-Responder.new.party
    (sym c.who.ensures ∙ c.in-Responder.is) c.perform-in-Responder.ensures in (
      c.self.invariant.0,
      still_stands c.self.invariant.0 w new event c.perform-in-Responder.result
          (c.world_stands.ensures.after c.self.invariant.0) gives c.self.invariant.1,
    )

-- An event at the responder gives the outcome and the world of the model.
pub returns-in-Responder-clause-gives : goal.returns-in-Responder-clause-gives
returns-in-Responder-clause-gives c =
    let w : Parties = record { requester = c.self.inside.requester; responder = c.self.inside.responder } in
    let new : Parties = record { requester = c.self.inside.requester; responder = c.perform-in-Responder.new.party } in
    let event = c.args.event.now in
    let gives = world_gives w event who.Responder c.perform-in-Responder.result c.perform-in-Responder.new.party
    (sym c.who.ensures ∙ c.in-Responder.is) c.perform-in-Responder.ensures in
    subst (λ v. GivesOutcome (happens v event) v c.perform-in-Responder.result new) c.self.view_is gives

-- An event at the responder satisfies `KeepsDates`, by the law `due_dates_stay`.
pub returns-in-Responder-clause-dates : goal.returns-in-Responder-clause-dates
returns-in-Responder-clause-dates c =
    let w : Parties = record { requester = c.self.inside.requester; responder = c.self.inside.responder } in
    let new : Parties = record { requester = c.self.inside.requester; responder = c.perform-in-Responder.new.party } in
    let event = c.args.event.now in
    let gives = world_gives w event who.Responder c.perform-in-Responder.result c.perform-in-Responder.new.party
    (sym c.who.ensures ∙ c.in-Responder.is) c.perform-in-Responder.ensures in
    subst (λ v. KeepsDates v event new) c.self.view_is
    (dates_of w new event c.perform-in-Responder.result
    (c.due_dates_stay.ensures c.self.invariant.0 w event c.self.invariant.1) gives)

-- An event at the responder satisfies `Arrives`, by the law `one_arrival_is_enough`.
pub returns-in-Responder-clause-arrives : goal.returns-in-Responder-clause-arrives
returns-in-Responder-clause-arrives c =
    let w : Parties = record { requester = c.self.inside.requester; responder = c.self.inside.responder } in
    subst (λ v. Arrives v c.args.event.now) c.self.view_is
    (c.one_arrival_is_enough.ensures c.self.invariant.0 w c.args.event.now c.self.invariant.1)
