-- Proves the contract of `happen` (`src/desk_world.rt`), for an event at either desk. The event of one desk is the
-- event of both, by `both_give`.
use Rattle.std.proofs.Common.{sym, ◌∙◌}
use Rattle.ill_record.specs.declared.role.Role.TheVariants as who
use Rattle.ill_world.specs.World.{who_of}
use Rattle.ill_world.specs.Desks.{DeskParty, DeskParties, plain, desk_happens_to}
use Rattle.ill_world.proofs.Worlds.{both_give}
use Rattle.ill_world.proofs.desk_world.happen.Goals as goal

pub returns-in-Requester : goal.returns-in-Requester
returns-in-Requester c =
    let w : DeskParties = record { requester = c.args.requester.now; responder = c.args.responder.now } in
    both_give (λ (p : DeskParty) (partner : DeskParty). desk_happens_to p partner.sent c.args.event.now) w
    (who_of (plain c.args.event.now)) who.Requester c.perform.result c.perform.new.party
    (sym c.who.ensures ∙ c.in-Requester.is) c.perform.ensures

pub returns-in-Responder : goal.returns-in-Responder
returns-in-Responder c =
    let w : DeskParties = record { requester = c.args.requester.now; responder = c.args.responder.now } in
    both_give (λ (p : DeskParty) (partner : DeskParty). desk_happens_to p partner.sent c.args.event.now) w
    (who_of (plain c.args.event.now)) who.Responder c.perform-in-Responder.result c.perform-in-Responder.new.party
    (sym c.who.ensures ∙ c.in-Responder.is) c.perform-in-Responder.ensures
