-- Proves the invariant and the contract of `DeskParty::take` (`src/desk_party.rt`), and the premise of its call of
-- `seen`. The bytes of the message are exactly one APDU (`takes`), and the desk keeps its role (`role`).
use Rattle.std.proofs.Common.{rules, [], Ok, subst}
use Rattle.ill_saved.specs.Desk.{DeskTakes}
use Rattle.ill_saved.specs.ManySides.{many_sides}
use Rattle.ill_world.proofs.DeskParties.{takes_one, takes_role, take_faults}
use Rattle.ill_world.proofs.desk_party.DeskParty.take.Goals as goal

-- The desk keeps its role, whatever it answers to the message.
pub invariant_of-self : goal.invariant_of-self
invariant_of-self c =
    let desk = c.self.inside.desk in
    let takes = takes_one desk.live c.take_bytes.new.self.live _ c.args.message.now c.take_bytes.result c.bytes.ensures
    c.take_bytes.ensures.takes in
    let role = takes_role desk.live c.take_bytes.new.self.live c.args.message.now c.take_bytes.result takes in
    search (rules, role)

-- The desk takes the message as the desk of the model does.
pub returns : goal.returns
returns c =
    let desk = c.self.inside.desk in
    let takes = takes_one desk.live c.take_bytes.new.self.live _ c.args.message.now c.take_bytes.result c.bytes.ensures
    c.take_bytes.ensures.takes in
    let role = takes_role desk.live c.take_bytes.new.self.live c.args.message.now c.take_bytes.result takes in
    search (rules, takes, role)

-- A fault of a message that is exactly one APDU satisfies `CanBeSeen`.
pub seen-requires : goal.seen-requires
seen-requires c =
    let desk = c.self.inside.desk in
    let takes = takes_one desk.live c.take_bytes.new.self.live _ c.args.message.now c.take_bytes.result c.bytes.ensures
    c.take_bytes.ensures.takes in
    take_faults desk.live c.take_bytes.new.self.live c.args.message.now c.in-Err.fault
    (subst (λ answer. DeskTakes many_sides desk.live (Ok (c.args.message.now, [])) answer c.take_bytes.new.self.live)
    c.in-Err.is takes)
