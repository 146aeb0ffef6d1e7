-- Proves the invariant and the contract of `Party::take` (`src/party.rt`). The bytes of the message are exactly one
-- APDU (`takes`). The side keeps its role and its transaction (`idle`).
use Rattle.std.proofs.Common.{rules}
use Rattle.ill_world.proofs.Parties.{takes_one, taken_idle}
use Rattle.ill_world.proofs.party.Party.take.Goals as goal

-- The side keeps its role and its transaction, whatever it answers to the message.
pub invariant_of-self : goal.invariant_of-self
invariant_of-self c =
    let desk = c.self.inside.desk in
    let takes = takes_one desk.live c.take_bytes.new.self.live _ c.args.message.now c.take_bytes.result c.bytes.ensures
    c.take_bytes.ensures.takes in
    let idle = taken_idle c.rows_grow.ensures desk.live c.take_bytes.new.self.live c.args.message.now c.take_bytes.result takes in
    search (rules, idle)

-- The desk takes the message as its side does.
pub returns : goal.returns
returns c =
    let desk = c.self.inside.desk in
    let takes = takes_one desk.live c.take_bytes.new.self.live _ c.args.message.now c.take_bytes.result c.bytes.ensures
    c.take_bytes.ensures.takes in
    let idle = taken_idle c.rows_grow.ensures desk.live c.take_bytes.new.self.live c.args.message.now c.take_bytes.result takes in
    search (rules, takes, idle)
