-- Proves the contract of `Party::act` (`src/party.rt`). The desk does or refuses an action as its side does.
use Rattle.std.proofs.Common.{rules}
use Rattle.ill_record.specs.Side.{acts}
use Rattle.ill_world.proofs.Parties.{one_done, one_refused}
use Rattle.ill_world.proofs.party.Party.act.Goals as goal

-- The party does or refuses the action as its side does.
pub returns : goal.returns
returns c =
    let held = c.self.inside.desk.live in
    let done = one_done held c.act.new.self.live (acts held.side c.args.action.now) in
    let refused = one_refused held (acts held.side c.args.action.now) in
    search (rules, done, refused)
