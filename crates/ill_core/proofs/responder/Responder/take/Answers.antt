-- Proves the contract of `Responder::take` (`src/responder.rt`). It holds because an APDU that `admit` lets pass is
-- answered as `take_message` says.
use Rattle.std.proofs.Common.{rules}
use Rattle.ill_core.proofs.ResponderKept.{takes_admitted, admits_none}
use Rattle.ill_core.proofs.responder.Responder.take.Goals as goal

pub returns : goal.returns
returns c = takes_admitted c.args.self.now _ c.args.apdu.now c.take_message.result (search (rules, admits_none))
    c.take_message.ensures
