-- Proves that `body_of` (`src/requester/actions.rt`) finds a held number. It holds because a Reply has a transition
-- only in CONDITIONAL.
use Rattle.std.proofs.Common.{rules}
use Rattle.ill_core.specs.Requester.{RequesterRecord, requester_of}
use Rattle.ill_core.proofs.Rules.{requester_rules}
use Rattle.ill_core.proofs.requester.actions.body_of.Goals as goal

pub known_value-requires : goal.known_value-requires
known_value-requires c =
    let r = c.requester.inside in
    let x : RequesterRecord = requester_of r.issued.txn r.standing.state r.standing.held r.standing.checked_in r.standing.due
    r.issued.apdus in
    search (rules, requester_rules x c.requester.invariant)
