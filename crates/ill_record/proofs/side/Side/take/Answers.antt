-- Proves the contract of `Side::take` (`src/side.rt`).
-- A requester needs no memory for a message, so its answer is as defined.
use Rattle.std.proofs.Common.{sym, subst}
use Rattle.ill_record.specs.declared.side.Side.TheVariants as sides
use Rattle.ill_record.specs.Side.{Takes}
use Rattle.ill_record.proofs.Roles.{requester_takes}
use Rattle.ill_record.proofs.side.Side.take.Goals as goal

-- A requester's answer is the answer of its side.
pub returns-in-Requester : goal.returns-in-Requester
returns-in-Requester c =
    let x = c.in-Requester.requester in
    let a = c.args.apdu.now in
    subst (λ old. Takes old a c.take.result (sides.Requester c.take.new.self)) (sym c.in-Requester.is)
    (requester_takes x c.take.new.self a c.take.result c.take.ensures.memory c.take.ensures.takes)
