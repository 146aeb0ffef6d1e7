-- Proves the contract of `Side::become_idle` (`src/side.rt`).
use Rattle.std.proofs.Common.{◌≡◌, ap, subst, ◌∙◌}
use Rattle.ill_record.specs.Side.{GoesBack, back_to, idle_of, idle_side, standing_of, txn_of}
use Rattle.ill_record.proofs.Transitions.{becomes_idle}
use Rattle.ill_record.proofs.side.Side.become_idle.Goals as goal

-- The standing of an idle side of this role is the standing of the idle side of `self` (`is`). So the side that goes
-- back to this standing, without messages, is that idle side.
pub returns : goal.returns
returns c =
    let old = c.args.self.now in
    let is : c.idle-standing.result ≡ standing_of (idle_of old) =
    c.idle-standing.ensures (txn_of old) ∙ ap (λ role. standing_of (idle_side role (txn_of old))) c.role.ensures in
    becomes_idle old c.go_back.new.self c.go_back.result
    (subst (λ s. GoesBack (back_to s 0 old) c.go_back.result old c.go_back.new.self) is c.go_back.ensures)
