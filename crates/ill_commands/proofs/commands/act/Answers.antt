-- Answers the contract of `act` (`src/commands.rt`).
use Rattle.std.proofs.Common.{inr}
use Rattle.ill_commands.proofs.commands.act.Goals as goal

-- Proves that the action is performed at the desk that was loaded at the place.
pub returns : goal.returns
returns g c =
    inr (c.in_ok-locked.locked.desk, c.act_at.ensures.0, c.in_ok-locked.ensures.starts, c.act_at.ensures.1)
