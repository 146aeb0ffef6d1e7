-- Answers the contract of `slip` (`src/commands.rt`).
use Rattle.std.proofs.Common.{inr}
use Rattle.ill_commands.proofs.commands.slip.Goals as goal

-- Proves that the slip is one of the desk that was loaded at the place.
pub returns : goal.returns
returns g c =
    inr (
      c.in_ok-desk.desk,
      c.in_ok-desk.ensures.starts,
      (c.run_desk_slip-written.result, c.run_desk_slip-written.ensures, c.all_succeed.ensures),
    )
