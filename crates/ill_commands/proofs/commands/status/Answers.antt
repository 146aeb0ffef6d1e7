-- Answers the contract of `status` (`src/commands.rt`).
use Rattle.std.proofs.Common.{inr}
use Rattle.ill_commands.proofs.commands.status.Goals as goal

-- Proves that the sides that are shown are those of the desk that was loaded at the place.
pub returns : goal.returns
returns g c =
    inr (
      c.in_ok-desk.desk,
      c.in_ok-desk.ensures.starts,
      (c.run_desk_status_as-shown.result, c.run_desk_status_as-shown.ensures, c.all_succeed.ensures),
    )
