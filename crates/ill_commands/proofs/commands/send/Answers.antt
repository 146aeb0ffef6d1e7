-- Answers the contract of `send` (`src/commands.rt`).
use Rattle.std.proofs.Common.{inr}
use Rattle.ill_commands.proofs.commands.send.Goals as goal

-- Proves that the message is one of the desk that was loaded at the place.
pub returns : goal.returns
returns g c =
    inr (
      c.in_ok-desk.desk,
      c.in_ok-desk.ensures.starts,
      (c.run_desk_send-sent.result, c.run_desk_send-sent.ensures, c.all_succeed.ensures),
    )
