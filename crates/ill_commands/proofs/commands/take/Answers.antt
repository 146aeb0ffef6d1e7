-- Answers the contract of `take` (`src/commands.rt`).
use Rattle.std.proofs.Common.{inr}
use Rattle.ill_commands.proofs.commands.take.Goals as goal

-- Proves that the messages are taken at the desk that was loaded at the place.
pub returns : goal.returns
returns g c =
    inr (
      c.in_ok-locked.locked.desk,
      c.take_at-taken.new.desk,
      c.in_ok-locked.ensures.starts,
      c.take_at-taken.ensures,
    )
