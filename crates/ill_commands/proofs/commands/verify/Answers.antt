-- Answers the contract of `verify` (`src/commands.rt`).
use Rattle.std.proofs.Common.{inr}
use Rattle.ill_commands.proofs.commands.verify.Goals as goal

-- Proves that the record that is verified is that of the store at the place.
pub returns : goal.returns
returns g c =
    inr (
      c.in_ok-store.store,
      c.in_ok-store.ensures,
      (c.run_desk_verify-verified.result, c.run_desk_verify-verified.ensures.verifies, c.all_succeed.ensures),
    )
