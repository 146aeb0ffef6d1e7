-- Answers the contract of `outbox` (`src/exchange.rt`).
use Rattle.std.proofs.Common.{inr}
use Rattle.ill_exchange.proofs.exchange.outbox.Goals as goal

-- Proves that the messages leave from the desk that was loaded at the place.
pub returns : goal.returns
returns g c = inr (
  c.in_ok-locked.locked.desk,
  c.in_ok-locked.ensures.starts,
  (c.send_from-sent.result, c.send_from-sent.ensures, c.all_succeed.ensures),
)
