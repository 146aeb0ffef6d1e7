-- Answers the contract of `inbox` (`src/exchange.rt`).
use Rattle.std.proofs.Common.{inr}
use Rattle.ill_inbox.specs.Inbox.{answered_with}
use Rattle.ill_exchange.specs.Nights.{taken_of}
use Rattle.ill_exchange.proofs.exchange.inbox.Goals as goal

-- Proves that the message files are taken at the desk that was loaded at the place.
pub returns : goal.returns
returns g c = inr (
  c.in_ok-locked.locked.desk,
  c.take_message_files-taken.new.desk,
  c.in_ok-locked.ensures.starts,
  answered_with taken_of c.take_message_files-taken.result,
  c.take_message_files-taken.ensures,
  c.end.ensures,
)
