-- Proves the contract of `news_are_messages` (`src/laws.rt`).
use Rattle.ill_json.proofs.NewsLines.{printed_each}
use Rattle.ill_json.proofs.laws.news_are_messages.Goals as goal

-- What is printed came, or was issued by a side.
pub returns : goal.returns
returns c = printed_each
