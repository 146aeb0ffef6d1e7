-- Answers the contract of `what_a_date_made_due_is_news` (`src/laws.rt`).
use Rattle.ill_news.proofs.DeedLemmas.{deed_printed}
use Rattle.ill_news.proofs.laws.what_a_date_made_due_is_news.Goals as goal

-- Proves the law. A message that a date made due stands among those that are printed at its side.
pub returns : goal.returns
returns c = deed_printed
