-- Answers the contract of `nothing_else_was_made_due` (`src/laws.rt`).
use Rattle.ill_news.proofs.DeedLemmas.{deeds_alone}
use Rattle.ill_news.proofs.laws.nothing_else_was_made_due.Goals as goal

-- Proves the clause `deeds`. Each deed that is printed at a side was made due.
pub returns-clause-deeds : goal.returns-clause-deeds
returns-clause-deeds c = deeds_alone
