-- Proves the contract of `news_is_json` (`src/laws.rt`). It is the lemma `news_are`.
use Rattle.ill_json.proofs.NewsLines.{news_are}
use Rattle.ill_json.proofs.laws.news_is_json.Goals as goal

pub returns : goal.returns
returns c = news_are
