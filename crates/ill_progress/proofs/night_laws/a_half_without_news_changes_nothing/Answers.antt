-- Proves the contract of `a_half_without_news_changes_nothing` (`src/night_laws.rt`).
use Rattle.ill_progress.proofs.WorkedNights.{half_without_news}
use Rattle.ill_progress.proofs.night_laws.a_half_without_news_changes_nothing.Goals as goal

-- The responder takes messages that change nothing.
pub returns : goal.returns
returns c = λ txn w stands heard.
    half_without_news txn (c.night_facts.ensures txn) w stands heard
