-- Proves the contract of `a_trial_shows_what_comes` (`src/laws.rt`).
use Rattle.ill_desk.proofs.TrialLemmas.{shown_once_saved}
use Rattle.ill_desk.proofs.laws.a_trial_shows_what_comes.Goals as goal

pub returns : goal.returns
returns c = shown_once_saved
