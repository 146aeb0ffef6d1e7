-- Proves the contract of `an_act_is_asked_by_an_own_form` (`src/laws.rt`).
use Rattle.ill_browser.proofs.ChangeLemmas.{act_is_of_own_form}
use Rattle.ill_browser.proofs.laws.an_act_is_asked_by_an_own_form.Goals as goal

pub returns : goal.returns
returns c = act_is_of_own_form
