-- Proves the contract of `a_note_is_asked_by_an_own_form` (`src/laws.rt`).
use Rattle.ill_browser.proofs.ChangeLemmas.{note_is_of_own_form}
use Rattle.ill_browser.proofs.laws.a_note_is_asked_by_an_own_form.Goals as goal

pub returns : goal.returns
returns c = note_is_of_own_form
