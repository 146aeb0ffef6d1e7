-- Answers the contract of `desks_open_letters_of_the_other_role` (`src/laws.rt`).
use Rattle.ill_key.proofs.LetterLemmas.{of_other, of_own}
use Rattle.ill_key.proofs.laws.desks_open_letters_of_the_other_role.Goals as goal

-- Proves the clause `other`: a desk opens the letters of the other role.
pub returns-clause-other : goal.returns-clause-other
returns-clause-other c = of_other c.what_opens_was_sealed.ensures.opens

-- Proves the clause `own`: no key opens a letter of the desk's own role.
pub returns-clause-own : goal.returns-clause-own
returns-clause-own c =
    of_own c.no_letter_is_turned_round.ensures.responders c.no_letter_is_turned_round.ensures.requesters
