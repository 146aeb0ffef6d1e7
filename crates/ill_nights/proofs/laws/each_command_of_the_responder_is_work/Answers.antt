-- Proves the contract of `each_command_of_the_responder_is_work` (`src/laws.rt`).
use Rattle.ill_nights.proofs.Work.{no_work, further_work}
use Rattle.ill_nights.proofs.laws.each_command_of_the_responder_is_work.Goals as goal

pub returns-clause-none : goal.returns-clause-none
returns-clause-none c = no_work

pub returns-clause-further : goal.returns-clause-further
returns-clause-further c = further_work
