-- Proves the contract of `each_command_is_events` (`src/laws.rt`). The lemma `command_leads` gives the events.
use Rattle.ill_runs.proofs.LibraryLemmas.{command_leads}
use Rattle.ill_runs.proofs.laws.each_command_is_events.Goals as goal

pub returns : goal.returns
returns c = command_leads c.desks_stand.ensures.after c.sent_stays_sent_at_desks.ensures
