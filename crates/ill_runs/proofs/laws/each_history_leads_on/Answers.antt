-- Proves the contract of `each_history_leads_on` (`src/laws.rt`). The lemma `history_leads` gives the events.
use Rattle.ill_runs.proofs.HistoryLemmas.{history_leads}
use Rattle.ill_runs.proofs.laws.each_history_leads_on.Goals as goal

pub returns : goal.returns
returns c = history_leads c.desks_stand.ensures.after c.sent_stays_sent_at_desks.ensures
