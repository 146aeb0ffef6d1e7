-- Proves the contract of `each_history_is_a_run` (`src/laws.rt`). The lemma `history_is_run` gives the events.
use Rattle.ill_runs.proofs.HistoryLemmas.{history_is_run}
use Rattle.ill_runs.proofs.laws.each_history_is_a_run.Goals as goal

pub returns : goal.returns
returns c =
    history_is_run c.desks_stand.ensures.after c.sent_stays_sent_at_desks.ensures c.sides_read_again.ensures
    c.desks_stand.ensures.first
