-- Proves the contract of `each_act_towards_the_end_counts` (`src/end_laws.rt`). The lemma `act_day` says what a day
-- does.
use Rattle.ill_progress.proofs.EndsNights.{RowsKeep}
use Rattle.ill_progress.proofs.EndsDays.{OneEach}
use Rattle.ill_progress.proofs.EndsWorlds.{Nights, act_day}
use Rattle.ill_progress.proofs.end_laws.each_act_towards_the_end_counts.Goals as goal

-- The laws fill three records: an action issues one message (`one`), rows keep parts (`keep`), and nights settle
-- (`nights`).
pub returns : goal.returns
returns c =
    λ txn w act stands step can ends done.
    let one : OneEach = record { wish = c.numbers_are_few.ensures.asks; deed = c.numbers_are_few.ensures.lends } in
    let keep : RowsKeep = record {
      requester_issues = c.requester_issues.ensures.takes;
      requester_begun = c.requester_has_begun.ensures.takes;
      requester_final = c.requester_is_final.ensures.takes;
      responder_issues = c.responder_issues.ensures.takes;
      responder_ends = c.responder_ends.ensures.takes;
      responder_final = c.responder_is_final.ensures.takes;
      responder_later = c.responder_stays_later.ensures.takes;
    } in
    let nights : Nights txn = record {
      after = c.world_stands.ensures.after txn;
      settles = c.one_night_is_enough.ensures.stands txn;
      rounds = c.nights_are_rounds.ensures.open txn;
      saves = c.nights_are_rounds.ensures.over txn;
    } in
    let day = act_day txn one keep nights w act stands step can ends done in
    (day.0, day.1.fewer)
