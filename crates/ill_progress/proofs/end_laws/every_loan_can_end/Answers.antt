-- Proves the clauses `stands` and `run` of `every_loan_can_end` (`src/end_laws.rt`). The lemma `can_end` finds an act
-- for each day.
use Rattle.std.proofs.Common.{arith}
use Rattle.ill_world.specs.World.{first_world, run_of}
use Rattle.ill_world.specs.Night.{night_of}
use Rattle.ill_world.proofs.Runs.{run_stands}
use Rattle.ill_progress.specs.Ends.{acts_left}
use Rattle.ill_progress.proofs.EndsNights.{RowsKeep}
use Rattle.ill_progress.proofs.EndsDays.{OneEach}
use Rattle.ill_progress.proofs.EndsWorlds.{Nights, can_end}
use Rattle.ill_progress.proofs.end_laws.every_loan_can_end.Goals as goal

-- The laws fill the records `one`, `keep` and `nights`. With them `can_end` counts the acts that are left.
pub returns-clause-stands : goal.returns-clause-stands
returns-clause-stands c =
    λ txn w stands settled asking lending.
    let one : OneEach = record { wish = c.numbers_are_few.ensures.asks; deed = c.numbers_are_few.ensures.lends } in
    let keep : RowsKeep = record {
      requester_issues = c.requester_issues.ensures.takes;
      requester_begun = c.requester_has_begun.ensures.takes;
      requester_final = c.requester_is_final.ensures.takes;
      responder_issues = c.responder_issues.ensures.takes;
      responder_ends = c.responder_ends.ensures.takes;
      responder_final = c.responder_is_final.ensures.takes;
      responder_later = c.responder_stays_later.ensures.takes;
    } in
    let nights : Nights txn = record {
      after = c.world_stands.ensures.after txn;
      settles = c.one_night_is_enough.ensures.stands txn;
      rounds = c.nights_are_rounds.ensures.open txn;
      saves = c.nights_are_rounds.ensures.over txn;
    } in
    can_end txn one keep nights c.who_has_the_turn_can_act_towards_the_end.ensures.converged
    (c.requester_is_over_last.ensures txn)
    (acts_left w) w stands settled (omega arith) asking lending

-- After any events and a night the invariant holds, and both sides are converged or at rest. So the clause `stands`
-- holds there.
pub returns-clause-run : goal.returns-clause-run
returns-clause-run c =
    λ txn events can asking lending.
    let before = run_of (first_world txn) events in
    let stands = run_stands txn (c.world_stands.ensures.after txn) (first_world txn) events (c.world_stands.ensures.first txn) in
    returns-clause-stands c txn (run_of before (night_of before))
    (run_stands txn (c.world_stands.ensures.after txn) before (night_of before) stands)
    (c.one_night_is_enough.ensures.stands txn before stands can) asking lending
