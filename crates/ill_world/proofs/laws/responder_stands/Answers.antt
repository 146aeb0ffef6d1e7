-- Proves the clauses `acts` and `takes` of `responder_stands` (`src/laws.rt`). Each part of `ResponderInvariant` is
-- kept by a law of the tables in `ill_core`.
use Rattle.std.proofs.Common.{◌∙◌, inl, inr}
use Rattle.ill_core.specs.ResponderEvidence.{MayCancel, MayRenew}
use Rattle.ill_world.proofs.Standings.{cancel_is_there, question_is_there}
use Rattle.ill_world.proofs.laws.responder_stands.Goals as goal

-- A deed adds no claim and no question, so that the old messages are evidence still.
pub returns-clause-acts : goal.returns-clause-acts
returns-clause-acts c =
    λ txn y new deed today sent done stands. record {
      same_txn = c.responder_keeps_txn.ensures.acts y new deed today done ∙ stands.same_txn;
      rules = (c.responder_rules.ensures new).0
          (c.responder_keeps_rules.ensures.acts y new deed today done ((c.responder_rules.ensures y).1 stands.rules));
      ends = c.responder_ends_once.ensures.acts y new deed today done stands.ends;
      cancels = c.responder_answers_once.ensures.acts MayCancel y new deed today done
          (cancel_is_there y.state _ stands.rules.parts.cancel) stands.cancels;
      renewals = c.responder_answers_once.ensures.acts MayRenew y new deed today done stands.rules.parts.renew stands.renewals;
      knows = λ fact shows. stands.knows fact
          (c.responder_shows.ensures.acts y new deed today fact done (cancel_is_there y.state _ stands.rules.parts.cancel) shows);
      asked = λ question number was. stands.asked question number
          (c.responder_was_asked.ensures.acts question y new deed today number done (question_is_there y stands.rules question)
          was);
      answered = λ question. c.responder_has_answered_last.ensures.acts question y new deed today done
          (question_is_there y stands.rules question) (stands.answered question);
      recall = (c.responder_recalls.ensures.acts y new deed today done stands.recall stands.ships_first).0;
      ships_first = (c.responder_recalls.ensures.acts y new deed today done stands.recall stands.ships_first).1;
      grants = c.responder_grants_rise.ensures.acts y new deed today done ((c.responder_rules.ensures y).1 stands.rules)
          stands.renewals stands.grants;
      overdue = (c.responder_is_overdue.ensures.acts y new deed today done ((c.responder_rules.ensures y).1 stands.rules)
          stands.overdue stands.grants_first).0;
      grants_first = (c.responder_is_overdue.ensures.acts y new deed today done ((c.responder_rules.ensures y).1 stands.rules)
          stands.overdue stands.grants_first).1;
      few = c.responder_issues.ensures.few y new deed today done;
    }

-- A new claim has `a` as its evidence, and a new question is `a`.
pub returns-clause-takes : goal.returns-clause-takes
returns-clause-takes c =
    λ txn y a sent was stands. record {
      same_txn = c.responder_keeps_txn.ensures.takes y a ∙ stands.same_txn;
      rules = (c.responder_rules.ensures _).0
          (c.responder_keeps_rules.ensures.takes y a ((c.responder_rules.ensures y).1 stands.rules));
      ends = c.responder_ends_once.ensures.takes y a stands.ends;
      cancels = c.responder_answers_once.ensures.takes MayCancel y a stands.cancels;
      renewals = c.responder_answers_once.ensures.takes MayRenew y a stands.renewals;
      knows = λ fact shows. elim (c.responder_shows.ensures.takes y a fact shows)
          [ inl before ↦ stands.knows fact before | inr tells ↦ (a, was, tells) ];
      asked =
          λ question number asked. elim (c.responder_was_asked.ensures.takes question y a number asked) [
            | inl before ↦ stands.asked question number before
            | inr now ↦ (a, was, now.0, now.1)
          ];
      answered = λ question. c.responder_has_answered_last.ensures.takes question y a (stands.answered question);
      recall = (c.responder_recalls.ensures.takes y a stands.recall stands.ships_first).0;
      ships_first = (c.responder_recalls.ensures.takes y a stands.recall stands.ships_first).1;
      grants = c.responder_grants_rise.ensures.takes y a stands.grants;
      overdue = (c.responder_is_overdue.ensures.takes y a stands.overdue stands.grants_first).0;
      grants_first = (c.responder_is_overdue.ensures.takes y a stands.overdue stands.grants_first).1;
      few = c.responder_issues.ensures.few_taken y a stands.few;
    }
