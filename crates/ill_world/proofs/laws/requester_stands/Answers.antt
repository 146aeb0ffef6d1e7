-- Proves the clauses `acts` and `takes` of `requester_stands` (`src/laws.rt`). Each part of `RequesterInvariant` is
-- kept by a law of the tables in `ill_core`.
use Rattle.std.proofs.Common.{◌≤◌, ◌∙◌, inl, inr, length, subst, sym}
use Rattle.ill_world.proofs.laws.requester_stands.Goals as goal

-- A wish adds no claim and no notice, so that the old messages are evidence still.
pub returns-clause-acts : goal.returns-clause-acts
returns-clause-acts c =
    λ txn x new wish sent done stands. record {
      same_txn = c.requester_keeps_txn.ensures.acts x new wish done ∙ stands.same_txn;
      rules = (c.requester_rules.ensures new).0
          (c.requester_keeps_rules.ensures.acts x new wish done ((c.requester_rules.ensures x).1 stands.rules));
      replies = c.requester_answers_once.ensures.acts x new wish done stands.rules.parts.held stands.replies;
      knows = λ fact shows. stands.knows fact (c.requester_shows.ensures.acts x new wish fact done shows);
      notices = λ notice reflects. stands.notices notice
          (c.requester_reflects.ensures.acts x new wish notice done ((c.requester_rules.ensures x).1 stands.rules) reflects);
      few = c.requester_issues.ensures.few x new wish done;
    }

-- A new claim has `a` as its evidence, and `a` attests a new notice.
pub returns-clause-takes : goal.returns-clause-takes
returns-clause-takes c =
    λ txn x a sent was stands. record {
      same_txn = c.requester_keeps_txn.ensures.takes x a ∙ stands.same_txn;
      rules = (c.requester_rules.ensures _).0
          (c.requester_keeps_rules.ensures.takes x a ((c.requester_rules.ensures x).1 stands.rules));
      replies = c.requester_answers_once.ensures.takes x a stands.replies;
      knows = λ fact shows. elim (c.requester_shows.ensures.takes x a fact shows)
          [ inl before ↦ stands.knows fact before | inr tells ↦ (a, was, tells) ];
      notices =
          λ notice reflects. elim (c.requester_reflects.ensures.takes x a notice ((c.requester_rules.ensures x).1 stands.rules)
          reflects) [
            | inl before ↦ stands.notices notice before
            | inr attests ↦ (a, was, attests)
          ];
      few = subst (λ l. length l ≤ 255) (sym (c.requester_issues.ensures.takes x a)) stands.few;
    }
