-- Proves the contract of `an_action_changes_the_stamp` (`src/laws.rt`).
use Rattle.ill_post.proofs.StampLemmas.{action_changes_stamp}
use Rattle.ill_post.proofs.laws.an_action_changes_the_stamp.Goals as goal

pub returns : goal.returns
returns c = action_changes_stamp (record {
  wish_issues = c.requester_issues.ensures.acts;
  wish_few = c.requester_issues.ensures.few;
  deed_issues = c.responder_issues.ensures.acts;
  deed_few = c.responder_issues.ensures.few;
})
