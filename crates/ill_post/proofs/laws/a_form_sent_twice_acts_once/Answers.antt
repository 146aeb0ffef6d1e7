-- Proves the contract of `a_form_sent_twice_acts_once` (`src/laws.rt`).
use Rattle.ill_post.proofs.TwiceLemmas.{sent_again_changes_nothing}
use Rattle.ill_post.proofs.laws.a_form_sent_twice_acts_once.Goals as goal

pub returns : goal.returns
returns c = sent_again_changes_nothing (record { changes = c.an_action_changes_the_stamp.ensures; grows = c.rows_grow.ensures })
