-- Answers the contract of `act_words` (`src/act_as.rt`).
use Rattle.std.proofs.Common.{ℕ, List, Bor, map, subst}
use Rattle.ill_saved.specs.ManySides.{many_sides}
use Rattle.ill_record.specs.declared.role.Role.{Role}
use Rattle.ill_desk.specs.Act.{FailsToName}
use Rattle.ill_desk.specs.Actions.{action_named}
use Rattle.ill_desk.proofs.ActLemmas.{not_named}
use Rattle.ill_desk.proofs.act_as.act_words.Goals as goal

-- Proves the clause `runs` of `act_words` if `named` fails: the words name no action, or memory runs out. Then
-- nothing is written, and nothing changes.
pub returns-in-Err-clause-runs : goal.returns-in-Err-clause-runs
returns-in-Err-clause-runs g c =
    let words = map (λ (word : Bor (List ℕ)). word.now) c.args.view.now.words.now in
    let none = subst (λ (role : Role). FailsToName (action_named role c.args.view.now.today words) c.in-Err.fault) c.role.ensures
    c.in-Err.ensures.fault in
    not_named many_sides c.args.view.now.txn.now _ _ c.in-Err.fault none
