-- Answers the contract of `run_act` (`src/act.rt`).
use Rattle.std.proofs.Common.{ℕ, List, Bor, map, subst}
use Rattle.ill_saved.specs.OneSide.{one_side}
use Rattle.ill_record.specs.declared.role.Role.{Role}
use Rattle.ill_desk.specs.Act.{FailsToName}
use Rattle.ill_desk.specs.Actions.{action_named}
use Rattle.ill_desk.proofs.ActLemmas.{not_named}
use Rattle.ill_desk.proofs.act.run_act.Goals as goal

-- Proves the clause `runs` of `run_act` if `named` fails: the words name no action, or memory runs out. Then nothing
-- is written, and nothing changes.
pub returns-in-Err-clause-runs : goal.returns-in-Err-clause-runs
returns-in-Err-clause-runs g c =
    let words = map (λ (word : Bor (List ℕ)). word.now) c.args.words.now in
    let none = subst (λ (role : Role). FailsToName (action_named role c.args.today words) c.in-Err.fault) c.role.ensures
    c.in-Err.ensures.fault in
    not_named one_side tt _ _ c.in-Err.fault none
