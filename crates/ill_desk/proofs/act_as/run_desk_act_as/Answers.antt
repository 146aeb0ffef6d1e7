-- Answers the contract of `run_desk_act_as` (`src/act_as.rt`).
use Rattle.ill_desk.specs.ActAs.{asking_of}
use Rattle.ill_desk.specs.Performing.{command_state, view_of}
use Rattle.ill_desk.proofs.ActLemmas.{unseen}
use Rattle.ill_desk.proofs.act_as.run_desk_act_as.Goals as goal

-- Proves the clause `runs` of `run_desk_act_as` if no memory is left to show the loan. Then nothing changes.
pub returns-in-Err-clause-runs : goal.returns-in-Err-clause-runs
returns-in-Err-clause-runs g c =
    unseen (asking_of c.args.view.now)
    (command_state (view_of g.S.Store.state c.args.desk.now) (g.W.Write.contents c.args.writer.now))
