-- Answers the contract of `run_desk_inbox` (`src/inbox.rt`).
use Rattle.ill_inbox.specs.Inbox.{arrived_of}
use Rattle.ill_inbox.proofs.InboxLemmas.{ended_if_ok}
use Rattle.ill_inbox.proofs.inbox.run_desk_inbox.Goals as goal

-- Proves the clause `ended` of `run_desk_inbox`. It follows from the clause `runs` of `run_inbox`.
pub returns-clause-ended : goal.returns-clause-ended
returns-clause-ended g c =
    ended_if_ok (λ verdicts. verdicts.items) (arrived_of c.args.batch.now) _ _ c.run_inbox.result
    c.run_inbox.ensures.runs
