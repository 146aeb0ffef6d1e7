-- Answers the contract of `sort` (`src/inbox.rt`).
use Rattle.ill_inbox.specs.Inbox.{after_all, arrived_of, sorting_of}
use Rattle.ill_inbox.proofs.InboxLemmas.{concluded_is}
use Rattle.ill_inbox.proofs.inbox.sort.Goals as goal

-- Proves the clause `sorted` of `sort`. `sort_message_files` sorts the message files, and `print_tally` appends their
-- counts.
pub returns-in-Ok-clause-sorted : goal.returns-in-Ok-clause-sorted
returns-in-Ok-clause-sorted g c =
    let live = c.sort_message_files.new.desk.live in
    concluded_is c.args.batch.now.waiting (sorting_of live c.in_ok-sorted.sorted)
    (after_all g.H.Held.effects (arrived_of c.args.batch.now) c.args.desk.now.live) c.deref.result.now c.of-tally.result
    c.print_tally.new.printed.items
    c.in_ok-sorted.ensures.sorted c.deref.ensures.value c.of-tally.ensures c.in-Ok.ensures
