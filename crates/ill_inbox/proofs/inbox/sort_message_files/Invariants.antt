-- States the loop invariant of `sort_message_files` (`src/inbox.rt`).
use Rattle.std.proofs.Common.{◌≡◌, take}
use Rattle.std.specs.Prelude.{fold}
use Rattle.ill_inbox.specs.Inbox.{after_message_file, sorting_of, unsorted}
use Rattle.ill_inbox.proofs.inbox.sort_message_files.Given as goal

-- The message files so far are sorted, and the store is unchanged.
abbrev pub invariant-loop-message_file : goal.invariant-loop-message_file
invariant-loop-message_file g l = record {
  sorted : sorting_of l.desk.live l.sorted
      ≡ fold (after_message_file g.H.Held.effects) (unsorted l.batch.form l.initial.desk.live)
      (take l.message_file-index l.batch.message_files.now);
  store : l.desk.store ≡ l.initial.desk.store;
}
