-- States the loop invariant of `put_all` (`src/outbox.rt`).
use Rattle.std.proofs.Common.{◌≡◌, take}
use Rattle.std.specs.List.{fold}
use Rattle.ill_night.specs.Outbox.{after_one, issue_of, letter_of}
use Rattle.ill_night.proofs.outbox.put_all.Given as goal

-- The outlet has the message files of the messages so far.
abbrev pub invariant-loop-message : goal.invariant-loop-message
invariant-loop-message g l = record {
  there : g.O.Outgoing.message_files l.out
      ≡ fold (λ there message. after_one g.O.Outgoing.after there (letter_of (issue_of message)))
      (g.O.Outgoing.message_files l.initial.out) (take l.message-index l.leaving);
}
