-- States the loop invariant of `put_letters` (`src/sealed.rt`).
use Rattle.std.proofs.Common.{◌≡◌, take}
use Rattle.std.specs.List.{fold}
use Rattle.ill_night.specs.Outbox.{after_one}
use Rattle.ill_room.specs.Sealed.{message_file_of}
use Rattle.ill_room.proofs.sealed.put_letters.Given as goal

-- The outlet has the letters so far.
abbrev pub invariant-loop-letter : goal.invariant-loop-letter
invariant-loop-letter g l = record {
  there : g.O.Outgoing.message_files l.out
      ≡ fold (λ there letter. after_one g.O.Outgoing.after there (message_file_of letter))
      (g.O.Outgoing.message_files l.initial.out)
      (take l.letter-index l.letters);
}
