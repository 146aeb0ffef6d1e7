-- States the loop invariant of `texts_of` (`src/sealed.rt`).
use Rattle.std.proofs.Common.{◌≡◌, take}
use Rattle.std.specs.List.{fold}
use Rattle.ill_room.specs.Sealed.{filling_of, no_texts, with_message}
use Rattle.ill_room.proofs.sealed.texts_of.Given as goal

-- `texts` have the messages so far.
abbrev pub invariant-loop-message : goal.invariant-loop-message
invariant-loop-message l = record {
  there : filling_of l.texts
      ≡ fold (λ texts message. with_message texts message.items) no_texts (take l.message-index l.messages);
}
