-- Answers the contract of `run_sealed_outbox` (`src/sealed.rt`).
use Rattle.std.proofs.Common.{map, ap, ◌∙◌}
use Rattle.ill_room.specs.Sealed.{message_file_of, sealed_message_file, sealing_of, texts_of}
use Rattle.ill_room.proofs.SealedLemmas.{sealed_failed, sealed_put}
use Rattle.ill_room.proofs.sealed.run_sealed_outbox.Goals as goal

-- The messages were gathered and sealed, and all letters were put.
pub returns-in-Ok-put_letters : goal.returns-in-Ok-put_letters
returns-in-Ok-put_letters g c =
    sealed_put g.O.Outgoing.after (sealing_of c.args.seal) c.args.asking.now c.args.desk.now.live.held
    (map (λ message. message.items) c.new.result.items)
    (map (λ message. message.items) c.run_desk_outbox.new.out.messages.items) (map message_file_of c.deref-2.result.now)
    c.in-Ok.count
    (g.O.Outgoing.message_files c.args.out.now) (g.O.Outgoing.message_files c.put_letters.new.out) c.in-Ok-put_letters.field-0
    (ap (λ messages. map (λ message. message.items) messages) c.new.ensures.items) c.in-Ok.ensures
    (ap (λ letters. map message_file_of letters) c.deref-2.ensures.value ∙ c.in-Ok-letters_of.ensures
    ∙ ap (λ messages. map (sealed_message_file (sealing_of c.args.seal)) (texts_of (map (λ message. message.items) messages)))
    c.deref.ensures.value)
    c.in-Ok-put_letters.ensures

-- A letter could not be put. The outlet then has the letters before it.
pub returns : goal.returns
returns g c =
    sealed_failed g.O.Outgoing.after (sealing_of c.args.seal) c.args.asking.now c.args.desk.now.live.held
    (map (λ message. message.items) c.new.result.items)
    (map (λ message. message.items) c.run_desk_outbox.new.out.messages.items) (map message_file_of c.deref-2.result.now)
    c.in-Ok.count
    (g.O.Outgoing.message_files c.args.out.now) (g.O.Outgoing.message_files c.put_letters.new.out) c.in-Err-put_letters.fault
    (ap (λ messages. map (λ message. message.items) messages) c.new.ensures.items) c.in-Ok.ensures
    (ap (λ letters. map message_file_of letters) c.deref-2.ensures.value ∙ c.in-Ok-letters_of.ensures
    ∙ ap (λ messages. map (sealed_message_file (sealing_of c.args.seal)) (texts_of (map (λ message. message.items) messages)))
    c.deref.ensures.value)
    c.in-Err-put_letters.ensures
