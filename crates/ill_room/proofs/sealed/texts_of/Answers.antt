-- Answers the contract of `texts_of` (`src/sealed.rt`).
use Rattle.std.proofs.Common.{◌≡◌, take, map, IfOk, ap, sym, subst, ◌∙◌}
use Rattle.std.specs.List.{fold}
use Rattle.std.proofs.lemmas.List.{take_all}
use Rattle.std.proofs.lemmas.List.Folds.{fold-map}
use Rattle.ill_room.specs.Sealed.{Filling, all_texts, filling_of, no_texts, with_message}
use Rattle.ill_room.proofs.sealed.texts_of.Goals as goal

-- After the loop, the messages so far are all messages.
pub returns : goal.returns
returns c =
    let messages = c.args.messages.now in
    let all : take c.loop-message.message-index messages ≡ messages =
    take_all c.loop-message.message-index messages c.loop-message-test.false in
    let filled : filling_of c.loop-message.texts ≡ fold with_message no_texts (map (λ message. message.items) messages) =
    c.loop-message.invariant.there
    ∙ ap (λ messages. fold (λ texts message. with_message texts message.items) no_texts messages) all
    ∙ sym (fold-map with_message (λ message. message.items) no_texts messages) in
    subst (λ (texts : Filling). IfOk c.all.result (λ all. map (λ text. text.items) all.items ≡ all_texts texts)) filled
    c.all.ensures
