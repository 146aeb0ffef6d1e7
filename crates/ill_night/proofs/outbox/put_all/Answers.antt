-- Answers the contract of `put_all` (`src/outbox.rt`).
use Rattle.std.proofs.Common.{◌≡◌, map, take, ap, sym, ◌∙◌}
use Rattle.ill_night.specs.Outbox.{after_all, after_one, issue_of, letter_of}
use Rattle.std.specs.List.{fold}
use Rattle.std.proofs.lemmas.List.{length-map, take_all}
use Rattle.ill_night.proofs.OutboxLemmas.{each_put, first_message_files}
use Rattle.ill_night.proofs.outbox.put_all.Goals as goal

-- Proves the contract of `put_all` if putting a message file fails. The outlet then has the message files before the
-- failed one. By `there` and `first` these are the first `size` message files.
pub returns-in-Err : goal.returns-in-Err
returns-in-Err g c =
    let after = g.O.Outgoing.after in
    let before = g.O.Outgoing.message_files c.args.out.now in
    let size = c.loop-message.message-index in
    let leaving = c.args.leaving.now in
    let there = each_put after (take size leaving) before in
    let first = ap (λ letters. after_all after letters before) (first_message_files size leaving) in
    (c.in-Err.ensures.0, (size, c.in-Err.ensures.1 ∙ c.loop-message.invariant.there ∙ sym there ∙ sym first))

-- Proves the contract of `put_all` if no message file fails. After the loop, the messages so far are all messages.
pub returns : goal.returns
returns g c =
    let leaving = c.args.leaving.now in
    let before = g.O.Outgoing.message_files c.args.out.now in
    let all : take c.loop-message.message-index leaving ≡ leaving =
    take_all c.loop-message.message-index leaving c.loop-message-test.false in (
      sym (length-map (map issue_of leaving) letter_of ∙ length-map leaving issue_of),
      c.loop-message.invariant.there ∙ ap
          (λ messages. fold (λ there message. after_one g.O.Outgoing.after there (letter_of (issue_of message))) before messages)
          all ∙ sym (each_put g.O.Outgoing.after leaving before),
    )
