-- Answers the contract of `put_letters` (`src/sealed.rt`).
use Rattle.std.proofs.Common.{◌≡◌, take, ap, sym, ◌∙◌}
use Rattle.std.specs.List.{fold}
use Rattle.std.proofs.lemmas.List.{take-map, take_all}
use Rattle.ill_night.specs.Outbox.{after_all, after_one}
use Rattle.ill_room.specs.Sealed.{message_file_of}
use Rattle.ill_room.proofs.SealedLemmas.{each_letter_put}
use Rattle.ill_room.proofs.sealed.put_letters.Goals as goal

-- A letter could not be put. The outlet then has the letters before it, whose number is `size`.
pub returns-in-Err : goal.returns-in-Err
returns-in-Err g c =
    let after = g.O.Outgoing.after in
    let before = g.O.Outgoing.message_files c.args.out.now in
    let size = c.loop-letter.letter-index in
    let letters = c.args.letters.now in
    let there = each_letter_put after (take size letters) before in
    let first = ap (λ message_files. after_all after message_files before) (take-map message_file_of size letters) in
    (c.in-Err.ensures.0, (size, c.in-Err.ensures.1 ∙ c.loop-letter.invariant.there ∙ sym there ∙ sym first))

-- No letter failed. After the loop, the letters so far are all letters.
pub returns : goal.returns
returns g c =
    let after = g.O.Outgoing.after in
    let before = g.O.Outgoing.message_files c.args.out.now in
    let letters = c.args.letters.now in
    let all : take c.loop-letter.letter-index letters ≡ letters =
    take_all c.loop-letter.letter-index letters c.loop-letter-test.false in
    c.loop-letter.invariant.there
    ∙ ap (λ letters. fold (λ there letter. after_one after there (message_file_of letter)) before letters) all
    ∙ sym (each_letter_put after letters before)
