-- Answers the contract of `take_letter_at` (`src/letters.rt`).
use Rattle.std.proofs.Common.{refl, ap, ◌∙◌}
use Rattle.ill_desk.specs.Performing.{view_of}
use Rattle.ill_key.specs.Letter.{other_sender}
use Rattle.ill_commands.specs.AtFile.{TakesHere}
use Rattle.ill_commands.specs.Streams.{streams_of}
use Rattle.ill_commands.proofs.LetterLemmas.{left_sealed, opened, stays, took}
use Rattle.ill_commands.proofs.letters.take_letter_at.Goals as goal

-- Proves the clause `taken` if the letter opens. Its messages are taken.
pub returns-in-Ok-clause-taken : goal.returns-in-Ok-clause-taken
returns-in-Ok-clause-taken g c =
    let old = streams_of (g.R.Read.remaining c.args.reader.now) (g.W.Write.contents c.args.machine.now.writer) in
    let new = streams_of (g.R.Read.remaining c.open_letter.new.reader) (g.W.Write.contents c.take_at.new.machine.writer) in
    took c.args.letter.now.key.now (other_sender c.args.desk.now.live.role) c.other_sender-sender.result
    (TakesHere c.args.letter.now.view.form (view_of g.S.Store.state c.args.desk.now)
    (view_of g.S.Store.state c.take_at.new.desk)) old new c.in-Ok.text.items c.as_slice.result.now _ c.take_at.result
    (c.other_sender-sender.ensures ∙ ap other_sender c.role.ensures) c.in-Ok.ensures.opens c.as_slice.ensures.value
    c.take_at.ensures

-- Proves the clause `unchanged` if the letter opens. Then the desk may have changed.
pub returns-in-Ok-clause-unchanged : goal.returns-in-Ok-clause-unchanged
returns-in-Ok-clause-unchanged g c =
    opened c.args.letter.now.key.now (other_sender c.args.desk.now.live.role) c.other_sender-sender.result _ _ _
    c.in-Ok.text.items (c.other_sender-sender.ensures ∙ ap other_sender c.role.ensures) c.in-Ok.ensures.opens

-- Proves the clause `taken` if the letter does not open. Nothing is taken.
pub returns-in-Err-clause-taken : goal.returns-in-Err-clause-taken
returns-in-Err-clause-taken g c =
    let written = g.W.Write.contents c.args.machine.now.writer in
    left_sealed c.args.letter.now.key.now (other_sender c.args.desk.now.live.role) c.other_sender-sender.result
    (TakesHere c.args.letter.now.view.form (view_of g.S.Store.state c.args.desk.now)
    (view_of g.S.Store.state c.args.desk.now)) (streams_of (g.R.Read.remaining c.args.reader.now) written)
    (streams_of (g.R.Read.remaining c.open_letter.new.reader) written) c.in-Err.fault
    (c.other_sender-sender.ensures ∙ ap other_sender c.role.ensures) c.in-Err.ensures.fault refl

-- Proves the clause `unchanged` if the letter does not open. The desk is as it was.
pub returns-in-Err-clause-unchanged : goal.returns-in-Err-clause-unchanged
returns-in-Err-clause-unchanged g c =
    stays c.args.letter.now.key.now (other_sender c.args.desk.now.live.role) c.other_sender-sender.result _ _ _
    c.in-Err.fault (c.other_sender-sender.ensures ∙ ap other_sender c.role.ensures) c.in-Err.ensures.fault refl
