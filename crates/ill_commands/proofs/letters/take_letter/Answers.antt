-- Answers the contract of `take_letter` (`src/letters.rt`).
use Rattle.std.proofs.Common.{inr}
use Rattle.ill_commands.specs.Streams.{streams_of}
use Rattle.ill_place.specs.Place.{place_of}
use Rattle.ill_commands.proofs.LetterLemmas.{taken_at}
use Rattle.ill_commands.proofs.letters.take_letter.Goals as goal

-- Proves that a letter is taken with the key of the file, at the desk of the place.
pub returns : goal.returns
returns g c =
    let place = place_of g.D.DeskStore.Store.state c.args.place.now.path.now in
    let old = streams_of (g.R.Read.remaining c.args.reader.now) (g.W.Write.contents c.args.machine.now.writer) in
    let new = streams_of (g.R.Read.remaining c.take_letter_at-taken.new.reader)
    (g.W.Write.contents c.take_letter_at-taken.new.machine.writer) in
    let taken = taken_at place c.args.view.now.form c.in_ok-locked.locked.desk c.take_letter_at-taken.new.desk _ _ old
    c.take_letter_at-taken.result new c.in_ok-locked.ensures.starts c.take_letter_at-taken.ensures.taken in
    inr (_, _, (taken.0, taken.1, taken.2))
