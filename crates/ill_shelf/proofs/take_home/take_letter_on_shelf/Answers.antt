-- Answers the contract of `take_letter_on_shelf` (`src/take_home.rt`).
use Rattle.std.proofs.Common.{inr, refl}
use Rattle.ill_commands.specs.Streams.{streams_of}
use Rattle.ill_commands.proofs.LetterLemmas.{left_sealed, took}
use Rattle.ill_place.specs.Place.{shelf_of}
use Rattle.ill_shelf.specs.Shelf.{TakesAtShelf}
use Rattle.ill_shelf.proofs.take_home.take_letter_on_shelf.Goals as goal

-- Proves that the messages are taken, if the letter opens.
pub returns-in-Ok : goal.returns-in-Ok
returns-in-Ok g c =
    let takes = TakesAtShelf (shelf_of g.D.DeskStore.Store.state c.args.place.now.folder.now) c.args.view.now.form in
    let old = streams_of (g.R.Read.remaining c.args.reader.now) (g.W.Write.contents c.args.machine.now.writer) in
    let new = streams_of (g.R.Read.remaining c.open_letter.new.reader) (g.W.Write.contents c.take_on_shelf.new.machine.writer) in
    let letter = took _ c.other_sender-sender.result c.other_sender-sender.result takes old new c.in-Ok.text.items
    c.as_slice.result.now _ c.take_on_shelf.result refl c.in-Ok.ensures.opens c.as_slice.ensures.value
    c.take_on_shelf.ensures in
    inr (_, _, (letter.0, letter.1, letter.2))

-- Proves that nothing is taken, if the letter does not open.
pub returns-in-Err : goal.returns-in-Err
returns-in-Err g c =
    let written = g.W.Write.contents c.args.machine.now.writer in
    let takes = TakesAtShelf (shelf_of g.D.DeskStore.Store.state c.args.place.now.folder.now) c.args.view.now.form in
    let letter = left_sealed _ c.other_sender-sender.result c.other_sender-sender.result takes
    (streams_of (g.R.Read.remaining c.args.reader.now) written)
    (streams_of (g.R.Read.remaining c.open_letter.new.reader) written) c.in-Err.fault refl c.in-Err.ensures.fault refl in
    inr (_, _, (letter.0, letter.1, letter.2))
