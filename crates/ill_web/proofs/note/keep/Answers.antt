-- Proves the contract of `keep` (`src/note.rt`), if the note is not kept.
use Rattle.std.proofs.Common.{ℕ, List, [], ◌++◌, Some, Err, inl, refl, subst}
use Rattle.std.proofs.lemmas.List.{append-nil}
use Rattle.ill_commands.specs.Note.{NotesAtFile}
use Rattle.ill_place.specs.Place.{file_at}
use Rattle.ill_web.proofs.note.keep.Goals as goal

-- The fault of `note` is the result. `kept` has it for an output that was empty, and for the words as one text.
pub returns : goal.returns
returns g c =
    let place = file_at c.args.place.now.desk.now in
    let txn = c.args.place.now.txn.now in
    let words = c.args.words.now in
    let output = Some c.note.new.machine.writer.items in
    let fault = c.in-Err.fault in
    let ran = subst (λ (items : List ℕ). NotesAtFile place txn (words ++ []) (Some items) output (Err fault)) c.machine.ensures
    c.in-Err.ensures in
    let kept = subst (λ (text : List ℕ). NotesAtFile place txn text (Some []) output (Err fault)) (append-nil words) ran in
    (output, Err fault, kept, inl refl)
