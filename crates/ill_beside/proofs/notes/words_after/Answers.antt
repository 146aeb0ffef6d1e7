-- Answers the contract of `words_after` (`src/notes.rt`).
use Rattle.ill_beside.proofs.NotesLemmas.{no_words, words_read}
use Rattle.ill_beside.proofs.notes.words_after.Goals as goal

-- Proves the contract of `words_after` if the bytes after `begin` are UTF-8.
pub returns-in-Ok : goal.returns-in-Ok
returns-in-Ok c =
    words_read c.args.begin.now c.args.line.now c.in-Ok.words.now c.if-not-starts_with.ensures.value c.in-Ok.ensures.cases.0
    c.in-Ok.ensures.cases.1

-- Proves the contract of `words_after` if the bytes after `begin` are not UTF-8. Then the line has no words.
pub returns-in-Err : goal.returns-in-Err
returns-in-Err c = no_words c.args.begin.now c.args.line.now c.if-not-starts_with.ensures.value c.in-Err.ensures.cases.0
