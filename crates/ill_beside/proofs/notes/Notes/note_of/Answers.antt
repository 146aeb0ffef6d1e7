-- Answers the contract of `Notes::note_of` (`src/notes.rt`).
use Rattle.std.proofs.Common.{ℕ, List, Vec, Global, None, ap, ◌∙◌}
use Rattle.ill_beside.specs.Notes.{looks_after, note_of, unless_empty}
use Rattle.ill_beside.specs.Places.{looked_up, places_of}
use Rattle.ill_beside.proofs.NoteKeysLemmas.{all_words}
use Rattle.ill_beside.proofs.notes.Notes.note_of.Goals as goal

-- Proves the contract of `note_of`. By `all_words` the words at the places of the key are those of the loan.
pub returns : goal.returns
returns c =
    let by_key = c.self.inside.places.by_key.entries in
    let begin = c.in_ok-begin.begin in
    let found = λ (text : List ℕ) (lines : List (Vec ℕ Global)) (places : List ℕ).
    looked_up (looks_after text) lines None places in
    c.unless_empty.ensures
    ∙ ap unless_empty (c.last_words.ensures
    ∙ ap (λ (text : List ℕ). found text c.lines.result.now c.with_key-places.result.now) c.deref.ensures.value
    ∙ ap (λ (places : List ℕ). found begin.items c.lines.result.now places) c.with_key-places.ensures
    ∙ ap (λ (lines : List (Vec ℕ Global)). found begin.items lines (places_of by_key begin)) c.lines.ensures.whole
    ∙ all_words by_key c.self.inside.lines.lines.items c.self.invariant c.args.txn.now begin c.in_ok-begin.ensures)
    ∙ ap (λ (lines : List (List ℕ)). note_of lines c.args.txn.now) c.self.view_is
