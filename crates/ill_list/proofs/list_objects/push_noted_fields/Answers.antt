-- Answers the contract of `push_noted_fields` (`src/list_objects.rt`).
use Rattle.std.proofs.Common.{◌≡◌, ◌++◌, ℕ, List, [], Option, OnOk, ap, subst, ◌∙◌}
use Rattle.ill_text.specs.Json.{joined, member}
use Rattle.ill_text.proofs.JsonLemmas.{joined_further}
use Rattle.ill_beside.specs.Notes.{note_fields, note_of}
use Rattle.ill_show.specs.Objects.{names_of}
use Rattle.ill_list.specs.ListObjects.{row_fields}
use Rattle.ill_list.proofs.list_objects.push_noted_fields.Goals as goal

-- Proves the contract of `push_noted_fields`. The field of the note follows the fields of the loan.
pub returns : goal.returns
returns c =
    let old = c.args.text.now.items in
    let row = row_fields c.args.work c.args.side.now (names_of c.args.today c.args.side.now) in
    let text = joined_further member [] old c.push_row_fields.new.text.items _ _ _ c.in_ok-push_row_fields.ensures
    ∙ ap (λ (note : Option (List ℕ)). old ++ joined member [] (row ++ note_fields note)) (c.in_ok-note.ensures
    ∙ ap (note_of c.args.notes.now) c.txn.ensures) in
    subst (λ (shown : List ℕ). OnOk c.push_note_field.result (c.push_note_field.new.text.items ≡ shown)) text
    c.push_note_field.ensures
