-- Answers the contract of `push_kept_and_note` (`src/objects.rt`).
use Rattle.std.proofs.Common.{◌≡◌, ℕ, List, [], OnOk, subst}
use Rattle.ill_text.specs.Json.{member}
use Rattle.ill_text.proofs.JsonLemmas.{joined_further}
use Rattle.ill_show.proofs.objects.push_kept_and_note.Goals as goal

-- Proves the contract of `push_kept_and_note`. The field of the note follows the fields of the loan.
pub returns : goal.returns
returns c =
    subst (λ (shown : List ℕ). OnOk c.push_note_field.result (c.push_note_field.new.text.items ≡ shown))
    (joined_further member [] c.args.text.now.items c.push_loan_and_came.new.text.items _ _ _ c.in_ok-push_loan_and_came.ensures)
    c.push_note_field.ensures
