-- Answers the contract of `push_fields` (`src/loan.rt`).
use Rattle.std.proofs.Common.{◌≡◌, ℕ, List, [], OnOk, subst}
use Rattle.ill_text.specs.Json.{member}
use Rattle.ill_text.proofs.JsonLemmas.{joined_further}
use Rattle.ill_show.proofs.loan.push_fields.Goals as goal

-- Proves the contract of `push_fields`. The field of the history follows the fields of the loan and its note.
pub returns : goal.returns
returns c =
    subst (λ (shown : List ℕ). OnOk c.push_printed_history.result (c.push_printed_history.new.text.items ≡ shown))
    (joined_further member [] c.args.text.now.items c.push_kept_and_note.new.text.items _ _ _
    c.in_ok-push_kept_and_note.ensures)
    c.push_printed_history.ensures
