-- Answers the contract of `push_loan_and_came` (`src/objects.rt`).
use Rattle.std.proofs.Common.{◌≡◌, ℕ, List, [], OnOk, subst}
use Rattle.ill_text.specs.Json.{member}
use Rattle.ill_text.proofs.JsonLemmas.{joined_further}
use Rattle.ill_show.proofs.objects.push_loan_and_came.Goals as goal

-- Proves the contract of `push_loan_and_came`. The field of the messages that came follows the fields of the loan.
pub returns : goal.returns
returns c =
    subst (λ (shown : List ℕ). OnOk c.push_messages.result (c.push_messages.new.text.items ≡ shown))
    (joined_further member [] c.args.text.now.items c.push_loan.new.text.items _ _ _ c.in_ok-push_loan.ensures)
    c.push_messages.ensures
