-- Answers the contract of `push_message` (`src/objects.rt`).
use Rattle.std.proofs.Common.{◌≡◌, ℕ, List, [], OnOk, subst}
use Rattle.ill_text.specs.Json.{member}
use Rattle.ill_text.proofs.JsonLemmas.{joined_further}
use Rattle.ill_inbox.proofs.objects.push_message.Goals as goal

-- Proves the contract of `push_message`. The fields of the APDU follow those of the outcome.
pub returns : goal.returns
returns c =
    subst (λ (shown : List ℕ). OnOk c.push_apdu_after.result (c.push_apdu_after.new.text.items ≡ shown))
    (joined_further member [] c.args.text.now.items c.push_outcome.new.text.items _ _ _ c.in_ok-push_outcome.ensures)
    c.push_apdu_after.ensures
