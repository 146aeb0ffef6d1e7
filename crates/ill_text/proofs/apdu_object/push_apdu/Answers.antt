-- Answers the contract of `push_apdu` (`src/apdu_object.rt`).
use Rattle.std.proofs.Common.{◌≡◌, ℕ, List, [], OnOk, subst}
use Rattle.ill_text.specs.Json.{member}
use Rattle.ill_text.proofs.JsonLemmas.{joined_further}
use Rattle.ill_text.proofs.apdu_object.push_apdu.Goals as goal

-- Proves the contract of `push_apdu`. The fields of the body follow those of the head.
pub returns : goal.returns
returns c =
    subst (λ (shown : List ℕ). OnOk c.push_body.result (c.push_body.new.text.items ≡ shown))
    (joined_further member [] c.args.text.now.items c.push_head.new.text.items _ _ _ c.in_ok-push_head.ensures)
    c.push_body.ensures
