-- Answers the contract of `push_message` (`src/objects.rt`).
use Rattle.std.proofs.Common.{◌≡◌, ◌++◌, ◌∷◌, ℕ, List, [], OnOk, ap, subst, ◌∙◌, append_assoc}
use Rattle.ill_text.specs.Json.{joined, member}
use Rattle.ill_text.specs.ApduObject.{apdu_fields}
use Rattle.ill_show.specs.Objects.{leaves_fields}
use Rattle.ill_text.proofs.JsonLemmas.{joined_further}
use Rattle.ill_show.proofs.objects.push_message.Goals as goal

-- Proves the contract of `push_message`. The fields of the message come between two braces.
pub returns : goal.returns
returns c =
    let old = c.args.text.now.items in
    let apdu = c.args.apdu.now in
    let fields = joined member [] (apdu_fields apdu ++ leaves_fields c.args.released apdu) in
    let further = joined_further member [] c.push_plain.new.text.items c.push_issued.new.text.items _ _ _
    c.in_ok-push_issued.ensures in
    let shown = c.in_ok-push_leaves.ensures ∙ further ∙ ap (λ prefix. prefix ++ fields) c.in_ok-push_plain.ensures in
    let all = ap (λ prefix. prefix ++ 125 ∷ []) shown ∙ append_assoc (old ++ 123 ∷ []) fields (125 ∷ [])
    ∙ append_assoc old (123 ∷ []) (fields ++ 125 ∷ []) in
    subst (λ (text : List ℕ). OnOk c.push_plain-2.result (c.push_plain-2.new.text.items ≡ text)) all c.push_plain-2.ensures
