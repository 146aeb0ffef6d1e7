-- Answers the contract of `push_loan` (`src/objects.rt`).
use Rattle.std.proofs.Common.{◌≡◌, ◌++◌, ℕ, List, [], None, OnOk, ap, subst, ◌∙◌}
use Rattle.ill_values.specs.declared.apdu.Apdu.{Apdu}
use Rattle.ill_text.specs.Json.{joined, member}
use Rattle.ill_show.specs.Objects.{names_of, sent_fields, status_fields, taken_fields, turn_fields}
use Rattle.ill_text.proofs.JsonLemmas.{joined_further}
use Rattle.ill_show.proofs.objects.push_loan.Goals as goal

-- Proves the contract of `push_loan`. By `joined_further` each group of fields follows the one before.
pub returns : goal.returns
returns c =
    let old = c.args.text.now.items in
    let side = c.args.side.now in
    let released = c.args.released in
    let turn = c.in_ok-push_turn.ensures
    ∙ joined_further member [] old c.push_status.new.text.items _ _ _ c.in_ok-push_status.ensures in
    let taken = c.in_ok-push_taken.ensures ∙ joined_further member [] old c.push_turn.new.text.items _ _ _ turn in
    let all =
    joined_further member [] old c.push_taken.new.text.items _ _ _ taken
    ∙ ap (λ (apdus : List Apdu). old
    ++ joined member [] (status_fields side released ++ turn_fields side (names_of None side) ++ taken_fields side
    ++ sent_fields released apdus)) c.all_issued.ensures.value in
    subst (λ (shown : List ℕ). OnOk c.push_messages.result (c.push_messages.new.text.items ≡ shown)) all c.push_messages.ensures
