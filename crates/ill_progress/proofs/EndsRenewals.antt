-- A Renew that waits at both sides is the last one of the requester. So none waits after its answer and a night.
use Rattle.std.proofs.Common.{rules, ◌≡◌, ◌⊎◌, inl, inr, ℕ, suc, true, false, List, [], ◌∷◌, ◌++◌, length, Option, Some, None}
use Rattle.std.proofs.Common.{refl, sym, ap, ◌∙◌, subst}
use Rattle.std.specs.Option.{unwrap_or}
use Rattle.std.proofs.lemmas.Bool.{and_parts, eqb-true, false_from_ne_true, true_from_ne_false}
use Rattle.ill_values.specs.Bodies.{is_renew}
use Rattle.ill_values.specs.TxnId.{Qualifiers}
use Rattle.ill_values.specs.declared.apdu.Apdu.{Apdu}
use Rattle.ill_values.specs.declared.apdu.BodyWith.TheVariants as types
use Rattle.ill_core.specs.declared.state.State.{State}
use Rattle.ill_core.specs.declared.state.State.TheVariants as states
use Rattle.ill_core.specs.State.{is_among}
use Rattle.ill_core.specs.Numbers.{is_equal_number, is_below}
use Rattle.ill_core.specs.Issued.{message, is_message_with, is_there, last_of, next_apdu, number_of_renew}
use Rattle.ill_core.specs.Requester.{RequesterRecord, last_renew}
use Rattle.ill_core.specs.RequesterNotices as notices
use Rattle.ill_core.specs.RequesterNotices.{is_due_after}
use Rattle.ill_core.specs.Responder.{ResponderRecord}
use Rattle.ill_core.specs.ResponderEvidence.{MayRenew, answered_number}
use Rattle.ill_core.proofs.GrantLemmas.{itself_not_before}
use Rattle.ill_world.specs.Invariant.{RequesterInvariant, ResponderInvariant}
use Rattle.ill_world.specs.Round.{HaveConverged}
use Rattle.ill_world.proofs.Claims.{AreIssued}
use Rattle.ill_world.proofs.Finds.{all_found}
use Rattle.ill_world.proofs.Pairs.{attests_answered, implied, not_below, renewing as renewing_alone, some_of}
use Rattle.ill_world.proofs.Uniqueness.{message_number}
use Rattle.ill_progress.proofs.EndsRecords.{RequesterKept, ResponderKept, HasRenewed, renewing, faced_renewing, faces_renewing}

-- A number that equals an option is the value of the option.
equal_is : (n : ℕ) (o : Option ℕ) → is_equal_number n o ≡ true → o ≡ Some n
equal_is n None is = search rules
equal_is n (Some m) is = ap Some (sym (eqb-true n m is))

-- If `a` follows `apdus`, it is message `length apdus` + 1 of the list.
at_end : (apdus : List Apdu) (a : Apdu) → message (apdus ++ a ∷ []) (suc (length apdus)) ≡ Some a
at_end [] a = refl
at_end (b ∷ apdus) a = at_end apdus a

-- A responder in NOT-SUPPLIED has no Renew to answer.
unsupplied_settled : {P : Type 0} (t : State) → is_among (states.NotSupplied ∷ []) t ≡ true → is_among renewing t ≡ true → P
unsupplied_settled states.NotSupplied is waits = search rules
unsupplied_settled t is waits = search rules

-- If a Renew waits at both sides, the responder's last one is the requester's last one. Otherwise the requester would
-- know its answer, which the responder has not issued.
pub last_waits : (txn : Qualifiers) (x : RequesterRecord) (y : ResponderRecord)
    (responder_sent requester_sent : List (Option Apdu))
    → RequesterInvariant txn x responder_sent → ResponderInvariant txn y requester_sent → AreIssued responder_sent y.issued
    → AreIssued requester_sent x.issued → is_among renewing x.state ≡ true → is_among renewing y.state ≡ true
    → (n : ℕ) → y.last_renew ≡ Some n → last_renew x ≡ Some n
last_waits txn x y responder_sent requester_sent borrower lender issued heeded awaits waits n last =
    let no = renewing_alone x.state awaits in
    let due = some_of x.due (borrower.rules.parts.due ∙ no.0) in
    let asked = lender.asked MayRenew n (inl last) in
    let at = heeded asked.0 asked.1 in
    let number = sym (message_number x.txn x.issued at.0 asked.0 borrower.rules.numbered at.1).1 ∙ asked.3 in
    let issued_it : is_message_with is_renew x.issued n ≡ true =
    ap (is_there is_renew) (ap (message x.issued) (sym number) ∙ at.1) ∙ asked.2 in
    let waiting : notices.is_awaiting_answer x n ≡ true = true_from_ne_false _ (λ over.
    let not_past : is_due_after due.0 x.due ≡ false =
    subst (λ o. is_due_after due.0 o ≡ false) (sym due.1) (itself_not_before due.0) in
    let known = borrower.notices (notices.Answered n due.0) (issued_it, no.5, over, not_past) in
    let there = issued known.0 known.1 in
    not_below n y.last_renew last (all_found (λ a. answered_number MayRenew a.body) (λ k. is_below k y.last_renew) y.issued
    there.0 known.0 n (lender.renewals.below waits) there.1
    (attests_answered known.0.number n due.0 known.0.body known.2))) in
    equal_is n (last_renew x) (and_parts _ _ waiting).1

-- After an answer to the Renew that waited, and messages of either side, no Renew waits, if both sides are converged.
pub renewal_settles : (txn : Qualifiers) (x after : RequesterRecord) (y new answered : ResponderRecord)
    (a b c d : List (Option Apdu))
    → RequesterInvariant txn x a → ResponderInvariant txn y b → RequesterInvariant txn after c → ResponderInvariant txn answered d
    → AreIssued a y.issued → AreIssued b x.issued → AreIssued c answered.issued → AreIssued d after.issued
    → RequesterKept x after → ResponderKept new answered → HaveConverged x y → HaveConverged after answered → HasRenewed y new
    → is_among renewing after.state ≡ false
renewal_settles txn x after y new answered a b c d borrower lender borrower_after lender_after issued heeded issued_after
    heeded_after waited kept step step_after renewed = false_from_ne_true _ apart
  where
    -- Renew `n` cannot wait at `answered`: its answer is among the messages of the responder, or no Renew waits there.
    answered_twice : (n : ℕ) → y.last_renew ≡ Some n → answered.last_renew ≡ Some n → is_among renewing answered.state ≡ true
        → (answered.issued ≡ new.issued) ⊎ (is_among (states.NotSupplied ∷ []) answered.state ≡ true) → ⊥
    answered_twice n last last_after waits (inl same) =
        let answer : Apdu = next_apdu y.txn y.issued (types.RenewAnswer (unwrap_or y.last_renew 0) renewed.2) in
        let at : message answered.issued (suc (length y.issued)) ≡ Some answer =
        ap (λ (l : List Apdu). message l (suc (length y.issued))) (same ∙ renewed.3) ∙ at_end y.issued answer in
        not_below n answered.last_renew last_after
        (all_found (λ m. answered_number MayRenew m.body) (λ k. is_below k answered.last_renew) answered.issued
        (suc (length y.issued)) answer n (lender_after.renewals.below waits) at
        (ap (λ (o : Option ℕ). Some (unwrap_or o 0)) last))
    answered_twice n last last_after waits (inr is) = unsupplied_settled answered.state is waits

    -- No Renew waits, since it would be the last one of the requester, which has its answer.
    apart : is_among renewing after.state ≡ true → ⊥
    apart awaits =
        let waits = faced_renewing after.state answered.state step_after.faced awaits in
        let first = some_of y.last_renew (implied _ _ lender.rules.parts.renew renewed.0) in
        let second = some_of answered.last_renew (implied _ _ lender_after.rules.parts.renew waits) in
        let asked = last_waits txn x y a b borrower lender issued heeded
        (faces_renewing x.state y.state step.faced renewed.0) renewed.0 first.0 first.1 in
        let asked_after = last_waits txn after answered c d borrower_after lender_after issued_after heeded_after awaits waits
        second.0 second.1 in
        let same : Some second.0 ≡ Some first.0 =
        sym asked_after ∙ ap (λ (l : List Apdu). last_of number_of_renew l) waited.issued ∙ asked in
        answered_twice first.0 first.1 (second.1 ∙ same) waits kept.issued
