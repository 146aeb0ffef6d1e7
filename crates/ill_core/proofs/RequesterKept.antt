-- Proves that a wish preserves the rules of a requester's record.
use Rattle.std.proofs.Common.{rules, arith, ◌≡◌, ℕ, Bool, true, false, not, ◌||◌, List, [], ◌∷◌, Option, is_some, Ok, ap, subst}
use Rattle.std.proofs.Common.{sym, ◌∙◌}
use Rattle.ill_values.specs.Day.{Date}
use Rattle.ill_values.specs.TxnId.{Qualifiers}
use Rattle.ill_values.specs.declared.apdu.Apdu.{Apdu}
use Rattle.ill_values.specs.Body.{Body}
use Rattle.ill_values.specs.declared.apdu.BodyWith.TheVariants as types
use Rattle.ill_core.specs.declared.state.State.{State}
use Rattle.ill_core.specs.declared.state.State.TheVariants.{Idle, Pending, Conditional, CancelPending, Cancelled, Received}
use Rattle.ill_core.specs.declared.state.State.TheVariants.{RenewPending, Overdue, RenewOverdue, Recall, Returned}
use Rattle.ill_core.specs.declared.requester.Wish.{Wish}
use Rattle.ill_core.specs.declared.requester.Wish.TheVariants as wishes
use Rattle.ill_core.specs.State.{is_among}
use Rattle.ill_core.specs.Rules.{implies}
use Rattle.ill_values.specs.Bodies.{declines, is_requesters, is_ill_request, is_cancel, is_received, is_renew, is_returned}
use Rattle.ill_core.specs.Issued.{has_message_with, is_none, with_next, next_apdu}
use Rattle.ill_core.specs.Requester.{RequesterRecord, requester_of}
use Rattle.ill_core.specs.RequesterRules.{RequesterRules, PartsFit, IssuedFit}
use Rattle.ill_core.specs.RequesterActions.{Transition, answer_held, transition_of}
use Rattle.ill_core.proofs.TransitionLemmas.{at_transition, is_this, no_more}
use Rattle.ill_core.proofs.IssuedLemmas.{numbered_next, not_true, same_txn, has_more, all_more, none_more, begins_more}

-- The state and the conditions held fit record `x` with one more APDU with this body.
abbrev pub FitsWith : State → Option ℕ → RequesterRecord → Body → Type 0
FitsWith state held x body =
    PartsFit state (is_some held) (is_some x.due) x.checked_in
    × IssuedFit state false (has_message_with is_received x.issued || is_received body)
    (has_message_with is_cancel x.issued || is_cancel body)
    (has_message_with is_renew x.issued || is_renew body) (has_message_with is_returned x.issued || is_returned body)
    (has_message_with declines x.issued || declines body)
    × (is_requesters body ≡ true) × (is_ill_request body ≡ is_none x.issued)

-- If `state` and `held` fit record `x` with one more APDU, the new record satisfies the rules.
kept : (x : RequesterRecord) (body : Body) (state : State) (held : Option ℕ) → RequesterRules x → FitsWith state held x body
    → RequesterRules (requester_of x.txn state held x.checked_in x.due (with_next x.txn x.issued body))
kept x body state held h fits =
    let a : Apdu = next_apdu x.txn x.issued body in
    let received = has_more is_received x.issued a in
    record {
      numbered = numbered_next x.txn 1 x.issued a h.numbered (same_txn x.txn) (omega arith);
      role = all_more is_requesters x.issued a h.role fits.2;
      request = begins_more x.issued a h.request fits.3;
      parts = fits.0;
      issued = record {
        idle = none_more x.issued a ∙ fits.1.idle;
        received = ap (implies (is_among (Received ∷ RenewPending ∷ Overdue ∷ RenewOverdue ∷ Returned ∷ []) state)) received
            ∙ fits.1.received;
        not_received = ap (λ b. implies b
            (is_among (Received ∷ RenewPending ∷ Overdue ∷ RenewOverdue ∷ Recall ∷ Returned ∷ []) state)) received
            ∙ fits.1.not_received;
        cancel = ap (implies (is_among (CancelPending ∷ Cancelled ∷ []) state)) (has_more is_cancel x.issued a) ∙ fits.1.cancel;
        renew = ap (implies (is_among (RenewPending ∷ RenewOverdue ∷ []) state)) (has_more is_renew x.issued a) ∙ fits.1.renew;
        returned = has_more is_returned x.issued a ∙ fits.1.returned;
        declined = ap (λ b. implies b (not (is_among (Pending ∷ CancelPending ∷ Cancelled ∷ []) state)))
            (has_more declines x.issued a) ∙ fits.1.declined;
      };
    }

-- In CONDITIONAL, if no conditions were declined, the state after a reply satisfies `FitsWith`.
reply_fits : (txn : Qualifiers) (held : Option ℕ) (checked_in : Bool) (due : Option Date) (issued : List Apdu) (is_yes : Bool)
    → RequesterRules (requester_of txn Conditional held checked_in due issued) → has_message_with declines issued ≡ false
    → (let x : RequesterRecord = requester_of txn Conditional held checked_in due issued in
    FitsWith (answer_held x is_yes).next (answer_held x is_yes).held x (answer_held x is_yes).body)
reply_fits txn held checked_in due issued true h undeclined = search rules
reply_fits txn held checked_in due issued false h undeclined = search rules

-- In RECALL, if no Received was issued, the state RECALL after a Received satisfies `FitsWith`.
receive_fits : (txn : Qualifiers) (held : Option ℕ) (checked_in : Bool) (due : Option Date) (issued : List Apdu)
    → RequesterRules (requester_of txn Recall held checked_in due issued) → has_message_with is_received issued ≡ false
    → FitsWith Recall held (requester_of txn Recall held checked_in due issued) types.Received
receive_fits txn held checked_in due issued h unreceived = search rules

-- In RECALL, if a Received was issued, the state RETURNED after a Returned satisfies `FitsWith`.
return_fits : (txn : Qualifiers) (held : Option ℕ) (checked_in : Bool) (due : Option Date) (issued : List Apdu)
    → RequesterRules (requester_of txn Recall held checked_in due issued) → has_message_with is_received issued ≡ true
    → FitsWith Returned held (requester_of txn Recall held checked_in due issued) types.Returned
return_fits txn held checked_in due issued h received = search rules

-- If the record satisfies the rules, and `row` is the transition of `wish`, `row` satisfies `FitsWith`. Three cases
-- depend on what was issued; each has its lemma above.
pub fits : (txn : Qualifiers) (state : State) (held : Option ℕ) (checked_in : Bool) (due : Option Date) (issued : List Apdu)
    (wish : Wish) (row : Transition)
    → RequesterRules (requester_of txn state held checked_in due issued)
    → transition_of (requester_of txn state held checked_in due issued) wish ≡ Ok row
    → FitsWith row.next row.held (requester_of txn state held checked_in due issued) row.body
fits txn Idle held checked_in due issued (wishes.Request expiry item) row h leads = search rules
fits txn Conditional held checked_in due issued (wishes.Reply is_yes) row h leads =
    let x : RequesterRecord = requester_of txn Conditional held checked_in due issued in
    at_transition (λ r. FitsWith r.next r.held x r.body) (not (has_message_with declines issued)) _ _ row
    (λ undeclined. is_this (λ r. FitsWith r.next r.held x r.body) _ row
    (reply_fits txn held checked_in due issued is_yes h (not_true _ undeclined)))
    (no_more (λ r. FitsWith r.next r.held x r.body) _ row) leads
fits txn Recall held checked_in due issued wishes.Receive row h leads =
    let x : RequesterRecord = requester_of txn Recall held checked_in due issued in
    at_transition (λ r. FitsWith r.next r.held x r.body) (not (has_message_with is_received issued)) _ _ row
    (λ is. is_this (λ r. FitsWith r.next r.held x r.body) _ row (receive_fits txn held checked_in due issued h (not_true _ is)))
    (no_more (λ r. FitsWith r.next r.held x r.body) _ row) leads
fits txn Recall held checked_in due issued wishes.Return row h leads =
    let x : RequesterRecord = requester_of txn Recall held checked_in due issued in
    at_transition (λ r. FitsWith r.next r.held x r.body) (has_message_with is_received issued) _ _ row
    (λ is. is_this (λ r. FitsWith r.next r.held x r.body) _ row (return_fits txn held checked_in due issued h is))
    (no_more (λ r. FitsWith r.next r.held x r.body) _ row) leads
fits txn state held checked_in due issued wish row h leads = search rules

-- If `row` satisfies `FitsWith`, the record after it satisfies the rules of a requester. `txn` and `issued` are the
-- transaction and the list of that record.
pub row_kept : (x : RequesterRecord) (row : Transition) (txn : Qualifiers) (issued : List Apdu) → RequesterRules x
    → FitsWith row.next row.held x row.body
    → txn ≡ x.txn → issued ≡ with_next x.txn x.issued row.body
    → RequesterRules (requester_of txn row.next row.held x.checked_in x.due issued)
row_kept x row txn issued h fits same more =
    let parts : (txn, issued) ≡ (x.txn, with_next x.txn x.issued row.body) = cc in
    subst (λ (p : Qualifiers × List Apdu). RequesterRules (requester_of p.0 row.next row.held x.checked_in x.due p.1)) (sym parts)
    (kept x row.body row.next row.held h fits)
