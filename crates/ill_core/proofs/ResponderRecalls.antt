-- Proves that a responder issues a Recall only after its Shipped. The state then is RECALL, RETURNED or CHECKED-IN.
use Rattle.std.proofs.Common.{rules, arith, ◌≡◌, ◌⊎◌, inl, inr, ℕ, ◌+◌, ◌<◌, ◌≤◌, true, false, List, [], ◌∷◌, ◌++◌, length, Some}
use Rattle.std.proofs.Common.{Ok, refl, ap, sym, subst, ◌∙◌}
use Rattle.std.proofs.lemmas.Bool.{or_cases, or_right, false_from_ne_true}
use Rattle.ill_values.specs.Day.{Date}
use Rattle.ill_values.specs.declared.apdu.Apdu.{Apdu}
use Rattle.ill_values.specs.Body.{Body}
use Rattle.ill_values.specs.declared.apdu.BodyWith.TheVariants as types
use Rattle.ill_values.specs.declared.apdu.AnswerResult.TheVariants as results
use Rattle.ill_core.specs.declared.state.State.{State}
use Rattle.ill_core.specs.declared.state.State.TheVariants.{NotSupplied, Recall, Returned, CheckedIn}
use Rattle.ill_core.specs.declared.responder.Deed.{Deed}
use Rattle.ill_core.specs.State.{is_among}
use Rattle.ill_values.specs.Bodies.{is_shipped}
use Rattle.ill_core.specs.Issued.{message, has_message_with, next_apdu}
use Rattle.ill_core.specs.Responder.{ResponderRecord}
use Rattle.ill_core.specs.ResponderActions.{Transition, acts, issues_to}
use Rattle.ill_core.specs.ResponderDeliveries.{takes}
use Rattle.ill_core.specs.ResponderNotices.{undecided, is_recall, RecallFits, ShipsBeforeRecall}
use Rattle.ill_core.proofs.IssuedLemmas.{has_more}
use Rattle.ill_core.proofs.MessageLemmas.{message_more, message_says}
use Rattle.ill_core.proofs.ResponderTransitions.{IsTransition, answers, allows_cancel, refuses_cancel, ships, renews}
use Rattle.ill_core.proofs.ResponderTransitions.{refuses_renewal, refuses_late, reminds, reminds_renewing, recalls, checks_in}
use Rattle.ill_core.proofs.ResponderTransitions.{expires}
use Rattle.ill_core.proofs.ResponderRows.{of_acts}
use Rattle.ill_core.proofs.ResponderLaws.{not_both}
use Rattle.ill_core.proofs.ResponderMoves.{Change, takes_changes, leaves, requests, accepts, declines, cancels, arrives, returns}
use Rattle.ill_core.proofs.ResponderMoves as changes

-- Lists the states in which a Recall may have been issued.
abbrev recalled : List State
recalled = Recall ∷ Returned ∷ CheckedIn ∷ []

-- No APDU is both a Shipped and a Recall.
one_type : {P : Type 0} (body : Body) → is_shipped body ≡ true → is_recall body ≡ true → P
one_type (types.Shipped due) shipped recall = search rules
one_type body shipped recall = search rules

-- If no Recall precedes a new Shipped, every Shipped still precedes every Recall after one more APDU.
ships_before_more : (apdus : List Apdu) (a : Apdu) → ShipsBeforeRecall apdus
    → (is_shipped a.body ≡ true → has_message_with is_recall apdus ≡ false) → ShipsBeforeRecall (apdus ++ a ∷ [])
ships_before_more apdus a h none m n b c at_m at_n shipped recall =
    go (message_more apdus a b m at_m) (message_more apdus a c n at_n)
  where
    -- Message `m` is old or the new one, and so is message `n`.
    go : ((message apdus m ≡ Some b) × (m ≤ length apdus)) ⊎ ((m ≡ length apdus + 1) × (a ≡ b))
        → ((message apdus n ≡ Some c) × (n ≤ length apdus)) ⊎ ((n ≡ length apdus + 1) × (a ≡ c)) → m < n
    go (inl old) (inl older) = h m n b c old.0 older.0 shipped recall
    go (inl old) (inr new) = omega (arith, old.1, new.0)
    go (inr new) (inl older) =
        not_both _ (none (ap (λ (x : Apdu). is_shipped x.body) new.1 ∙ shipped)) (message_says is_recall apdus n c older.0 recall)
    go (inr new) (inr also) = one_type a.body (ap (λ (x : Apdu). is_shipped x.body) new.1 ∙ shipped)
        (ap (λ (x : Apdu). is_recall x.body) also.1 ∙ recall)

-- An APDU with `body`, issued in `state`, leads to a state `next` that agrees with the Recalls in the list. A Recall
-- leads to RECALL. A Shipped is issued only in a state before a Recall.
record FitsRecall (state : State) (body : Body) (next : State) : Type 0 where
  leads : is_among (Recall ∷ []) next ≡ true → is_recall body ≡ true
  after : is_recall body ≡ true → is_among recalled next ≡ true
  stays : is_among recalled state ≡ true → is_among recalled next ≡ true
  ships : is_shipped body ≡ true → is_among recalled state ≡ false

-- Each transition of a deed satisfies `FitsRecall`.
transition_recall : (y : ResponderRecord) (transition : Transition) → IsTransition y transition
    → FitsRecall y.state transition.body transition.next
transition_recall y _ (answers answer is) = search rules
transition_recall y _ (allows_cancel is) = search rules
transition_recall y _ (refuses_cancel is) = search rules
transition_recall y _ (ships due is) = search rules
transition_recall y _ (renews due is after) = search rules
transition_recall y _ (refuses_renewal is) = search rules
transition_recall y _ (refuses_late is) = search rules
transition_recall y _ (reminds is) = search rules
transition_recall y _ (reminds_renewing is) = search rules
transition_recall y _ (recalls is) = search rules
transition_recall y _ (checks_in is) = search rules
transition_recall y _ (expires is) = search rules

-- The state of `y` agrees with its Recalls, and every Shipped precedes every Recall.
abbrev HasRecallPlace : ResponderRecord → Type 0
HasRecallPlace y = RecallFits y × ShipsBeforeRecall y.issued

-- If an APDU satisfies `FitsRecall`, `HasRecallPlace` still holds after it is issued.
issues_recall : (y : ResponderRecord) (body : Body) (next : State) → FitsRecall y.state body next → RecallFits y
    → ShipsBeforeRecall y.issued → HasRecallPlace (issues_to y body next)
issues_recall y body next fits h order =
    let a : Apdu = next_apdu y.txn y.issued body in
    let none : is_shipped body ≡ true → has_message_with is_recall y.issued ≡ false = λ is.
    false_from_ne_true _ (λ there. not_both _ (fits.ships is) (h.after there)) in (
      record {
        issued = λ is. has_more is_recall y.issued a ∙ or_right (has_message_with is_recall y.issued) _ (fits.leads is);
        after = λ there. either_way (or_cases _ _ (sym (has_more is_recall y.issued a) ∙ there));
      },
      ships_before_more y.issued a order none,
    )
  where
    -- The Recall is an old message or the new one.
    either_way : (has_message_with is_recall y.issued ≡ true) ⊎ (is_recall body ≡ true) → is_among recalled next ≡ true
    either_way (inl old) = fits.stays (h.after old)
    either_way (inr new) = fits.after new

-- A deed preserves `RecallFits` and `ShipsBeforeRecall`.
pub acts_recall : (y new : ResponderRecord) (deed : Deed) (today : Date) → acts y deed today ≡ Ok new
    → RecallFits y → ShipsBeforeRecall y.issued → RecallFits new × ShipsBeforeRecall new.issued
acts_recall y new deed today done =
    of_acts (λ r. RecallFits y → ShipsBeforeRecall y.issued → HasRecallPlace r) y new deed today
    (λ transition is how. issues_recall y transition.body transition.next (transition_recall y transition is)) done

-- A change that issues nothing preserves `HasRecallPlace`, if it does not enter RECALL or leave `recalled`.
moves_recall : (y new : ResponderRecord) → new.issued ≡ y.issued
    → (is_among (Recall ∷ []) new.state ≡ true → is_among (Recall ∷ []) y.state ≡ true)
    → (is_among recalled y.state ≡ true → is_among recalled new.state ≡ true) → RecallFits y
    → ShipsBeforeRecall y.issued → HasRecallPlace new
moves_recall y new same before after h order = (
  record {
    issued = λ is. ap (has_message_with is_recall) same ∙ h.issued (before is);
    after = λ there. after (h.after (ap (has_message_with is_recall) (sym same) ∙ there));
  },
  subst ShipsBeforeRecall (sym same) order,
)

-- The ILL-Answer unfilled to a no satisfies `FitsRecall`, because no item was recalled before.
declines_fits : (y : ResponderRecord) → is_among undecided y.state ≡ true
    → FitsRecall y.state (types.IllAnswer results.Unfilled) NotSupplied
declines_fits y waiting = search rules

-- Each change by a message preserves `HasRecallPlace`.
change_recall : (y new : ResponderRecord) (number : ℕ) (body : Body) → Change y number body new → RecallFits y
    → ShipsBeforeRecall y.issued → HasRecallPlace new
change_recall y _ number _ (leaves body) = λ h order. (h, order)
change_recall y _ number _ (requests expiry item a idle) = moves_recall y _ refl (λ is. search rules) (λ is. search rules)
change_recall y _ number _ (accepts c there) = moves_recall y _ refl (λ is. search rules) (λ is. search rules)
change_recall y _ number _ (declines c waiting left) =
    issues_recall y (types.IllAnswer results.Unfilled) NotSupplied (declines_fits y waiting)
change_recall y _ number _ (cancels above waiting) = moves_recall y _ refl (λ is. search rules) (λ is. search rules)
change_recall y _ number _ arrives = moves_recall y _ refl (λ is. is) (λ is. is)
change_recall y _ number _ (changes.renews wished above here) = moves_recall y _ refl (λ is. search rules) (λ is. search rules)
change_recall y _ number _ (changes.renews_late wished above here) =
    moves_recall y _ refl (λ is. search rules) (λ is. search rules)
change_recall y _ number _ (returns out) = moves_recall y _ refl (λ is. search rules) (λ is. refl)

-- A message preserves `RecallFits` and `ShipsBeforeRecall`.
pub takes_recall : (y : ResponderRecord) (a : Apdu) → RecallFits y → ShipsBeforeRecall y.issued
    → RecallFits (takes y a).1 × ShipsBeforeRecall (takes y a).1.issued
takes_recall y a = change_recall y (takes y a).1 a.number a.body (takes_changes y a)
