-- Proves the laws of a requester's single rows.
use Rattle.std.proofs.Common.{◌≡◌, ◌⊎◌, [], ◌∷◌, is_some, true, false, Ok, refl, ◌∙◌}
use Rattle.ill_values.specs.declared.apdu.Apdu.{Apdu}
use Rattle.ill_core.specs.declared.state.State.TheVariants.{Idle, Conditional, Cancelled, NotSupplied, Returned}
use Rattle.ill_core.specs.declared.requester.Wish.{Wish}
use Rattle.ill_core.specs.declared.taking.Taking.TheVariants.{Taken}
use Rattle.ill_core.specs.State.{is_among}
use Rattle.ill_core.specs.Issued.{IssuesNext, with_next}
use Rattle.ill_core.specs.Requester.{RequesterRecord, IsRequester, later}
use Rattle.ill_core.specs.RequesterActions.{acts}
use Rattle.ill_core.specs.RequesterDeliveries.{takes}
use Rattle.ill_core.specs.RequesterEvidence.{Fact, Claims, IsEvidence, KeepsDue, Holds, Replies, AnswersOnce}
use Rattle.ill_core.specs.RequesterEvidence as evidence
use Rattle.ill_core.proofs.IssuedLemmas.{issued_body}
use Rattle.ill_core.proofs.Rules.{requester_rules, is_requester}
use Rattle.ill_core.proofs.RequesterKept.{row_kept, fits}
use Rattle.ill_core.proofs.RequesterAnswers.{still_once}
use Rattle.ill_core.proofs.RequesterRows.{delivery_row, of_acts}

-- ---- actions

-- A wish that succeeds issues one APDU, with the next number.
pub acts_issue : (x new : RequesterRecord) (wish : Wish) → acts x wish ≡ Ok new → IssuesNext x.txn x.issued new.issued
acts_issue x new wish = of_acts (λ r. IssuesNext x.txn x.issued r.issued) x new wish (λ row there how. (row.body, refl))

-- A wish does not change the transaction.
pub acts_txn : (x new : RequesterRecord) (wish : Wish) → acts x wish ≡ Ok new → new.txn ≡ x.txn
acts_txn x new wish = of_acts (λ r. r.txn ≡ x.txn) x new wish (λ row there how. refl)

-- If a record satisfies the rules of a requester, so does the record after a wish.
pub acts_kept : (x new : RequesterRecord) (wish : Wish) → acts x wish ≡ Ok new → IsRequester x → IsRequester new
acts_kept x new wish = of_acts (λ r. IsRequester x → IsRequester r) x new wish (λ row there how h.
    let rules = requester_rules x h in
    is_requester _ (row_kept x row x.txn (with_next x.txn x.issued row.body) rules
    (fits x.txn x.state x.held x.checked_in x.due x.issued wish row rules there) refl refl))

-- After a wish a requester is not in IDLE.
pub acts_begun : (x new : RequesterRecord) (wish : Wish) → acts x wish ≡ Ok new → is_among (Idle ∷ []) new.state ≡ false
acts_begun x new wish = of_acts (λ r. is_among (Idle ∷ []) r.state ≡ false) x new wish (λ row there how. how.begun)

-- A wish does not change the states CANCELLED, NOT-SUPPLIED and RETURNED.
pub acts_final : (x new : RequesterRecord) (wish : Wish) → acts x wish ≡ Ok new
    → is_among (Cancelled ∷ NotSupplied ∷ Returned ∷ []) x.state ≡ true → new.state ≡ x.state
acts_final x new wish = of_acts (λ r. is_among (Cancelled ∷ NotSupplied ∷ Returned ∷ []) x.state ≡ true → r.state ≡ x.state) x new
    wish (λ row there how. how.final)

-- A wish in SHIPPED or later leads to SHIPPED or later.
pub acts_later : (x new : RequesterRecord) (wish : Wish) → acts x wish ≡ Ok new → is_among later x.state ≡ true
    → is_among later new.state ≡ true
acts_later x new wish = of_acts (λ r. is_among later x.state ≡ true → is_among later r.state ≡ true) x new wish
    (λ row there how. how.stays)

-- A wish does not change the due date.
pub acts_due : (x new : RequesterRecord) (wish : Wish) → acts x wish ≡ Ok new → new.due ≡ x.due
acts_due x new wish = of_acts (λ r. r.due ≡ x.due) x new wish (λ row there how. refl)

-- A wish adds no claim to a record.
pub acts_shows : (x new : RequesterRecord) (wish : Wish) (fact : Fact) → acts x wish ≡ Ok new → Claims new fact → Claims x fact
acts_shows x new wish fact = of_acts (λ r. Claims r fact → Claims x fact) x new wish (λ row there how. how.shows fact)

-- A Conditional-Reply that a wish issues answers the conditions held, which were not declined.
pub acts_reply : (x new : RequesterRecord) (wish : Wish) → acts x wish ≡ Ok new → Replies x new
acts_reply x new wish =
    of_acts (Replies x) x new wish (λ row there how a n is_yes same is.
    how.replies n is_yes (issued_body x.txn x.issued row.body a same ∙ is))

-- A wish preserves `AnswersOnce`, if conditions are held exactly in CONDITIONAL.
pub acts_once : (x new : RequesterRecord) (wish : Wish) → acts x wish ≡ Ok new
    → is_some x.held ≡ is_among (Conditional ∷ []) x.state → AnswersOnce x → AnswersOnce new
acts_once x new wish = of_acts (λ r. is_some x.held ≡ is_among (Conditional ∷ []) x.state → AnswersOnce x → AnswersOnce r) x new
    wish (λ row there how. how.once)

-- ---- deliveries

-- A message issues nothing.
pub takes_issue : (x : RequesterRecord) (a : Apdu) → (takes x a).1.issued ≡ x.issued
takes_issue x a = (delivery_row x a).issued

-- A message does not change the transaction.
pub takes_txn : (x : RequesterRecord) (a : Apdu) → (takes x a).1.txn ≡ x.txn
takes_txn x a = (delivery_row x a).txn

-- If a record satisfies the rules of a requester, so does the record after a message.
pub takes_kept : (x : RequesterRecord) (a : Apdu) → IsRequester x → IsRequester (takes x a).1
takes_kept x a h = is_requester _ ((delivery_row x a).kept (requester_rules x h))

-- A message that is not `Taken` changes nothing.
pub takes_quiet : (x : RequesterRecord) (a : Apdu) → ((takes x a).0 ≡ Ok Taken) ⊎ ((takes x a).1 ≡ x)
takes_quiet x a = (delivery_row x a).quiet

-- A message to a requester outside IDLE does not lead to IDLE.
pub takes_begun : (x : RequesterRecord) (a : Apdu) → is_among (Idle ∷ []) x.state ≡ false
    → is_among (Idle ∷ []) (takes x a).1.state ≡ false
takes_begun x a = (delivery_row x a).begun

-- A message does not change the states CANCELLED, NOT-SUPPLIED and RETURNED.
pub takes_final : (x : RequesterRecord) (a : Apdu) → is_among (Cancelled ∷ NotSupplied ∷ Returned ∷ []) x.state ≡ true
    → (takes x a).1.state ≡ x.state
takes_final x a = (delivery_row x a).final

-- A message in SHIPPED or later leads to SHIPPED or later.
pub takes_later : (x : RequesterRecord) (a : Apdu) → is_among later x.state ≡ true → is_among later (takes x a).1.state ≡ true
takes_later x a = (delivery_row x a).stays

-- If a due date is there exactly in SHIPPED or later, a message raises it or does not change it.
pub takes_due : (x : RequesterRecord) (a : Apdu) → is_some x.due ≡ is_among later x.state → KeepsDue x.due (takes x a).1.due
takes_due x a = (delivery_row x a).due

-- A message does not change the conditions held, or removes them, or is the ILL-Answer with the new ones.
pub takes_holds : (x : RequesterRecord) (a : Apdu) → Holds x a.number (takes x a).1
takes_holds x a = (delivery_row x a).holds

-- Each fact that a record claims after a message was claimed before, or the message is evidence of it.
pub takes_shows : (x : RequesterRecord) (a : Apdu) (fact : Fact) → Claims (takes x a).1 fact
    → Claims x fact ⊎ IsEvidence a.body fact
takes_shows x a evidence.Cancelled = (delivery_row x a).cancelled
takes_shows x a evidence.Ended = (delivery_row x a).ended
takes_shows x a (evidence.Granted due) = (delivery_row x a).granted due
takes_shows x a (evidence.Refused cancel) = (delivery_row x a).refused cancel
takes_shows x a evidence.GivenBack = (delivery_row x a).given_back

-- A message preserves `AnswersOnce`.
pub takes_once : (x : RequesterRecord) (a : Apdu) → AnswersOnce x → AnswersOnce (takes x a).1
takes_once x a = still_once x (takes x a).1 a.number (takes_issue x a) (takes_holds x a)
