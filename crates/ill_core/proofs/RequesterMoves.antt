-- Lists the changes that a message may make to a requester's record. Then it proves that each message makes one of
-- them.
use Rattle.std.proofs.Common.{rules, ◌≡◌, ℕ, Bool, true, false, not, ◌&&◌, [], ◌∷◌, Option, Some, None, Result, if◌then◌else◌}
use Rattle.std.proofs.Common.{refl}
use Rattle.std.proofs.lemmas.Bool.{and_parts, cond_both}
use Rattle.ill_values.specs.Day.{Date}
use Rattle.ill_values.specs.declared.apdu.Apdu.{Apdu}
use Rattle.ill_values.specs.Body.{Body}
use Rattle.ill_values.specs.declared.apdu.BodyWith.TheVariants as types
use Rattle.ill_values.specs.declared.apdu.AnswerResult.TheVariants as results
use Rattle.ill_core.specs.declared.state.State.TheVariants.{Pending, Conditional, CancelPending, Cancelled, NotSupplied, Shipped}
use Rattle.ill_core.specs.declared.state.State.TheVariants.{Received, RenewPending, Overdue, RenewOverdue, NotReceivedOverdue}
use Rattle.ill_core.specs.declared.state.State.TheVariants.{Recall, Returned}
use Rattle.ill_core.specs.declared.taking.Taking.{Taking}
use Rattle.ill_core.specs.declared.refusal.Refusal.{Refusal}
use Rattle.ill_core.specs.State.{is_among}
use Rattle.ill_core.specs.Numbers.{is_at_most, is_equal_number}
use Rattle.ill_values.specs.Bodies.{is_cancel, is_renew, is_requesters, is_unsupplied}
use Rattle.ill_core.specs.Dates.{is_after_due, is_due_on}
use Rattle.ill_core.specs.Issued.{first_refusal, is_message_with}
use Rattle.ill_core.specs.Answers.{unless_refused}
use Rattle.ill_core.specs.Requester.{RequesterRecord, later, accepted_number, last_cancel}
use Rattle.ill_core.specs.RequesterDeliveries.{take_message, takes, take_end, take_cancel_reply}
use Rattle.ill_core.specs.RequesterNotices.{is_awaiting_answer, undecided, lent}

-- A message with `number` and this body changes record `x` to this record by a row, or changes nothing. Each case has
-- the conditions of its row, the message, and the record after it.
pub data Leads (x : RequesterRecord) (number : ℕ) : Body → RequesterRecord → Type 0 where
  nowhere : (body : Body) → Leads x number body x
  holds_conditions : is_among (Pending ∷ []) x.state ≡ true
      → Leads x number (types.IllAnswer results.Conditional) (record x { state = Conditional; held = Some number })
  ends : (body : Body) → is_unsupplied body ≡ true → is_among undecided x.state ≡ true
      → Leads x number body (record x { state = NotSupplied; held = None })
  cancels : (cancel : ℕ) → is_among (CancelPending ∷ []) x.state ≡ true
      → Leads x number (types.CancelReply cancel true) (record x { state = Cancelled })
  keeps_request : (cancel : ℕ) → is_among (CancelPending ∷ []) x.state ≡ true
      → Leads x number (types.CancelReply cancel false) (record x { state = Pending })
  ships : (due : Date) → is_among undecided x.state ≡ true
      → Leads x number (types.Shipped due) (record x { state = Shipped; due = Some due; held = None })
  misses : (due : Date) → is_among (Shipped ∷ []) x.state ≡ true → is_due_on due x.due ≡ true
      → Leads x number (types.Overdue due) (record x { state = NotReceivedOverdue })
  reminds : (due : Date) → is_among (Received ∷ []) x.state ≡ true → is_due_on due x.due ≡ true
      → Leads x number (types.Overdue due) (record x { state = Overdue })
  reminds_renewing : (due : Date) → is_among (RenewPending ∷ []) x.state ≡ true → is_due_on due x.due ≡ true
      → Leads x number (types.Overdue due) (record x { state = RenewOverdue })
  renews : (renew : ℕ) (due : Date) → is_awaiting_answer x renew ≡ true → is_after_due due x.due ≡ true
      → Leads x number (types.RenewAnswer renew (Some due)) (record x { state = Received; due = Some due })
  refuses_renewal : (renew : ℕ) → is_awaiting_answer x renew ≡ true
      → Leads x number (types.RenewAnswer renew None)
      (record x { state = (if is_among (RenewPending ∷ []) x.state then Received else Overdue) })
  recalls : is_among lent x.state ≡ true → Leads x number types.Recall (record x { state = Recall })
  checks_in : is_among (Returned ∷ []) x.state ≡ true → Leads x number types.CheckedIn (record x { checked_in = true })

-- A choice by the test `fits` satisfies `Leads`, if `here` does when `fits` is true, and else `others`.
transition : (x : RequesterRecord) (number : ℕ) (body : Body) (fits : Bool)
    (here others : Result Taking Refusal × RequesterRecord)
    → (fits ≡ true → Leads x number body here.1) → (fits ≡ false → Leads x number body others.1)
    → Leads x number body (if fits then here else others).1
transition x number body fits here others = cond_both fits here others (λ r. Leads x number body r.1)

-- A message that ends the request leads to NOT-SUPPLIED, or changes nothing.
end_leads : (x : RequesterRecord) (number : ℕ) (body : Body) → is_unsupplied body ≡ true → Leads x number body (take_end x).1
end_leads x number body is =
    transition x number _ (is_among (NotSupplied ∷ []) x.state) _ _ (λ _. nowhere body) (λ _.
    transition x number _ (is_among undecided x.state) _ _ (ends body is) (λ _. nowhere body))

-- If the decision of a Cancel-Reply satisfies `Leads` in CANCEL-PENDING, its answer satisfies `Leads` in each state.
cancel_reply_leads : (x : RequesterRecord) (number cancel : ℕ) (is_yes : Bool)
    → (is_among (CancelPending ∷ []) x.state ≡ true
    → Leads x number (types.CancelReply cancel is_yes) (record x { state = (if is_yes then Cancelled else Pending) }))
    → Leads x number (types.CancelReply cancel is_yes) (take_cancel_reply x cancel is_yes).1
cancel_reply_leads x number cancel is_yes decided =
    transition x number _ (is_among (CancelPending ∷ []) x.state && is_equal_number cancel (last_cancel x)) _ _
    (λ is. decided (and_parts _ _ is).0) (λ _.
    transition x number _ (is_among (Cancelled ∷ []) x.state && (is_yes && is_equal_number cancel (last_cancel x))) _ _
    (λ _. nowhere _)
    (λ _.
    transition x number _ (is_message_with is_cancel x.issued cancel) _ _ (λ _. nowhere _) (λ _. nowhere _)))

-- In SHIPPED or later, an Overdue that is not stale is for the due date.
due_now : (x : RequesterRecord) (due : Date) → is_among later x.state ≡ true
    → is_among later x.state && not (is_due_on due x.due) ≡ false → is_due_on due x.due ≡ true
due_now x due is_later stale_not = search rules

-- The record after an admitted APDU satisfies `Leads`. Each case follows the tests of `take_message`, one by one.
message_leads : (x : RequesterRecord) (a : Apdu) (body : Body) → Leads x a.number body (take_message x a body).1
message_leads x a (types.IllAnswer results.Conditional) =
    transition x a.number _ (is_at_most a.number (accepted_number x)) _ _ (λ _. nowhere _) (λ _.
    transition x a.number _ (is_among (Conditional ∷ []) x.state && is_equal_number a.number x.held) _ _ (λ _. nowhere _) (λ _.
    transition x a.number _ (is_among (Pending ∷ []) x.state) _ _ holds_conditions (λ _. nowhere _)))
message_leads x a (types.IllAnswer results.WillSupply) =
    transition x a.number _ (is_among (Pending ∷ []) x.state) _ _ (λ _. nowhere _) (λ _. nowhere _)
message_leads x a (types.IllAnswer results.HoldPlaced) =
    transition x a.number _ (is_among (Pending ∷ []) x.state) _ _ (λ _. nowhere _) (λ _. nowhere _)
message_leads x a (types.IllAnswer other) = end_leads x a.number _ refl
message_leads x a types.Expired = end_leads x a.number _ refl
message_leads x a (types.CancelReply cancel true) = cancel_reply_leads x a.number cancel true (cancels cancel)
message_leads x a (types.CancelReply cancel false) = cancel_reply_leads x a.number cancel false (keeps_request cancel)
message_leads x a (types.Shipped due) =
    transition x a.number _ (is_among undecided x.state) _ _ (ships due) (λ _.
    transition x a.number _ (is_among later x.state) _ _ (λ _. nowhere _) (λ _. nowhere _))
message_leads x a (types.Overdue due) =
    transition x a.number _ (is_among later x.state && not (is_due_on due x.due)) _ _ (λ _. nowhere _) (λ stale_not.
    transition x a.number _ (is_among (Shipped ∷ []) x.state) _ _ (λ is. misses due is (due_now x due (search rules) stale_not))
    (λ _.
    transition x a.number _ (is_among (Received ∷ []) x.state) _ _ (λ is. reminds due is (due_now x due (search rules) stale_not))
    (λ _.
    transition x a.number _ (is_among (RenewPending ∷ []) x.state) _ _
    (λ is. reminds_renewing due is (due_now x due (search rules) stale_not)) (λ _.
    transition x a.number _ (is_among (NotReceivedOverdue ∷ Overdue ∷ RenewOverdue ∷ []) x.state) _ _ (λ _. nowhere _)
    (λ _. nowhere _)))))
message_leads x a (types.RenewAnswer renew (Some due)) =
    transition x a.number _ (is_awaiting_answer x renew) _ _ (λ waits.
    transition x a.number _ (is_after_due due x.due) _ _ (renews renew due waits) (λ _. nowhere _)) (λ _.
    transition x a.number _ (is_message_with is_renew x.issued renew) _ _ (λ _. nowhere _) (λ _. nowhere _))
message_leads x a (types.RenewAnswer renew None) =
    transition x a.number _ (is_awaiting_answer x renew) _ _ (refuses_renewal renew) (λ _.
    transition x a.number _ (is_message_with is_renew x.issued renew) _ _ (λ _. nowhere _) (λ _. nowhere _))
message_leads x a types.Recall =
    transition x a.number _ (is_among lent x.state) _ _ recalls (λ _.
    transition x a.number _ (is_among (Recall ∷ []) x.state) _ _ (λ _. nowhere _) (λ _. nowhere _))
message_leads x a types.CheckedIn =
    transition x a.number _ (is_among (Returned ∷ []) x.state && not x.checked_in) _ _ (λ is. checks_in (and_parts _ _ is).0)
    (λ _.
    transition x a.number _ (is_among (Returned ∷ []) x.state) _ _ (λ _. nowhere _) (λ _. nowhere _))
message_leads x a other = nowhere _

-- If the record after `answer` satisfies `Leads`, so does the record after an answer that may be a refusal. A refusal
-- changes nothing.
admitted : (x : RequesterRecord) (number : ℕ) (body : Body) (refused : Option Refusal)
    (answer : Result Taking Refusal × RequesterRecord)
    → Leads x number body answer.1 → Leads x number body (unless_refused refused x answer).1
admitted x number body None answer leads = leads
admitted x number body (Some refusal) answer leads = nowhere body

-- The record after each APDU satisfies `Leads`.
pub delivery_leads : (x : RequesterRecord) (a : Apdu) → Leads x a.number a.body (takes x a).1
delivery_leads x a = admitted x a.number a.body (first_refusal x.txn (is_requesters a.body) a) (take_message x a a.body)
    (message_leads x a a.body)
