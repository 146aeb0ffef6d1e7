-- In a world that satisfies the invariant, no event has the refusal WrongRole or OutOfMemory as its outcome. The other
-- refusals can be an outcome (`can_refuse`).
use Rattle.std.proofs.Common.{rules, ◌≡◌, ℕ, zero, suc, Bool, true, false, cond, not, List, [], ◌∷◌, Option, Some, None, Result}
use Rattle.std.proofs.Common.{Ok, Err, refl, subst}
use Rattle.std.specs.List.{list_all}
use Rattle.std.proofs.lemmas.Bool.{and_parts}
use Rattle.ill_values.specs.Day.{Date}
use Rattle.ill_values.specs.TxnId.{Qualifiers}
use Rattle.ill_values.specs.declared.apdu.Apdu.{Apdu}
use Rattle.ill_values.specs.Body.{Body}
use Rattle.ill_values.specs.declared.apdu.BodyWith.TheVariants as types
use Rattle.ill_values.specs.declared.apdu.AnswerResult.TheVariants as results
use Rattle.ill_der.specs.declared.fault.DerFault.{DerFault}
use Rattle.ill_der.specs.ShortForm.{apdu_at}
use Rattle.ill_core.specs.declared.state.State.TheVariants.{InProcess}
use Rattle.ill_core.specs.Numbers.{is_equal_number}
use Rattle.ill_core.specs.declared.refusal.Refusal.{Refusal}
use Rattle.ill_core.specs.declared.refusal.Refusal.TheVariants.{OtherTransaction, WrongRole}
use Rattle.ill_core.specs.declared.taking.Taking.{Taking}
use Rattle.ill_core.specs.declared.requester.Wish.{Wish}
use Rattle.ill_core.specs.declared.requester.Wish.TheVariants as wishes
use Rattle.ill_core.specs.declared.responder.Deed.{Deed}
use Rattle.ill_core.specs.declared.responder.Deed.TheVariants as deeds
use Rattle.ill_core.specs.Answers.{unless_refused, taken, repeat, stale, conflict}
use Rattle.ill_values.specs.Bodies.{is_requesters, names_conditions}
use Rattle.ill_core.specs.Issued.{message, is_message_with, next_number, is_same_txn}
use Rattle.ill_core.specs.Requester.{RequesterRecord}
use Rattle.ill_core.specs.RequesterActions as requester_actions
use Rattle.ill_core.specs.RequesterDeliveries as requester_deliveries
use Rattle.ill_core.specs.Responder.{ResponderRecord, outstanding_number}
use Rattle.ill_core.specs.ResponderActions as responder_actions
use Rattle.ill_core.specs.ResponderDeliveries as responder_deliveries
use Rattle.ill_record.specs.declared.side.Side.{Side}
use Rattle.ill_record.specs.declared.side.Side.TheVariants as sides
use Rattle.ill_record.specs.declared.side.Action.TheVariants as actions
use Rattle.ill_record.specs.Side.{issued_of, acts, takes, txn_of, done_by}
use Rattle.ill_record.specs.declared.role.Role.TheVariants as who
use Rattle.ill_world.specs.declared.event.Event.{Event}
use Rattle.ill_world.specs.declared.event.Event.TheVariants as events
use Rattle.ill_words.specs.declared.outcome.Outcome.{Outcome}
use Rattle.ill_words.specs.declared.outcome.Outcome.TheVariants.{Forged, Refused}
use Rattle.ill_world.specs.World.{Party, Parties, party, sent_message, decides, sends, answer_to, receives, hears, happens}
use Rattle.ill_world.specs.Changes.{can_refuse, can_be_seen}
use Rattle.ill_world.specs.Invariant.{RequesterSideInvariant, ResponderSideInvariant, Invariant}

-- ---- the tables of actions

-- Returns true unless the result is a refusal that cannot be an outcome.
abbrev is_seen : {V : Type 0} → Result V Refusal → Bool
is_seen (Ok v) = true
is_seen (Err refusal) = can_refuse refusal

-- The row of a wish gives only refusals that can be an outcome.
wish_line : (x : RequesterRecord) (wish : Wish) → is_seen (requester_actions.transition_of x wish) ≡ true
wish_line x (wishes.Request expiry item) = search rules
wish_line x wish = search rules

-- The row of a deed gives only refusals that can be an outcome.
deed_line : (y : ResponderRecord) (deed : Deed) (today : Date) → is_seen (responder_actions.transition_of y deed today) ≡ true
deed_line y (deeds.RenewAnswer None) today = search rules
deed_line y (deeds.RenewAnswer (Some d)) today = search rules
deed_line y deed today = search rules

-- The next number gives only refusals that can be an outcome.
number_seen : (apdus : List Apdu) → is_seen (next_number apdus) ≡ true
number_seen apdus = search rules

-- If the row and the number give only refusals that can be an outcome, the wish gives only such refusals.
wish_done : (x : RequesterRecord) (line : Result requester_actions.Transition Refusal) (number : Result ℕ Refusal)
    → is_seen line ≡ true
    → is_seen number ≡ true → is_seen (requester_actions.acts_by x line number) ≡ true
wish_done x (Err refusal) number first second = first
wish_done x (Ok line) (Err refusal) first second = second
wish_done x (Ok line) (Ok number) first second = refl

-- If the row and the number give only refusals that can be an outcome, the deed gives only such refusals.
deed_done : (y : ResponderRecord) (line : Result responder_actions.Transition Refusal) (number : Result ℕ Refusal)
    → is_seen line ≡ true
    → is_seen number ≡ true → is_seen (responder_actions.acts_by y line number) ≡ true
deed_done y (Err refusal) number first second = first
deed_done y (Ok line) (Err refusal) first second = second
deed_done y (Ok line) (Ok number) first second = refl

-- ---- messages

-- A requester refuses a message only with a refusal that can be an outcome.
requester_answer : (x : RequesterRecord) (a : Apdu) (body : Body) → is_seen (requester_deliveries.take_message x a body).0 ≡ true
requester_answer x a (types.IllAnswer results.Conditional) = search rules
requester_answer x a (types.IllAnswer answer) = search rules
requester_answer x a (types.RenewAnswer c None) = search rules
requester_answer x a (types.RenewAnswer c (Some d)) = search rules
requester_answer x a body = search rules

-- If the refusal of the number can be an outcome, so can the refusal of a Conditional-Reply no.
no_answer : (y : ResponderRecord) (number : Result ℕ Refusal) → is_seen number ≡ true
    → is_seen (responder_deliveries.answers_no y number).0 ≡ true
no_answer y (Ok number) seen = refl
no_answer y (Err refusal) seen = seen

-- The answer to a Conditional-Reply yes can be an outcome.
yes_answer : (waits held named : Bool) (y new : ResponderRecord)
    → is_seen (cond waits (taken new) (cond held (repeat y) (cond named (stale y) (conflict y.state y)))).0 ≡ true
yes_answer true held named y new = refl
yes_answer false true named y new = refl
yes_answer false false true y new = refl
yes_answer false false false y new = refl

-- A responder refuses a message only with a refusal that can be an outcome.
responder_answer : (y : ResponderRecord) (a : Apdu) (body : Body) → is_seen (responder_deliveries.take_message y a body).0 ≡ true
responder_answer y a (types.ConditionalReply c true) =
    yes_answer (is_equal_number c (outstanding_number y)) (is_equal_number c y.accepted)
    (is_message_with names_conditions y.issued c) y
    (record y { state = InProcess; accepted = Some c })
responder_answer y a (types.ConditionalReply c false) = search (rules, no_answer y (next_number y.issued) (number_seen y.issued))
responder_answer y a body = search rules

-- If `answer` can be an outcome, so can the answer to a message that the role does not issue itself.
not_own : {R : Type 0} (same own : Bool) (old : R) (answer : Result Taking Refusal × R) → own ≡ false → is_seen answer.0 ≡ true
    → is_seen (unless_refused (cond same (cond own (Some WrongRole) None) (Some OtherTransaction)) old answer).0 ≡ true
not_own true true old answer others seen = search rules
not_own true false old answer others seen = seen
not_own false own old answer others seen = refl

-- ---- sides

-- If the refusal of a record can be an outcome, so can the refusal of its side.
done_seen : {R : Type 0} (make : R → Side) (result : Result R Refusal) → is_seen result ≡ true
    → is_seen (done_by make result) ≡ true
done_seen make (Ok new) seen = refl
done_seen make (Err refusal) seen = seen

-- A requester's side refuses a wish only with a refusal that can be an outcome.
wish_seen : (txn : Qualifiers) (side : Side) (partner_sent : List (Option Apdu)) (wish : Wish)
    → RequesterSideInvariant txn side partner_sent → is_seen (acts side (actions.Wish wish)) ≡ true
wish_seen txn (sides.Requester x) partner_sent wish stands =
    done_seen sides.Requester (requester_actions.acts x wish) (wish_done x _ _ (wish_line x wish) (number_seen x.issued))
wish_seen txn (sides.Responder y) partner_sent wish stands = absurd stands

-- A responder's side refuses a deed only with a refusal that can be an outcome.
deed_seen : (txn : Qualifiers) (side : Side) (partner_sent : List (Option Apdu)) (deed : Deed) (today : Date)
    → ResponderSideInvariant txn side partner_sent → is_seen (acts side (actions.Deed deed today)) ≡ true
deed_seen txn (sides.Responder y) partner_sent deed today stands =
    done_seen sides.Responder (responder_actions.acts y deed today)
    (deed_done y _ _ (deed_line y deed today) (number_seen y.issued))
deed_seen txn (sides.Requester x) partner_sent deed today stands = absurd stands

-- If all APDUs of a list pass a test, message n passes it.
message_passes : (test : Apdu → Bool) (apdus : List Apdu) (n : ℕ) (a : Apdu) → message apdus n ≡ Some a
    → list_all test apdus ≡ true → test a ≡ true
message_passes test apdus zero a at all = search rules
message_passes test [] (suc n) a at all = search rules
message_passes test (b ∷ apdus) (suc zero) a at all = let same : b ≡ a = search rules in
    subst (λ x. test x ≡ true) same (and_parts (test b) (list_all test apdus) all).0
message_passes test (b ∷ apdus) (suc (suc n)) a at all =
    message_passes test apdus (suc n) a at (and_parts (test b) (list_all test apdus) all).1

-- If `not b` is true, b is false.
opposite : (b : Bool) → not b ≡ true → b ≡ false
opposite false is = refl
opposite true is = search rules

-- If b is true, `not b` is false.
negated : (b : Bool) → b ≡ true → not b ≡ false
negated true is = refl
negated false is = search rules

-- Each message that a responder's side has issued is of a type that no requester issues.
pub responders_own : (txn : Qualifiers) (side : Side) (partner_sent : List (Option Apdu)) (n : ℕ) (a : Apdu)
    → ResponderSideInvariant txn side partner_sent → message (issued_of side) n ≡ Some a → is_requesters a.body ≡ false
responders_own txn (sides.Responder y) partner_sent n a stands at =
    opposite (is_requesters a.body) (message_passes (λ a. not (is_requesters a.body)) y.issued n a at stands.rules.role)
responders_own txn (sides.Requester x) partner_sent n a stands at = absurd stands

-- Each message that a requester's side has issued is of a requester's type.
pub requesters_own : (txn : Qualifiers) (side : Side) (partner_sent : List (Option Apdu)) (n : ℕ) (a : Apdu)
    → RequesterSideInvariant txn side partner_sent → message (issued_of side) n ≡ Some a → is_requesters a.body ≡ true
requesters_own txn (sides.Requester x) partner_sent n a stands at =
    message_passes (λ a. is_requesters a.body) x.issued n a at stands.rules.role
requesters_own txn (sides.Responder y) partner_sent n a stands at = absurd stands

-- The answer of a requester's side to a responder's message can be an outcome.
asking_seen : (txn : Qualifiers) (side : Side) (partner_sent : List (Option Apdu)) (a : Apdu)
    → RequesterSideInvariant txn side partner_sent → is_requesters a.body ≡ false → is_seen (takes side a).0 ≡ true
asking_seen txn (sides.Requester x) partner_sent a stands others =
    not_own (is_same_txn a.txn x.txn) (is_requesters a.body) x _ others (requester_answer x a a.body)
asking_seen txn (sides.Responder y) partner_sent a stands others = absurd stands

-- The answer of a responder's side to a requester's message can be an outcome.
asked_seen : (txn : Qualifiers) (side : Side) (partner_sent : List (Option Apdu)) (a : Apdu)
    → ResponderSideInvariant txn side partner_sent → is_requesters a.body ≡ true → is_seen (takes side a).0 ≡ true
asked_seen txn (sides.Responder y) partner_sent a stands others =
    not_own (is_same_txn a.txn y.txn) (not (is_requesters a.body)) y _ (negated (is_requesters a.body) others)
    (responder_answer y a a.body)
asked_seen txn (sides.Requester x) partner_sent a stands others = absurd stands

-- ---- events

-- If the refusal of a decision can be an outcome, `can_be_seen` holds of the decision's outcome.
decision_seen : (p : Party) (result : Result Side Refusal) → is_seen result ≡ true → can_be_seen (decides p result).0 ≡ true
decision_seen p (Ok new) seen = refl
decision_seen p (Err refusal) seen = seen

-- If the refusal of a message can be an outcome, `can_be_seen` holds of the delivery's outcome.
answer_seen : (answer : Result Taking Refusal) → is_seen answer ≡ true → can_be_seen (answer_to answer) ≡ true
answer_seen (Ok did) seen = refl
answer_seen (Err refusal) seen = seen

-- `can_be_seen` holds of the outcome of a Send.
send_seen : (p : Party) (n : ℕ) (found : Option Apdu) (released : Bool) → can_be_seen (sends p n found released).0 ≡ true
send_seen p n None released = refl
send_seen p n (Some a) true = refl
send_seen p n (Some a) false = refl

-- If `can_be_seen` holds of two outcomes, it holds of the selected one.
one_of_two : (b : Bool) (first second : Outcome) → can_be_seen first ≡ true → can_be_seen second ≡ true
    → can_be_seen (cond b first second) ≡ true
one_of_two true first second this that = this
one_of_two false first second this that = that

-- `can_be_seen` holds of the outcome of noise.
noise_seen : (p : Party) (found : Result (Apdu × List ℕ) DerFault) → can_be_seen (hears p found) ≡ true
noise_seen p (Ok (a, [])) = one_of_two (is_same_txn a.txn (txn_of p.live)) Forged (Refused OtherTransaction) refl refl
noise_seen p (Ok (a, byte ∷ rest)) = refl
noise_seen p (Err fault) = refl

-- `can_be_seen` holds of the outcome of a delivery to the requester.
asking_receives : (txn : Qualifiers) (w : Parties) (n : ℕ) (found : Option Apdu) → Invariant txn w
    → sent_message w.responder.sent n ≡ found → can_be_seen (receives w.requester found).0 ≡ true
asking_receives txn w n None stands e = refl
asking_receives txn w n (Some a) stands e =
    answer_seen (takes w.requester.live a).0
    (asking_seen txn w.requester.live w.responder.sent a stands.requester.live
    (responders_own txn w.responder.committed w.requester.sent n a stands.responder.committed
    (stands.responder.saved.committed n a e)))

-- `can_be_seen` holds of the outcome of a delivery to the responder.
asked_receives : (txn : Qualifiers) (w : Parties) (n : ℕ) (found : Option Apdu) → Invariant txn w
    → sent_message w.requester.sent n ≡ found → can_be_seen (receives w.responder found).0 ≡ true
asked_receives txn w n None stands e = refl
asked_receives txn w n (Some a) stands e =
    answer_seen (takes w.responder.live a).0
    (asked_seen txn w.responder.live w.requester.sent a stands.responder.live
    (requesters_own txn w.requester.committed w.responder.sent n a stands.requester.committed
    (stands.requester.saved.committed n a e)))

-- `can_be_seen` holds of the outcome of each event.
pub outcome_seen : (txn : Qualifiers) (w : Parties) (event : Event) → Invariant txn w → can_be_seen (happens w event).0 ≡ true
outcome_seen txn w (events.Wish wish) stands =
    decision_seen w.requester (acts w.requester.live (actions.Wish wish))
    (wish_seen txn w.requester.live w.responder.sent wish stands.requester.live)
outcome_seen txn w (events.Deed deed today) stands =
    decision_seen w.responder (acts w.responder.live (actions.Deed deed today))
    (deed_seen txn w.responder.live w.requester.sent deed today stands.responder.live)
outcome_seen txn w (events.Save of) stands = refl
outcome_seen txn w (events.SaveFault of committed) stands = refl
outcome_seen txn w (events.Send of n) stands = send_seen (party w of) n _ _
outcome_seen txn w (events.Deliver who.Requester n) stands = asking_receives txn w n (sent_message w.responder.sent n) stands refl
outcome_seen txn w (events.Deliver who.Responder n) stands = asked_receives txn w n (sent_message w.requester.sent n) stands refl
outcome_seen txn w (events.Noise of bytes) stands = noise_seen (party w of) (apdu_at bytes)
outcome_seen txn w (events.Restart of) stands = refl
