-- Defines the facts that a responder's record claims, and the requester's APDUs that are evidence of them (this
-- profile's own). Then it defines the properties that the responder's rows satisfy.
use Rattle.std.specs.Prelude.{◌≡◌, ◌⊎◌, ℕ, Bool, true, false, ◌&&◌, ◌||◌, ◌==◌, List, [], ◌∷◌, ◌++◌, Option, Some, None, Result}
use Rattle.std.specs.Prelude.{Ok, if◌then◌else◌}
use Rattle.std.specs.List.{list_all, filter_map, count_by}
use Rattle.std.specs.Option.{unwrap_or}
use Rattle.ill_values.specs.declared.apdu.Apdu.{Apdu}
use Rattle.ill_values.specs.Body.{Body}
use Rattle.ill_values.specs.declared.apdu.BodyWith.TheVariants as types
use Rattle.ill_values.specs.declared.apdu.AnswerResult.TheVariants.{Unfilled}
use Rattle.ill_core.specs.declared.state.State.{State}
use Rattle.ill_core.specs.declared.state.State.TheVariants.{Idle, InProcess, Conditional, CancelPending, Cancelled, NotSupplied}
use Rattle.ill_core.specs.declared.state.State.TheVariants.{RenewPending, RenewOverdue, Returned, CheckedIn}
use Rattle.ill_core.specs.declared.refusal.Refusal.{Refusal}
use Rattle.ill_core.specs.declared.taking.Taking.{Taking}
use Rattle.ill_core.specs.declared.taking.Taking.TheVariants.{Taken, Repeat}
use Rattle.ill_core.specs.State.{is_among}
use Rattle.ill_core.specs.Numbers.{is_at_most, is_below, are_distinct}
use Rattle.ill_values.specs.Bodies.{is_shipped, is_cancel, is_renew, declines}
pub use Rattle.ill_values.specs.Bodies.{is_unsupplied, is_cancelled, is_end}
use Rattle.ill_core.specs.Issued.{has_message_with, with_next}
use Rattle.ill_core.specs.Responder.{ResponderRecord, later}

-- A fact of which a message of the requester may be evidence.
pub data Fact : Type 0 where
  Requested : Fact  -- The requester asked for the item.
  Accepted : (conditions : ℕ) → Fact  -- The requester accepted the conditions with number `conditions`.
  CancelAsked : (cancel : ℕ) → Fact  -- The requester issued a Cancel with number `cancel`.
  Arrived : Fact  -- The requester has the item.
  SentBack : Fact  -- The requester has sent the item back.

-- Returns true if the APDU is a Cancel-Reply yes to Cancel `n`.
abbrev pub is_yes_to_cancel : ℕ → Body → Bool
is_yes_to_cancel n (types.CancelReply c true) = c == n
is_yes_to_cancel n other = false

-- The record `y` claims the fact.
abbrev pub Claims : ResponderRecord → Fact → Type 0
Claims y Requested = is_among (Idle ∷ []) y.state ≡ false
Claims y (Accepted conditions) = y.accepted ≡ Some conditions
Claims y (CancelAsked cancel) = (y.last_cancel ≡ Some cancel) ⊎ (has_message_with (is_yes_to_cancel cancel) y.issued ≡ true)
Claims y Arrived = y.received ≡ true
Claims y SentBack = is_among (Returned ∷ CheckedIn ∷ []) y.state ≡ true

-- An APDU with this number and body is evidence of the fact.
abbrev pub IsEvidence : ℕ → Body → Fact → Type 0
IsEvidence number (types.IllRequest expiry item) Requested = Unit {0}
IsEvidence number (types.ConditionalReply c true) (Accepted conditions) = c ≡ conditions
IsEvidence number types.Cancel (CancelAsked cancel) = number ≡ cancel
IsEvidence number types.Received Arrived = Unit {0}
IsEvidence number types.Returned SentBack = Unit {0}
IsEvidence number other fact = ⊥

-- If `y` is not in IDLE, `new` is not in IDLE either, and has the request of `y`.
abbrev pub KeepsRequest : ResponderRecord → ResponderRecord → Type 0
KeepsRequest y new =
    is_among (Idle ∷ []) y.state ≡ false →
    (is_among (Idle ∷ []) new.state ≡ false) × (new.request ≡ y.request)

-- A message with `body` changes `y` to `new`, and issues nothing. Only a Conditional-Reply no may issue one ILL-Answer
-- unfilled.
abbrev pub IssuesUnfilled : ResponderRecord → Body → ResponderRecord → Type 0
IssuesUnfilled y body new =
    (new.issued ≡ y.issued) ⊎ ((declines body ≡ true)
    × (new.issued ≡ with_next y.txn y.issued (types.IllAnswer Unfilled)))

-- If `y` is in SHIPPED or later, `new` is in SHIPPED or later. If `y` is in RETURNED, `new` is in RETURNED or
-- CHECKED-IN.
abbrev pub StaysLater : ResponderRecord → ResponderRecord → Type 0
StaysLater y new =
    (is_among later y.state ≡ true → is_among later new.state ≡ true)
    × (is_among (Returned ∷ []) y.state ≡ true →
    is_among (Returned ∷ CheckedIn ∷ []) new.state ≡ true)

-- Lists the states after a message that ends the request.
abbrev pub ended : List State
ended = NotSupplied ∷ Cancelled ∷ later

-- Returns true if `body` ends the request, and `state` is a state to which it leads.
abbrev pub ends_in : Body → State → Bool
ends_in body state =
    (is_unsupplied body && is_among (NotSupplied ∷ []) state)
    || ((is_cancelled body && is_among (Cancelled ∷ []) state)
    || (is_shipped body && is_among later state))

-- If an APDU that ends the request is issued from `y` to `new`, the request was open in `y`. The state of `new` is one
-- to which this end leads.
abbrev pub Ends : ResponderRecord → ResponderRecord → Type 0
Ends y new =
    (a : Apdu) → new.issued ≡ y.issued ++ a ∷ [] → is_end a.body ≡ true
    → (is_among (InProcess ∷ Conditional ∷ CancelPending ∷ []) y.state ≡ true)
    × (ends_in a.body new.state ≡ true)

-- If `new` is in a state of `ended` and `y` is not, an APDU that leads there was issued.
abbrev pub EntersByEnd : ResponderRecord → ResponderRecord → Type 0
EntersByEnd y new =
    is_among ended new.state ≡ true
    → (is_among ended y.state ≡ true) ⊎ ((a : Apdu) × (new.issued ≡ y.issued ++ a ∷ [])
    × (ends_in a.body new.state ≡ true))

-- The responder has issued at most one APDU that ends the request, and the state agrees with it.
pub record EndsOnce (y : ResponderRecord) : Type 0 where
  pub unsupplied : has_message_with is_unsupplied y.issued ≡ is_among (NotSupplied ∷ []) y.state
  pub cancelled : has_message_with is_cancelled y.issued ≡ is_among (Cancelled ∷ []) y.state
  pub shipped : has_message_with is_shipped y.issued ≡ is_among later y.state
  pub once : count_by (λ a. is_end a.body) y.issued ≡ (if is_among ended y.state then 1 else 0)

-- A question that the requester asks and the responder answers with yes or no.
pub data Question : Type 0 where
  -- A Cancel asks this question, and a Cancel-Reply answers it.
  MayCancel : Question
  -- A Renew asks this question, and a Renew-Answer answers it.
  MayRenew : Question

-- Returns true if the APDU asks the question.
abbrev pub asks : Question → Body → Bool
asks MayCancel body = is_cancel body
asks MayRenew body = is_renew body

-- Returns the number of the question that an APDU answers, or `None`.
abbrev pub answered_number : Question → Body → Option ℕ
answered_number MayCancel (types.CancelReply c is_yes) = Some c
answered_number MayRenew (types.RenewAnswer c granted) = Some c
answered_number question other = None

-- Returns the number of the last Cancel or Renew taken, as `question` says, or `None`.
abbrev pub last_asked : Question → ResponderRecord → Option ℕ
last_asked MayCancel y = y.last_cancel
last_asked MayRenew y = y.last_renew

-- Returns true if the question waits for its answer in `state`.
abbrev pub is_question_open : Question → State → Bool
is_question_open MayCancel state = is_among (CancelPending ∷ []) state
is_question_open MayRenew state = is_among (RenewPending ∷ RenewOverdue ∷ []) state

-- A question that is answered from `y` to `new` waits in `y`, and waits no longer in `new`. The answer has the number
-- of the last question of this kind that was taken.
abbrev pub AnswersLast : Question → ResponderRecord → ResponderRecord → Type 0
AnswersLast question y new =
    (a : Apdu) (n : ℕ) → new.issued ≡ y.issued ++ a ∷ [] → answered_number question a.body ≡ Some n
    → (is_question_open question y.state ≡ true) × (is_question_open question new.state ≡ false)
    × (n ≡ unwrap_or (last_asked question y) 0)

-- The last Cancel or Renew, as `question` says, is unchanged. In `new` a question of this kind waits only if one waited
-- in `y`.
abbrev pub KeepsLast : Question → ResponderRecord → ResponderRecord → Type 0
KeepsLast question y new =
    (last_asked question new ≡ last_asked question y)
    × (is_question_open question new.state ≡ true → is_question_open question y.state ≡ true)

-- The APDU asks the question. Its number is not at most the last one in `y`, and is the last one in `new`.
abbrev pub TakesNew : Question → ℕ → Body → ResponderRecord → ResponderRecord → Type 0
TakesNew question number body y new =
    (asks question body ≡ true) × (is_at_most number (last_asked question y) ≡ false)
    × (last_asked question new ≡ Some number)

-- Returns the numbers of the questions that were answered, in the order of the answers.
abbrev pub answers_to : Question → List Apdu → List ℕ
answers_to question apdus = filter_map (λ a. answered_number question a.body) apdus

-- No number occurs twice in `answers`. Each is at most `last`, and below it while the last question waits.
pub record AnsweredOnce (answers : List ℕ) (last : Option ℕ) (is_waiting : Bool) : Type 0 where
  pub distinct : are_distinct answers ≡ true
  pub most : list_all (λ n. is_at_most n last) answers ≡ true
  pub below : is_waiting ≡ true → list_all (λ n. is_below n last) answers ≡ true

-- The responder has answered each Cancel or each Renew, as `question` says, at most once.
abbrev pub AnswersOnce : Question → ResponderRecord → Type 0
AnswersOnce question y =
    AnsweredOnce (answers_to question y.issued) (last_asked question y) (is_question_open question y.state)

-- The answer is `Taken` or `Repeat`, and the record after it is in one of `states`.
abbrev pub LeadsTo : List State → Result Taking Refusal × ResponderRecord → Type 0
LeadsTo states answer =
    ((answer.0 ≡ Ok Taken) ⊎ (answer.0 ≡ Ok Repeat)) × (is_among states answer.1.state ≡ true)
