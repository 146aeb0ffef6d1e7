-- Defines the facts that a requester's record claims, and the responder's APDUs that are evidence of them (this
-- profile's own).
use Rattle.std.specs.Prelude.{◌≡◌, ◌⊎◌, ℕ, Bool, true, false, ◌&&◌, List, [], ◌∷◌, ◌++◌, Option, Some, None, Result, Ok}
use Rattle.ill_values.specs.Day.{Date}
use Rattle.ill_values.specs.declared.apdu.Apdu.{Apdu}
use Rattle.ill_values.specs.Body.{Body}
use Rattle.ill_values.specs.declared.apdu.BodyWith.TheVariants as types
use Rattle.ill_core.specs.declared.state.State.TheVariants as states
use Rattle.ill_core.specs.State.{is_among}
use Rattle.ill_core.specs.Numbers.{is_equal_number, is_at_most, is_below, are_distinct}
use Rattle.ill_values.specs.Bodies.{is_cancel, declines, is_final}
use Rattle.ill_core.specs.Issued.{is_message_with, has_message_with}
use Rattle.ill_core.specs.Requester.{RequesterRecord, accepted_number, last_cancel, later}
use Rattle.ill_core.specs.Dates.{is_after_due}
use Rattle.ill_core.specs.declared.state.State.{State}
use Rattle.ill_core.specs.declared.refusal.Refusal.{Refusal}
use Rattle.ill_core.specs.declared.taking.Taking.{Taking}
use Rattle.ill_core.specs.declared.taking.Taking.TheVariants.{Taken, Repeat}
use Rattle.std.specs.Option.{unwrap_or}
use Rattle.std.specs.List.{list_all, filter_map}

-- A fact of which a message of the responder may be evidence.
pub data Fact : Type 0 where
  Cancelled : Fact  -- A Cancel was accepted.
  Ended : Fact  -- The item is not supplied.
  Granted : (due : Date) → Fact  -- The item may be kept until `due`.
  Refused : (cancel : ℕ) → Fact  -- The Cancel with number `cancel` was refused.
  GivenBack : Fact  -- The item is back at the responder.

-- Returns true if `c` is the last Cancel, and the state is CANCEL-PENDING or CANCELLED.
abbrev pub is_open : RequesterRecord → ℕ → Bool
is_open x c =
    is_among (states.CancelPending ∷ states.Cancelled ∷ []) x.state && is_equal_number c (last_cancel x)

-- The record `x` claims that the responder refused Cancel `c`. The requester issued `c`, `c` is not open, and the state
-- is neither NOT-SUPPLIED nor SHIPPED or later.
abbrev pub ClaimsRefusal : RequesterRecord → ℕ → Type 0
ClaimsRefusal x c =
    (is_message_with is_cancel x.issued c ≡ true) × (is_among (states.NotSupplied ∷ later) x.state ≡ false)
    × (is_open x c ≡ false)

-- The record `x` claims the fact.
abbrev pub Claims : RequesterRecord → Fact → Type 0
Claims x Cancelled = x.state ≡ states.Cancelled
Claims x Ended = x.state ≡ states.NotSupplied
Claims x (Granted due) = x.due ≡ Some due
Claims x (Refused cancel) = ClaimsRefusal x cancel
Claims x GivenBack = x.checked_in ≡ true

-- An APDU with this body is evidence of the fact.
abbrev pub IsEvidence : Body → Fact → Type 0
IsEvidence (types.CancelReply c true) Cancelled = Unit {0}
IsEvidence (types.IllAnswer answer) Ended = is_final answer ≡ true
IsEvidence types.Expired Ended = Unit {0}
IsEvidence (types.Shipped d) (Granted due) = d ≡ due
IsEvidence (types.RenewAnswer c (Some d)) (Granted due) = d ≡ due
IsEvidence (types.CancelReply c false) (Refused cancel) = c ≡ cancel
IsEvidence types.CheckedIn GivenBack = Unit {0}
IsEvidence other fact = ⊥

-- Returns true if both due dates are there, and the new one is after `old`.
abbrev pub is_raised : Option Date → Option Date → Bool
is_raised old None = false
is_raised old (Some d) = is_after_due d old

-- There was no due date, or the new one equals it, or is after it.
abbrev pub KeepsDue : Option Date → Option Date → Type 0
KeepsDue old new = (old ≡ None) ⊎ (new ≡ old) ⊎ (is_raised old new ≡ true)

-- The record `new` holds conditions `k`, and `x` did not. The state changed from PENDING to CONDITIONAL, and `k` is not
-- at most the accepted number.
abbrev pub HoldsNew : RequesterRecord → ℕ → RequesterRecord → Type 0
HoldsNew x k new =
    (x.state ≡ states.Pending) × (new.state ≡ states.Conditional) × (new.held ≡ Some k)
    × (is_at_most k (accepted_number x) ≡ false)

-- The record `new` holds the new conditions `k`, or has the conditions and the state of `x`. Otherwise `new` is outside
-- CONDITIONAL, and holds the conditions of `x` or none.
abbrev pub Holds : RequesterRecord → ℕ → RequesterRecord → Type 0
Holds x k new =
    ((new.held ≡ x.held) × ((new.state ≡ x.state)
    ⊎ (is_among (states.Conditional ∷ []) new.state ≡ false)))
    ⊎ ((new.held ≡ None) × (is_among (states.Conditional ∷ []) new.state ≡ false))
    ⊎ HoldsNew x k new

-- A Conditional-Reply that is issued from `x` to `new` answers the conditions held. The state of `x` was CONDITIONAL,
-- and no conditions had been declined.
abbrev pub Replies : RequesterRecord → RequesterRecord → Type 0
Replies x new =
    (a : Apdu) (n : ℕ) (is_yes : Bool) → new.issued ≡ x.issued ++ a ∷ [] →
    a.body ≡ types.ConditionalReply n is_yes
    → (is_among (states.Conditional ∷ []) x.state ≡ true) × (has_message_with declines x.issued ≡ false)
    × (n ≡ unwrap_or x.held 0)

-- The answer is `Taken` or `Repeat`, and the record after it is in one of `states`.
abbrev pub LeadsTo : List State → Result Taking Refusal × RequesterRecord → Type 0
LeadsTo states answer =
    ((answer.0 ≡ Ok Taken) ⊎ (answer.0 ≡ Ok Repeat)) × (is_among states answer.1.state ≡ true)

-- Returns the number of the conditions that a Conditional-Reply answers, and `None` for any other APDU.
abbrev pub replied_number : Body → Option ℕ
replied_number (types.ConditionalReply answers is_yes) = Some answers
replied_number other = None

-- Returns the numbers of the conditions that were answered, in the order of the answers.
abbrev pub replies : List Apdu → List ℕ
replies apdus = filter_map (λ a. replied_number a.body) apdus

-- The requester answers no conditions twice. If it has declined none, the answered numbers are at most the accepted
-- number. In CONDITIONAL they are then also below the held number.
pub record AnswersOnce (x : RequesterRecord) : Type 0 where
  pub distinct : are_distinct (replies x.issued) ≡ true
  pub above : has_message_with declines x.issued ≡ false →
      list_all (λ n. is_at_most n (accepted_number x)) (replies x.issued) ≡ true
  pub held : is_among (states.Conditional ∷ []) x.state ≡ true → has_message_with declines x.issued ≡ false →
      list_all (λ n. is_below n x.held) (replies x.issued) ≡ true
