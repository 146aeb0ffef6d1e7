-- Lists the transitions of a requester's table of actions, and proves that each wish has one of them.
use Rattle.std.proofs.Common.{◌≡◌, ℕ, true, false, not, ◌&&◌, List, [], ◌∷◌, Option, None, Ok}
use Rattle.std.specs.Option.{unwrap_or}
use Rattle.std.proofs.lemmas.Bool.{and_parts}
use Rattle.ill_values.specs.Day.{Date}
use Rattle.ill_values.specs.declared.apdu.BodyWith.TheVariants as types
use Rattle.ill_core.specs.declared.state.State.TheVariants.{Idle, Pending, Conditional, CancelPending, Shipped, Received}
use Rattle.ill_core.specs.declared.state.State.TheVariants.{RenewPending, Overdue, RenewOverdue, NotReceivedOverdue, Recall}
use Rattle.ill_core.specs.declared.state.State.TheVariants.{Returned}
use Rattle.ill_core.specs.declared.requester.Wish.{Wish}
use Rattle.ill_core.specs.declared.requester.Wish.TheVariants as wishes
use Rattle.ill_core.specs.State.{is_among}
use Rattle.ill_core.specs.Requester.{RequesterRecord, is_declined, is_received_by}
use Rattle.ill_core.specs.RequesterActions.{Transition, transition_of}
use Rattle.ill_core.proofs.TransitionLemmas.{at_transition, is_this, no_more}

-- The transition is one of those of a requester's wishes. Each has the states before, the state after, the APDU, and
-- the conditions held afterwards.
pub data IsTransition (x : RequesterRecord) : Transition → Type 0 where
  requests : (expiry : Option Date) (item : List ℕ) → is_among (Idle ∷ []) x.state ≡ true
      → IsTransition x (record { next = Pending; body = types.IllRequest expiry item; held = x.held })
  cancels : is_among (Pending ∷ []) x.state ≡ true
      → IsTransition x (record { next = CancelPending; body = types.Cancel; held = x.held })
  accepts : is_among (Conditional ∷ []) x.state ≡ true
      → IsTransition x (record { next = Pending; body = types.ConditionalReply (unwrap_or x.held 0) true; held = None })
  declines : is_among (Conditional ∷ []) x.state ≡ true
      → IsTransition x (record { next = Conditional; body = types.ConditionalReply (unwrap_or x.held 0) false; held = x.held })
  receives : is_among (Shipped ∷ []) x.state ≡ true
      → IsTransition x (record { next = Received; body = types.Received; held = x.held })
  receives_late : is_among (NotReceivedOverdue ∷ []) x.state ≡ true
      → IsTransition x (record { next = Overdue; body = types.Received; held = x.held })
  receives_recalled : is_among (Recall ∷ []) x.state ≡ true
      → IsTransition x (record { next = Recall; body = types.Received; held = x.held })
  renews : (wished : Option Date) → is_among (Received ∷ []) x.state ≡ true
      → IsTransition x (record { next = RenewPending; body = types.Renew wished; held = x.held })
  renews_late : (wished : Option Date) → is_among (Overdue ∷ []) x.state ≡ true
      → IsTransition x (record { next = RenewOverdue; body = types.Renew wished; held = x.held })
  returns : is_among (Received ∷ RenewPending ∷ Overdue ∷ RenewOverdue ∷ []) x.state ≡ true
      → IsTransition x (record { next = Returned; body = types.Returned; held = x.held })
  returns_recalled : is_among (Recall ∷ []) x.state ≡ true
      → IsTransition x (record { next = Returned; body = types.Returned; held = x.held })

-- The transition of each wish satisfies `IsTransition`. Each case follows the tests of `transition_of`, one by one.
pub is_transition : (x : RequesterRecord) (wish : Wish) (transition : Transition) → transition_of x wish ≡ Ok transition
    → IsTransition x transition
is_transition x (wishes.Request expiry item) transition =
    at_transition (IsTransition x) (is_among (Idle ∷ []) x.state) _ _ transition
    (λ is. is_this (IsTransition x) _ transition (requests expiry item is)) (no_more (IsTransition x) _ transition)
is_transition x wishes.Cancel transition =
    at_transition (IsTransition x) (is_among (Pending ∷ []) x.state) _ _ transition
    (λ is. is_this (IsTransition x) _ transition (cancels is)) (no_more (IsTransition x) _ transition)
is_transition x (wishes.Reply true) transition =
    at_transition (IsTransition x) (is_among (Conditional ∷ []) x.state && not (is_declined x)) _ _ transition
    (λ is. is_this (IsTransition x) _ transition (accepts (and_parts _ _ is).0)) (no_more (IsTransition x) _ transition)
is_transition x (wishes.Reply false) transition =
    at_transition (IsTransition x) (is_among (Conditional ∷ []) x.state && not (is_declined x)) _ _ transition
    (λ is. is_this (IsTransition x) _ transition (declines (and_parts _ _ is).0)) (no_more (IsTransition x) _ transition)
is_transition x wishes.Receive transition =
    at_transition (IsTransition x) (is_among (Shipped ∷ []) x.state) _ _ transition
    (λ is. is_this (IsTransition x) _ transition (receives is)) (
    at_transition (IsTransition x) (is_among (NotReceivedOverdue ∷ []) x.state) _ _ transition
    (λ is. is_this (IsTransition x) _ transition (receives_late is)) (
    at_transition (IsTransition x) (is_among (Recall ∷ []) x.state && not (is_received_by x)) _ _ transition
    (λ is. is_this (IsTransition x) _ transition (receives_recalled (and_parts _ _ is).0))
    (no_more (IsTransition x) _ transition)))
is_transition x (wishes.Renew wished) transition =
    at_transition (IsTransition x) (is_among (Received ∷ []) x.state) _ _ transition
    (λ is. is_this (IsTransition x) _ transition (renews wished is)) (
    at_transition (IsTransition x) (is_among (Overdue ∷ []) x.state) _ _ transition
    (λ is. is_this (IsTransition x) _ transition (renews_late wished is)) (no_more (IsTransition x) _ transition))
is_transition x wishes.Return transition =
    at_transition (IsTransition x) (is_among (Received ∷ RenewPending ∷ Overdue ∷ RenewOverdue ∷ []) x.state) _ _ transition
    (λ is. is_this (IsTransition x) _ transition (returns is)) (
    at_transition (IsTransition x) (is_among (Recall ∷ []) x.state && is_received_by x) _ _ transition
    (λ is. is_this (IsTransition x) _ transition (returns_recalled (and_parts _ _ is).0))
    (no_more (IsTransition x) _ transition))
