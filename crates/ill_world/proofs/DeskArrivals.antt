-- One arrival of the end of a request, or of a Returned, is enough at a desk too. For the desk holds the transaction of
-- this message.
use Rattle.std.proofs.Common.{rules, ◌≡◌, ℕ, nat_lt, length, zero, suc, Bool, true, false, ◌&&◌, not, List, [], ◌∷◌, Option, Some}
use Rattle.std.proofs.Common.{None, is_some, refl, sym, ap, ◌∙◌, subst, true≢false}
use Rattle.ill_values.specs.TxnId.{Qualifiers}
use Rattle.ill_values.specs.declared.apdu.Apdu.{Apdu}
use Rattle.ill_core.specs.declared.state.State.{State}
use Rattle.ill_core.specs.declared.state.State.TheVariants as states
use Rattle.ill_core.specs.State.{is_among}
use Rattle.ill_values.specs.Bodies.{is_ill_request, is_returned, is_shipped}
use Rattle.ill_core.specs.Issued.{message, has_message_with, is_none}
use Rattle.ill_core.specs.Rules.{implies}
use Rattle.ill_core.specs.ResponderEvidence as responder
use Rattle.ill_record.specs.declared.role.Role.{Role}
use Rattle.ill_record.specs.declared.role.Role.TheVariants as who
use Rattle.ill_record.specs.declared.side.Side.{Side}
use Rattle.ill_record.specs.declared.side.Side.TheVariants as sides
use Rattle.ill_record.specs.Side.{other, issued_of, idle_side}
use Rattle.ill_saved.specs.Holdings.{DeskEntry}
use Rattle.ill_saved.specs.ManySides.{held_for, found_or, idle_held, found_by, txn_held}
use Rattle.ill_record.proofs.Finding.{same_self}
use Rattle.ill_world.specs.declared.event.DeskEvent.{DeskEvent}
use Rattle.ill_world.specs.declared.event.DeskEvent.TheVariants as desk_events
use Rattle.ill_world.specs.declared.event.Event.{Event}
use Rattle.ill_world.specs.declared.event.Event.TheVariants as events
use Rattle.ill_words.specs.declared.outcome.Outcome.{Outcome}
use Rattle.ill_words.specs.declared.outcome.DeskOutcome.{DeskOutcome}
use Rattle.ill_words.specs.declared.outcome.DeskOutcome.TheVariants.{Plain, NoSuchTransaction, DeskFull}
use Rattle.ill_world.specs.World.{sent_message, party, Parties, happens}
use Rattle.ill_world.specs.Desks.{DeskParty, sent_for, DeskParties, plain, desks_happen, project, concerns, if_reached, IsSeenAs}
use Rattle.ill_world.specs.Agreement.{Settles, settled_by, Arrives}
use Rattle.ill_world.specs.Invariant.{RequesterSideInvariant, ResponderSideInvariant, Invariant}
use Rattle.ill_world.specs.DeskChanges.{IsPlain, Reaches, ReachesAt, ReachesSide}
use Rattle.ill_world.specs.DeskSafety.{DesksInvariant, SettlesAt, ArrivesAt}
use Rattle.ill_world.proofs.Claims.{AreIssued, has_issued, live_issues}
use Rattle.ill_world.proofs.Arrivals.{shipped_before}
use Rattle.ill_world.proofs.Agreements.{tells_requested}
use Rattle.ill_world.proofs.Desks.{EachProjects, same_plain}

-- ---- an issued message has a side

-- A list with an APDU of which `says` holds is not empty.
not_nothing : (says : _ → Bool) (apdus : List Apdu) → has_message_with says apdus ≡ true → apdus ≡ [] → ⊥
not_nothing says apdus is none = true≢false (sym is ∙ ap (has_message_with says) none)

-- If `idle` is true, and implies that a to d are false and `none` is true, `none` is true.
last_of_five : (idle a b c d none : Bool) → idle ≡ true
    → implies idle (not a && (not b && (not c && (not d && none)))) ≡ true → none ≡ true
last_of_five true false false false false none is empty = empty
last_of_five idle a b c d none is empty = search rules

-- An empty list has no message.
pub idle_issued : (apdus : List Apdu) (n : ℕ) (a : Apdu) → is_none apdus ≡ true → message apdus n ≡ Some a → ⊥
idle_issued [] zero a none at = true≢false (sym (ap is_some at))
idle_issued [] (suc n) a none at = search rules
idle_issued (b ∷ apdus) n a none at = true≢false (sym none)

-- If the responder has issued a message, the requester has issued one.
pub asked : (txn : Qualifiers) (x y : Side) (responder_sent requester_sent : List (Option Apdu)) (n : ℕ) (a : Apdu)
    → RequesterSideInvariant txn x responder_sent → ResponderSideInvariant txn y requester_sent
    → AreIssued requester_sent (issued_of x)
    → message (issued_of y) n ≡ Some a → issued_of x ≡ [] → ⊥
asked txn (sides.Requester x) (sides.Responder y) responder_sent requester_sent n a requester_stands responder_stands heeded at
    none =
    let known = responder_stands.knows responder.Requested (begun (is_among (states.Idle ∷ []) y.state) refl) in
    not_nothing is_ill_request x.issued
    (has_issued x.issued requester_sent is_ill_request known.0 heeded known.1
    (tells_requested known.0.number known.0.body known.2)) none
  where
    -- A responder that has issued a message is not in IDLE.
    begun : (idle : Bool) → is_among (states.Idle ∷ []) y.state ≡ idle → idle ≡ false
    begun false e = refl
    begun true e = absurd (idle_issued y.issued n a
        (last_of_five (is_among (states.Idle ∷ []) y.state) (is_some y.accepted) (is_some y.last_cancel) (is_some y.last_renew)
        y.received (is_none y.issued) e responder_stands.rules.parts.empty) at)
asked txn (sides.Responder x) y responder_sent requester_sent n a requester_stands responder_stands heeded at none =
    absurd requester_stands
asked txn (sides.Requester x) (sides.Requester y) responder_sent requester_sent n a requester_stands responder_stands heeded at
    none = absurd responder_stands

-- If the requester has issued a Returned, the responder has issued a message.
supplied : (txn : Qualifiers) (x y : Side) (responder_sent requester_sent : List (Option Apdu)) (n : ℕ) (a : Apdu)
    → RequesterSideInvariant txn x responder_sent → ResponderSideInvariant txn y requester_sent
    → AreIssued responder_sent (issued_of y)
    → message (issued_of x) n ≡ Some a → is_returned a.body ≡ true → issued_of y ≡ [] → ⊥
supplied txn (sides.Requester x) (sides.Responder y) responder_sent requester_sent n a requester_stands responder_stands issued at
    is none =
    not_nothing is_shipped y.issued
    (shipped_before txn x y responder_sent requester_sent n a requester_stands responder_stands issued at is) none
supplied txn (sides.Responder x) y responder_sent requester_sent n a requester_stands responder_stands issued at is none =
    absurd requester_stands
supplied txn (sides.Requester x) (sides.Requester y) responder_sent requester_sent n a requester_stands responder_stands issued at
    is none = absurd responder_stands

-- ---- a side that is held, and is reached

-- An idle side has issued nothing.
pub idle_issues : (role : Role) (txn : Qualifiers) → issued_of (idle_side role txn) ≡ []
idle_issues who.Requester txn = refl
idle_issues who.Responder txn = refl

-- If a side has issued a message, the desk holds it. So an event reaches it.
held_plainly : (may_begin : Bool) (p : DeskParty) (txn : Qualifiers) (found : Option DeskEntry) (outcome : DeskOutcome)
    → found_by txn_held txn p.live.held ≡ found → (issued_of (held_for txn p.live).side ≡ [] → ⊥)
    → ReachesAt may_begin p txn outcome → IsPlain outcome
held_plainly may_begin p txn (Some held) outcome e not_idle reaches =
    subst (λ o. Reaches may_begin (nat_lt (length p.live.held) 1000) o outcome) e reaches
held_plainly may_begin p txn None outcome e not_idle reaches =
    absurd (not_idle (ap (λ o. issued_of (found_or (idle_held p.live.role txn) o).side) e ∙ idle_issues p.live.role txn))

-- ---- deliveries at a desk

-- A delivery reaches its transaction, and `Settles` holds of the expected outcome and side. Then `SettlesAt` holds of
-- the outcome at the desks and the side in `new`.
settles_as : (among : List State) (own : Bool) (expected : Outcome × Parties) (old new : Parties) (outcome : DeskOutcome)
    (side : Parties → Side)
    → IsSeenAs (if_reached outcome own) expected old outcome new → own ≡ true → IsPlain outcome
    → Settles among expected.0 (side expected.1) → SettlesAt among outcome (side new)
settles_as among true expected old new (Plain outcome) side seen concerned is_plain settles =
    subst (λ o. Settles among o (side new)) (sym (same_plain outcome expected.0 seen.0))
    (subst (λ w. Settles among expected.0 (side w)) (sym seen.1) settles)
settles_as among false expected old new outcome side seen concerned is_plain settles = search rules
settles_as among true expected old new NoSuchTransaction side seen concerned is_plain settles = absurd is_plain
settles_as among true expected old new DeskFull side seen concerned is_plain settles = absurd is_plain

-- `ReachesSide` holds of each event at two desks that satisfy `DesksInvariant`.
abbrev pub EachReaches : Type 0
EachReaches = (w : DeskParties) (event : DeskEvent) → DesksInvariant w → ReachesSide w event

-- Message n of `txn` is `a`, and comes to one of two desks that satisfy `DesksInvariant`.
module _ (projects : EachProjects) (reaches : EachReaches) (w : DeskParties) (stands : DesksInvariant w) (txn : Qualifiers)
    (n : ℕ)
    (a : Apdu) where
  -- The side of `role` has issued a message, and the delivery settles it in the world of two parties. Then the delivery
  -- settles it at its desk.
  settles_there : (role : Role) (among : List State) → sent_message (sent_for txn (party w (other role)).sent) n ≡ Some a
      → (issued_of (held_for txn (party w role).live).side ≡ [] → ⊥)
      → let after = happens (project txn w) (events.Deliver role n) in Settles among after.0 (party after.1 role).live
      → let after = desks_happen w (desk_events.Deliver role txn n) in
      SettlesAt among after.0 (party (project txn after.1) role).live
  settles_there role among sent begun settles =
      let event = desk_events.Deliver role txn n in
      let is_plain : IsPlain (desks_happen w event).0 =
      held_plainly (is_ill_request a.body) (party w role) txn (found_by txn_held txn (party w role).live.held)
      (desks_happen w event).0 refl begun (reaches w event stands a sent) in
      settles_as among (concerns txn event) (happens (project txn w) (plain event)) (project txn w)
      (project txn (desks_happen w event).1) (desks_happen w event).0 (λ v. (party v role).live) (projects txn w event stands)
      (same_self txn) is_plain settles

-- If one arrival is enough of two parties, it is enough at two desks (`ArrivesAt`).
pub arrives_at : EachProjects → EachReaches
    → ((txn : Qualifiers) (w : Parties) (event : Event) → Invariant txn w → Arrives w event)
    → (w : DeskParties) (event : DeskEvent) → DesksInvariant w → ArrivesAt w event
arrives_at projects reaches arrives w (desk_events.Deliver who.Requester txn n) stands =
    λ a sent ends.
    let shown = stands.each txn in
    let v = project txn w in
    settles_there projects reaches w stands txn n a who.Requester (settled_by a.body) sent
    (asked txn v.requester.live v.responder.committed v.responder.sent v.requester.sent n a shown.requester.live
    shown.responder.committed (live_issues v.requester shown.requester.saved) (shown.responder.saved.committed n a sent))
    (arrives txn v (events.Deliver who.Requester n) shown a sent ends)
arrives_at projects reaches arrives w (desk_events.Deliver who.Responder txn n) stands =
    λ a sent returned.
    let shown = stands.each txn in
    let v = project txn w in
    settles_there projects reaches w stands txn n a who.Responder (states.Returned ∷ states.CheckedIn ∷ []) sent
    (supplied txn v.requester.committed v.responder.live v.responder.sent v.requester.sent n a shown.requester.committed
    shown.responder.live (live_issues v.responder shown.responder.saved)
    (shown.requester.saved.committed n a sent) returned) (arrives txn v (events.Deliver who.Responder n) shown a sent returned)
arrives_at projects reaches arrives w event stands = tt
