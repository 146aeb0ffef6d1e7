-- One arrival of the message that ends a request is enough, and so is one of a Returned.
use Rattle.std.proofs.Common.{rules, ◌≡◌, ◌⊎◌, inl, inr, ℕ, Bool, true, false, ◌&&◌, ◌||◌, List, [], ◌∷◌, Option, Some, Result}
use Rattle.std.proofs.Common.{Ok, refl, sym, ap, ◌∙◌, subst}
use Rattle.ill_values.specs.Day.{Date}
use Rattle.ill_values.specs.TxnId.{Qualifiers}
use Rattle.ill_values.specs.declared.apdu.Apdu.{Apdu}
use Rattle.ill_values.specs.Body.{Body}
use Rattle.ill_values.specs.declared.apdu.BodyWith.TheVariants as types
use Rattle.ill_core.specs.declared.state.State.{State}
use Rattle.ill_core.specs.declared.state.State.TheVariants as states
use Rattle.ill_core.specs.declared.refusal.Refusal.{Refusal}
use Rattle.ill_core.specs.declared.taking.Taking.{Taking}
use Rattle.ill_core.specs.declared.taking.Taking.TheVariants.{Taken, Repeat}
use Rattle.ill_core.specs.State.{is_among}
use Rattle.ill_core.specs.Numbers.{is_equal_number}
use Rattle.ill_values.specs.Bodies.{is_unsupplied, is_shipped, is_end, is_ill_request, is_returned}
use Rattle.ill_core.specs.Issued.{message, has_message_with, is_none, is_same_txn}
use Rattle.ill_core.specs.Requester.{RequesterRecord, later, last_cancel}
use Rattle.ill_core.specs.RequesterDeliveries as requester_deliveries
use Rattle.ill_core.specs.RequesterEvidence as requester
use Rattle.ill_core.specs.Responder.{ResponderRecord, later as shipped_states}
use Rattle.ill_core.specs.ResponderDeliveries as responder_deliveries
use Rattle.ill_core.specs.ResponderEvidence as responder
use Rattle.ill_record.specs.declared.side.Side.{Side}
use Rattle.ill_record.specs.declared.side.Side.TheVariants as sides
use Rattle.ill_record.specs.Side.{issued_of}
use Rattle.ill_record.specs.declared.role.Role.TheVariants as who
use Rattle.ill_world.specs.declared.event.Event.{Event}
use Rattle.ill_world.specs.declared.event.Event.TheVariants as events
use Rattle.ill_words.specs.declared.outcome.Outcome.TheVariants.{Answered}
use Rattle.ill_world.specs.World.{Party, Parties, sent_message, answer_to, receives}
use Rattle.ill_world.specs.Agreement.{settled_by, Settles, Arrives}
use Rattle.ill_world.specs.Invariant.{RequesterInvariant, ResponderInvariant, RequesterSideInvariant, ResponderSideInvariant}
use Rattle.ill_world.specs.Invariant.{Invariant}
use Rattle.ill_core.proofs.MessageLemmas.{message_says}
use Rattle.ill_world.proofs.Uniqueness.{message_number}
use Rattle.ill_world.proofs.Claims.{AreIssued, has_issued, cancelled_faces, not_supplied_faces, shipped_by, committed_issues}
use Rattle.ill_world.proofs.Claims.{live_issues}
use Rattle.ill_world.proofs.Agreements.{tells_requested, cancel_is_open}

-- These facts of the tables are assumed in this file. A requester that takes a message that ends the request gets to
-- the states of this end. A responder in SHIPPED or later that takes a Returned gets to RETURNED or CHECKED-IN.
pub record TransitionsSettle : Type 0 where
  pub shipped : (x : RequesterRecord) (a : Apdu) (due : Date) → is_same_txn a.txn x.txn ≡ true → a.body ≡ types.Shipped due
      → is_among (states.Pending ∷ states.Conditional ∷ states.CancelPending ∷ later) x.state ≡ true
      → requester.LeadsTo later (requester_deliveries.takes x a)
  pub ended : (x : RequesterRecord) (a : Apdu) → is_same_txn a.txn x.txn ≡ true → requester.IsEvidence a.body requester.Ended
      → is_among (states.Pending ∷ states.Conditional ∷ states.CancelPending ∷ states.NotSupplied ∷ []) x.state ≡ true
      → requester.LeadsTo (states.NotSupplied ∷ []) (requester_deliveries.takes x a)
  pub cancelled : (x : RequesterRecord) (a : Apdu) (c : ℕ) → is_same_txn a.txn x.txn ≡ true → a.body ≡ types.CancelReply c true
      → is_equal_number c (last_cancel x) ≡ true
      → is_among (states.CancelPending ∷ states.Cancelled ∷ []) x.state ≡ true
      → requester.LeadsTo (states.Cancelled ∷ []) (requester_deliveries.takes x a)
  pub returned : (y : ResponderRecord) (a : Apdu) → is_same_txn a.txn y.txn ≡ true → a.body ≡ types.Returned
      → is_among shipped_states y.state ≡ true
      → responder.LeadsTo (states.Returned ∷ states.CheckedIn ∷ []) (responder_deliveries.takes y a)

-- ---- states

-- A requester in none of IDLE, CANCELLED and NOT-SUPPLIED may take a Shipped. By the first premise `state` is a state
-- of a requester.
may_ship : (state : State) → is_among (states.InProcess ∷ states.CheckedIn ∷ []) state ≡ false
    → is_among (states.Idle ∷ []) state ≡ false → (state ≡ states.Cancelled → ⊥)
    → (state ≡ states.NotSupplied → ⊥)
    → is_among (states.Pending ∷ states.Conditional ∷ states.CancelPending ∷ later) state ≡ true
may_ship states.Cancelled role idle cancelled ended = absurd (cancelled refl)
may_ship states.NotSupplied role idle cancelled ended = absurd (ended refl)
may_ship state role idle cancelled ended = search rules

-- A requester in none of IDLE, CANCELLED, SHIPPED and later may take an end without the item. By the first premise
-- `state` is a state of a requester.
may_end : (state : State) → is_among (states.InProcess ∷ states.CheckedIn ∷ []) state ≡ false
    → is_among (states.Idle ∷ []) state ≡ false → (state ≡ states.Cancelled → ⊥)
    → (is_among later state ≡ true → ⊥)
    → is_among (states.Pending ∷ states.Conditional ∷ states.CancelPending ∷ states.NotSupplied ∷ []) state ≡ true
may_end states.Cancelled role idle cancelled shipped = absurd (cancelled refl)
may_end states.Shipped role idle cancelled shipped = absurd (shipped refl)
may_end states.Received role idle cancelled shipped = absurd (shipped refl)
may_end states.RenewPending role idle cancelled shipped = absurd (shipped refl)
may_end states.Overdue role idle cancelled shipped = absurd (shipped refl)
may_end states.RenewOverdue role idle cancelled shipped = absurd (shipped refl)
may_end states.NotReceivedOverdue role idle cancelled shipped = absurd (shipped refl)
may_end states.Recall role idle cancelled shipped = absurd (shipped refl)
may_end states.Returned role idle cancelled shipped = absurd (shipped refl)
may_end state role idle cancelled shipped = search rules

-- A responder that has ended the request is not in IDLE.
ended_not_idle : (state : State) → is_among responder.ended state ≡ true → is_among (states.Idle ∷ []) state ≡ false
ended_not_idle states.Idle ended = search rules
ended_not_idle state ended = refl

-- A responder in SHIPPED or later has ended the request.
shipped_is_ended : (state : State) → is_among shipped_states state ≡ true → is_among responder.ended state ≡ true
shipped_is_ended states.NotSupplied shipped = refl
shipped_is_ended states.Cancelled shipped = refl
shipped_is_ended state shipped = shipped

-- A responder in NOT-SUPPLIED has ended the request.
unsupplied_is_ended : (state : State) → is_among (states.NotSupplied ∷ []) state ≡ true → is_among responder.ended state ≡ true
unsupplied_is_ended states.NotSupplied e = refl
unsupplied_is_ended state e = search rules

-- A state among NOT-SUPPLIED alone is neither SHIPPED nor later.
not_shipped : (state : State) → is_among (states.NotSupplied ∷ []) state ≡ true → is_among shipped_states state ≡ true → ⊥
not_shipped states.NotSupplied e shipped = search rules
not_shipped state e shipped = search rules

-- CANCELLED is neither SHIPPED nor later.
not_cancelled : (state : State) → state ≡ states.Cancelled → is_among shipped_states state ≡ true → ⊥
not_cancelled state e shipped = let no : is_among shipped_states states.Cancelled ≡ true =
    subst (λ s. is_among shipped_states s ≡ true) e shipped in search rules

-- NOT-SUPPLIED is neither SHIPPED nor later.
not_unsupplied : (state : State) → state ≡ states.NotSupplied → is_among shipped_states state ≡ true → ⊥
not_unsupplied state e shipped = let no : is_among shipped_states states.NotSupplied ≡ true =
    subst (λ s. is_among shipped_states s ≡ true) e shipped in search rules

-- CANCELLED is not NOT-SUPPLIED.
not_cancelled_too : (state : State) → state ≡ states.Cancelled → is_among (states.NotSupplied ∷ []) state ≡ true → ⊥
not_cancelled_too state e ended = let no : is_among (states.NotSupplied ∷ []) states.Cancelled ≡ true =
    subst (λ s. is_among (states.NotSupplied ∷ []) s ≡ true) e ended in search rules

-- A list with an APDU of which `says` holds is not empty.
pub not_none : (says : Body → Bool) (apdus : List Apdu) → has_message_with says apdus ≡ true → is_none apdus ≡ false
not_none says [] is = search rules
not_none says (a ∷ apdus) is = refl

-- ---- a requester's record and a responder's

-- If the responder has ended the request, the requester is not in IDLE.
was_asked : (txn : Qualifiers) (x : RequesterRecord) (y : ResponderRecord) (responder_sent requester_sent : List (Option Apdu))
    → RequesterInvariant txn x responder_sent → ResponderInvariant txn y requester_sent → AreIssued requester_sent x.issued
    → is_among responder.ended y.state ≡ true → is_among (states.Idle ∷ []) x.state ≡ false
was_asked txn x y responder_sent requester_sent requester_stands responder_stands heeded ended =
    let known = responder_stands.knows responder.Requested (ended_not_idle y.state ended) in
    let request = has_issued x.issued requester_sent is_ill_request known.0 heeded known.1
    (tells_requested known.0.number known.0.body known.2) in
    sym requester_stands.rules.issued.idle ∙ not_none is_ill_request x.issued request

-- A message that the responder has issued is of the requester's transaction.
same_txn_as : (txn : Qualifiers) (x : RequesterRecord) (y : ResponderRecord) (responder_sent requester_sent : List (Option Apdu))
    (n : ℕ) (a : Apdu)
    → RequesterInvariant txn x responder_sent → ResponderInvariant txn y requester_sent
    → message y.issued n ≡ Some a → is_same_txn a.txn x.txn ≡ true
same_txn_as txn x y responder_sent requester_sent n a requester_stands responder_stands at =
    subst (λ t. is_same_txn a.txn t ≡ true) (responder_stands.same_txn ∙ sym requester_stands.same_txn)
    (message_number y.txn y.issued n a responder_stands.rules.numbered at).0

-- A message that ends the request without the item is evidence of this end.
tells_end : (body : Body) → is_unsupplied body ≡ true → requester.IsEvidence body requester.Ended
tells_end (types.IllAnswer answer) is = is
tells_end types.Expired is = tt
tells_end body is = search rules

-- If the requester takes a Shipped that the responder has issued, it gets to SHIPPED or later. Before, it is in none of
-- IDLE, CANCELLED and NOT-SUPPLIED.
shipped_arrives : TransitionsSettle
    → (txn : Qualifiers) (x : RequesterRecord) (y : ResponderRecord) (responder_sent requester_sent : List (Option Apdu)) (n : ℕ)
    (a : Apdu) (due : Date)
    → RequesterInvariant txn x responder_sent
    → ResponderInvariant txn y requester_sent → AreIssued responder_sent y.issued → AreIssued requester_sent x.issued
    → message y.issued n ≡ Some a
    → a.body ≡ types.Shipped due
    → requester.LeadsTo later (requester_deliveries.takes x a)
shipped_arrives rows txn x y responder_sent requester_sent n a due requester_stands responder_stands issued heeded at is =
    let shipped : is_among shipped_states y.state ≡ true =
    sym responder_stands.ends.shipped ∙ message_says is_shipped y.issued n a at (ap is_shipped is) in
    rows.shipped x a due (same_txn_as txn x y responder_sent requester_sent n a requester_stands responder_stands at) is
    (may_ship x.state requester_stands.rules.parts.role
    (was_asked txn x y responder_sent requester_sent requester_stands responder_stands heeded
    (shipped_is_ended y.state shipped))
    (λ e. not_cancelled y.state (cancelled_faces txn x y responder_sent requester_sent requester_stands responder_stands issued e)
    shipped)
    (λ e. not_unsupplied y.state (not_supplied_faces txn x y responder_sent requester_sent requester_stands responder_stands
    issued e) shipped))

-- If the requester takes an end without the item that the responder has issued, it gets to NOT-SUPPLIED. Before, it is
-- in none of IDLE, CANCELLED, SHIPPED and later.
end_arrives : TransitionsSettle
    → (txn : Qualifiers) (x : RequesterRecord) (y : ResponderRecord) (responder_sent requester_sent : List (Option Apdu)) (n : ℕ)
    (a : Apdu)
    → RequesterInvariant txn x responder_sent
    → ResponderInvariant txn y requester_sent → AreIssued responder_sent y.issued → AreIssued requester_sent x.issued
    → message y.issued n ≡ Some a
    → is_unsupplied a.body ≡ true
    → requester.LeadsTo (states.NotSupplied ∷ []) (requester_deliveries.takes x a)
end_arrives rows txn x y responder_sent requester_sent n a requester_stands responder_stands issued heeded at is =
    let ended : is_among (states.NotSupplied ∷ []) y.state ≡ true =
    sym responder_stands.ends.unsupplied ∙ message_says is_unsupplied y.issued n a at is in
    rows.ended x a (same_txn_as txn x y responder_sent requester_sent n a requester_stands responder_stands at)
    (tells_end a.body is)
    (may_end x.state requester_stands.rules.parts.role
    (was_asked txn x y responder_sent requester_sent requester_stands responder_stands heeded
    (unsupplied_is_ended y.state ended))
    (λ e. not_cancelled_too y.state
    (cancelled_faces txn x y responder_sent requester_sent requester_stands responder_stands issued e) ended)
    (λ shipped. not_shipped y.state ended
    (sym responder_stands.ends.shipped
    ∙ shipped_by txn x y responder_sent requester_sent x.due requester_stands responder_stands issued refl
    (requester_stands.rules.parts.due ∙ shipped))))

-- If `a && b` is true, so are a and b.
both_of : (a b : Bool) → (a && b) ≡ true → (a ≡ true) × (b ≡ true)
both_of true b is = (refl, is)
both_of false b is = search rules

-- If the requester takes a Cancel-Reply yes that the responder has issued, it gets to CANCELLED. Before, the answered
-- Cancel is open (`cancel_is_open`).
yes_arrives : TransitionsSettle
    → (txn : Qualifiers) (x : RequesterRecord) (y : ResponderRecord) (responder_sent requester_sent : List (Option Apdu))
    (n c : ℕ) (a : Apdu)
    → RequesterInvariant txn x responder_sent
    → ResponderInvariant txn y requester_sent → AreIssued responder_sent y.issued → AreIssued requester_sent x.issued
    → message y.issued n ≡ Some a
    → a.body ≡ types.CancelReply c true
    → requester.LeadsTo (states.Cancelled ∷ []) (requester_deliveries.takes x a)
yes_arrives rows txn x y responder_sent requester_sent n c a requester_stands responder_stands issued heeded at is =
    let parts = both_of _ _ (cancel_is_open txn x y responder_sent requester_sent requester_stands responder_stands issued heeded
    n c a at is) in
    rows.cancelled x a c (same_txn_as txn x y responder_sent requester_sent n a requester_stands responder_stands at) is parts.1
    parts.0

-- By taking `a`, requester `x` gets to the states of an end with `body` (`settled_by`).
abbrev Leads : RequesterRecord → Apdu → Body → Type 0
Leads x a body = requester.LeadsTo (settled_by body) (requester_deliveries.takes x a)

-- If the requester takes an issued end of the request, it gets to the states of this end.
arrives_as : TransitionsSettle
    → (txn : Qualifiers) (x : RequesterRecord) (y : ResponderRecord) (responder_sent requester_sent : List (Option Apdu)) (n : ℕ)
    (a : Apdu) (body : Body)
    → RequesterInvariant txn x responder_sent
    → ResponderInvariant txn y requester_sent → AreIssued responder_sent y.issued → AreIssued requester_sent x.issued
    → message y.issued n ≡ Some a
    → a.body ≡ body → is_end body ≡ true → Leads x a body
arrives_as rows txn x y responder_sent requester_sent n a (types.Shipped due) requester_stands responder_stands issued heeded at
    is ends = shipped_arrives rows txn x y responder_sent requester_sent n a due requester_stands responder_stands issued heeded
    at is
arrives_as rows txn x y responder_sent requester_sent n a (types.CancelReply c true) requester_stands responder_stands issued
    heeded at is ends = yes_arrives rows txn x y responder_sent requester_sent n c a requester_stands responder_stands issued
    heeded at is
arrives_as rows txn x y responder_sent requester_sent n a (types.CancelReply c false) requester_stands responder_stands issued
    heeded at is ends = search rules
arrives_as rows txn x y responder_sent requester_sent n a types.Expired requester_stands responder_stands issued heeded at is
    ends = end_arrives rows txn x y responder_sent requester_sent n a requester_stands responder_stands issued heeded at
    (ap is_unsupplied is)
arrives_as rows txn x y responder_sent requester_sent n a (types.IllAnswer answer) requester_stands responder_stands issued heeded
    at is ends =
    end_arrives rows txn x y responder_sent requester_sent n a requester_stands responder_stands issued heeded at
    (ap is_unsupplied is ∙ plain_end _ ends)
  where
    -- An ILL-Answer that ends the request ends it without the item.
    plain_end : (b : Bool) → (b || (false || false)) ≡ true → b ≡ true
    plain_end true is = refl
    plain_end false is = search rules
arrives_as rows txn x y responder_sent requester_sent n a body requester_stands responder_stands issued heeded at is ends =
    search rules

-- ---- the outcome of a delivery

-- If an answer is Taken or a Repeat, the outcome of the delivery is this answer.
answers : (answer : Result Taking Refusal) → (answer ≡ Ok Taken) ⊎ (answer ≡ Ok Repeat)
    → (answer_to answer ≡ Answered Taken) ⊎ (answer_to answer ≡ Answered Repeat)
answers answer (inl taken) = inl (ap answer_to taken)
answers answer (inr repeat) = inr (ap answer_to repeat)

-- An end of the request that the responder has issued settles the requester that receives it.
settles_requester : TransitionsSettle
    → (txn : Qualifiers) (p : Party) (side : Side) (responder_sent requester_sent : List (Option Apdu)) (n : ℕ) (a : Apdu)
    (found : Option Apdu)
    → RequesterSideInvariant txn p.live responder_sent
    → ResponderSideInvariant txn side requester_sent → AreIssued responder_sent (issued_of side)
    → AreIssued requester_sent (issued_of p.live)
    → message (issued_of side) n ≡ Some a → found ≡ Some a → is_end a.body ≡ true
    → Settles (settled_by a.body) (receives p found).0 (receives p found).1.live
settles_requester rows txn p side responder_sent requester_sent n a found requester_stands responder_stands issued heeded at is
    ends =
    subst (λ o. Settles (settled_by a.body) (receives p o).0 (receives p o).1.live) (sym is)
    (go p.live side requester_stands responder_stands issued heeded at)
  where
    -- The live side is a requester's, and `side` is a responder's. By `arrives_as` the requester gets to the states of
    -- the end.
    go : (live side : Side) → RequesterSideInvariant txn live responder_sent → ResponderSideInvariant txn side requester_sent
        → AreIssued responder_sent (issued_of side) → AreIssued requester_sent (issued_of live)
        → message (issued_of side) n ≡ Some a
        → Settles (settled_by a.body) (receives (record p { live = live }) (Some a)).0
        (receives (record p { live = live }) (Some a)).1.live
    go (sides.Requester x) (sides.Responder y) requester_stands responder_stands issued heeded at =
        let leads = arrives_as rows txn x y responder_sent requester_sent n a a.body requester_stands responder_stands issued
        heeded at refl ends in
        (answers (requester_deliveries.takes x a).0 leads.0, leads.1)
    go (sides.Responder y) side requester_stands responder_stands issued heeded at = absurd requester_stands
    go (sides.Requester x) (sides.Requester y) requester_stands responder_stands issued heeded at = absurd responder_stands

-- ---- a Returned

-- A body of which `is_returned` holds is a Returned.
returned_is : (body : Body) → is_returned body ≡ true → body ≡ types.Returned
returned_is types.Returned is = refl
returned_is body is = search rules

-- RETURNED is a state of SHIPPED or later.
returned_is_later : (state : State) → is_among (states.Returned ∷ []) state ≡ true → is_among later state ≡ true
returned_is_later states.Returned is = refl
returned_is_later state is = search rules

-- If the requester has issued a Returned, the responder has issued a Shipped.
pub shipped_before : (txn : Qualifiers) (x : RequesterRecord) (y : ResponderRecord)
    (responder_sent requester_sent : List (Option Apdu)) (n : ℕ) (a : Apdu)
    → RequesterInvariant txn x responder_sent → ResponderInvariant txn y requester_sent
    → AreIssued responder_sent y.issued → message x.issued n ≡ Some a → is_returned a.body ≡ true
    → has_message_with is_shipped y.issued ≡ true
shipped_before txn x y responder_sent requester_sent n a requester_stands responder_stands issued at is =
    let returned = sym requester_stands.rules.issued.returned ∙ message_says is_returned x.issued n a at is in
    shipped_by txn x y responder_sent requester_sent x.due requester_stands responder_stands issued refl
    (requester_stands.rules.parts.due ∙ returned_is_later x.state returned)

-- If the responder takes a Returned that the requester has issued, it gets to RETURNED or CHECKED-IN. Before, it is in
-- SHIPPED or later (`shipped_before`).
returned_arrives : TransitionsSettle
    → (txn : Qualifiers) (x : RequesterRecord) (y : ResponderRecord) (responder_sent requester_sent : List (Option Apdu)) (n : ℕ)
    (a : Apdu)
    → RequesterInvariant txn x responder_sent
    → ResponderInvariant txn y requester_sent → AreIssued responder_sent y.issued → message x.issued n ≡ Some a
    → is_returned a.body ≡ true
    → responder.LeadsTo (states.Returned ∷ states.CheckedIn ∷ []) (responder_deliveries.takes y a)
returned_arrives rows txn x y responder_sent requester_sent n a requester_stands responder_stands issued at is =
    let shipped = shipped_before txn x y responder_sent requester_sent n a requester_stands responder_stands issued at is in
    let same = subst (λ t. is_same_txn a.txn t ≡ true) (requester_stands.same_txn ∙ sym responder_stands.same_txn)
    (message_number x.txn x.issued n a requester_stands.rules.numbered at).0 in
    rows.returned y a same (returned_is a.body is) (sym responder_stands.ends.shipped ∙ shipped)

-- A Returned that the requester has issued settles the responder that receives it.
settles_responder : TransitionsSettle
    → (txn : Qualifiers) (p : Party) (side : Side) (responder_sent requester_sent : List (Option Apdu)) (n : ℕ) (a : Apdu)
    (found : Option Apdu)
    → RequesterSideInvariant txn side responder_sent
    → ResponderSideInvariant txn p.live requester_sent → AreIssued responder_sent (issued_of p.live)
    → message (issued_of side) n ≡ Some a
    → found ≡ Some a → is_returned a.body ≡ true
    → Settles (states.Returned ∷ states.CheckedIn ∷ []) (receives p found).0 (receives p found).1.live
settles_responder rows txn p side responder_sent requester_sent n a found requester_stands responder_stands issued at is
    returned =
    subst (λ o. Settles (states.Returned ∷ states.CheckedIn ∷ []) (receives p o).0 (receives p o).1.live) (sym is)
    (go side p.live requester_stands responder_stands issued at)
  where
    -- `side` is a requester's, and the live side is a responder's. By `returned_arrives` the responder gets to RETURNED
    -- or CHECKED-IN.
    go : (side live : Side) → RequesterSideInvariant txn side responder_sent → ResponderSideInvariant txn live requester_sent
        → AreIssued responder_sent (issued_of live) → message (issued_of side) n ≡ Some a
        → Settles (states.Returned ∷ states.CheckedIn ∷ []) (receives (record p { live = live }) (Some a)).0
        (receives (record p { live = live }) (Some a)).1.live
    go (sides.Requester x) (sides.Responder y) requester_stands responder_stands issued at =
        let leads = returned_arrives rows txn x y responder_sent requester_sent n a requester_stands responder_stands issued at
        returned in
        (answers (responder_deliveries.takes y a).0 leads.0, leads.1)
    go (sides.Responder y) live requester_stands responder_stands issued at = absurd requester_stands
    go (sides.Requester x) (sides.Requester y) requester_stands responder_stands issued at = absurd responder_stands

-- If a world satisfies the invariant, one arrival is enough (`Arrives`).
pub arrives : TransitionsSettle → (txn : Qualifiers) (w : Parties) (event : Event) → Invariant txn w → Arrives w event
arrives rows txn w (events.Deliver who.Requester n) stands =
    λ a sent ends.
    settles_requester rows txn w.requester w.responder.committed w.responder.sent w.requester.sent n a
    (sent_message w.responder.sent n) stands.requester.live stands.responder.committed
    (committed_issues w.responder stands.responder.saved) (live_issues w.requester stands.requester.saved)
    (stands.responder.saved.committed n a sent) sent ends
arrives rows txn w (events.Deliver who.Responder n) stands =
    λ a sent returned.
    settles_responder rows txn w.responder w.requester.committed w.responder.sent w.requester.sent n a
    (sent_message w.requester.sent n) stands.requester.committed stands.responder.live
    (live_issues w.responder stands.responder.saved) (stands.requester.saved.committed n a sent) sent returned
arrives rows txn w (events.Wish wish) stands = tt
arrives rows txn w (events.Deed deed today) stands = tt
arrives rows txn w (events.Save of) stands = tt
arrives rows txn w (events.SaveFault of committed) stands = tt
arrives rows txn w (events.Send of n) stands = tt
arrives rows txn w (events.Noise of bytes) stands = tt
arrives rows txn w (events.Restart of) stands = tt
