-- If a world satisfies the invariant, it is safe. The reason is the evidence for each claim of the requester's record.
use Rattle.std.proofs.Common.{rules, ◌≡◌, ◌⊎◌, inl, inr, ℕ, Bool, true, false, not, ◌&&◌, ◌||◌, List, [], ◌∷◌, Option, Some, None}
use Rattle.std.proofs.Common.{is_some, refl, sym, ap, ◌∙◌}
use Rattle.ill_values.specs.Day.{Date}
use Rattle.ill_values.specs.TxnId.{Qualifiers}
use Rattle.ill_values.specs.declared.apdu.Apdu.{Apdu}
use Rattle.ill_values.specs.Body.{Body}
use Rattle.ill_values.specs.declared.apdu.BodyWith.TheVariants as types
use Rattle.ill_core.specs.declared.state.State.{State}
use Rattle.ill_core.specs.declared.state.State.TheVariants as states
use Rattle.ill_core.specs.State.{is_among}
use Rattle.ill_values.specs.Bodies.{is_shipped, is_renewal, grant_in}
use Rattle.ill_core.specs.Issued.{message, has_message_with}
use Rattle.ill_core.specs.Requester.{RequesterRecord}
use Rattle.ill_core.specs.RequesterEvidence as requester
use Rattle.ill_core.specs.Responder.{ResponderRecord, ships_first}
use Rattle.ill_core.specs.ResponderEvidence as responder
use Rattle.ill_record.specs.declared.side.Side.{Side}
use Rattle.ill_record.specs.declared.side.Side.TheVariants as sides
use Rattle.ill_record.specs.Side.{issued_of}
use Rattle.ill_world.specs.World.{Party, Parties}
use Rattle.ill_world.specs.Safety.{OfBoth, EndsAlike, WasShipped, WasGranted}
use Rattle.ill_world.specs.Invariant.{WasSent, RequesterInvariant, ResponderInvariant, RequesterSideInvariant}
use Rattle.ill_world.specs.Invariant.{ResponderSideInvariant, SendsSaved, Invariant}
use Rattle.ill_core.proofs.MessageLemmas.{message_says}
use Rattle.ill_world.proofs.Sendings.{prefix_message}

-- ---- evidence

-- A message that is evidence of a cancellation is a Cancel-Reply yes.
tells_cancelled : (body : Body) → requester.IsEvidence body requester.Cancelled → responder.is_cancelled body ≡ true
tells_cancelled (types.CancelReply c true) tells = refl
tells_cancelled (types.CancelReply c false) tells = absurd tells
tells_cancelled body tells = search rules

-- A message that is evidence of an end without the item satisfies `is_unsupplied`.
tells_ended : (body : Body) → requester.IsEvidence body requester.Ended → responder.is_unsupplied body ≡ true
tells_ended (types.IllAnswer answer) tells = tells
tells_ended types.Expired tells = refl
tells_ended body tells = search rules

-- A message that is evidence of a due date grants this date.
pub tells_grant : (body : Body) (due : Date) → requester.IsEvidence body (requester.Granted due) → grant_in body ≡ Some due
tells_grant (types.Shipped d) due tells = ap Some tells
tells_grant (types.RenewAnswer c (Some d)) due tells = ap Some tells
tells_grant (types.RenewAnswer c None) due tells = absurd tells
tells_grant body due tells = search rules

-- A message that is evidence of a due date is a Shipped or a Renew-Answer yes.
tells_shipped : (body : Body) (due : Date) → requester.IsEvidence body (requester.Granted due)
    → (is_shipped body ≡ true) ⊎ (is_renewal body ≡ true)
tells_shipped (types.Shipped d) due tells = inl refl
tells_shipped (types.RenewAnswer c (Some d)) due tells = inr refl
tells_shipped (types.RenewAnswer c None) due tells = absurd tells
tells_shipped body due tells = search rules

-- ---- a responder's record

-- A state among CANCELLED alone is CANCELLED.
pub is_in_cancelled : (state : State) → is_among (states.Cancelled ∷ []) state ≡ true → state ≡ states.Cancelled
is_in_cancelled states.Cancelled e = refl
is_in_cancelled state e = search rules

-- A state among NOT-SUPPLIED alone is NOT-SUPPLIED.
pub is_in_not_supplied : (state : State) → is_among (states.NotSupplied ∷ []) state ≡ true → state ≡ states.NotSupplied
is_in_not_supplied states.NotSupplied e = refl
is_in_not_supplied state e = search rules

-- If each Renew-Answer yes follows a Shipped, a list with a Renew-Answer yes has a Shipped.
pub ships_before : (apdus : List Apdu) → ships_first apdus ≡ true → has_message_with is_renewal apdus ≡ true
    → has_message_with is_shipped apdus ≡ true
unfolding ships_first
ships_before [] first renewed = search rules
ships_before (a ∷ apdus) first renewed = go (is_shipped a.body) (is_renewal a.body) (ships_before apdus) first renewed
  where
    -- If the first APDU is no Shipped, it is no Renew-Answer yes, and the rest has a Shipped.
    go : (shipped renewal : Bool) → (ships_first apdus ≡ true → has_message_with is_renewal apdus ≡ true
        → has_message_with is_shipped apdus ≡ true)
        → (shipped || (not renewal && ships_first apdus)) ≡ true → (renewal || has_message_with is_renewal apdus) ≡ true
        → (shipped || has_message_with is_shipped apdus) ≡ true
    go true renewal before first renewed = refl
    go false true before first renewed = search rules
    go false false before first renewed = before first renewed

-- ---- a requester's record and a responder's

-- Each message of `sent` is one of `apdus`, under some number.
abbrev pub AreIssued : List (Option Apdu) → List Apdu → Type 0
AreIssued sent apdus = (a : Apdu) → WasSent sent a → (n : ℕ) × (message apdus n ≡ Some a)

-- `P` holds of two sides that satisfy `RequesterSideInvariant` and `ResponderSideInvariant`. The responder's side has
-- issued all messages that were sent to the requester.
abbrev HoldsOfSides : (Side → Side → Type 0) → Type 0
HoldsOfSides P = (txn : Qualifiers) (x y : Side) (responder_sent requester_sent : List (Option Apdu))
    → RequesterSideInvariant txn x responder_sent → ResponderSideInvariant txn y requester_sent
    → AreIssued responder_sent (issued_of y)
    → P x y

-- All sent messages were issued. So if `says` holds of a sent message, it holds of an issued one.
pub has_issued : (apdus : List Apdu) (sent : List (Option Apdu)) (says : Body → Bool) (a : Apdu)
    → AreIssued sent apdus → WasSent sent a → says a.body ≡ true → has_message_with says apdus ≡ true
has_issued apdus sent says a issued was is = let at = issued a was in message_says says apdus at.0 a at.1 is

-- If the requester is in CANCELLED, the responder is in CANCELLED.
pub cancelled_faces : (txn : Qualifiers) (x : RequesterRecord) (y : ResponderRecord)
    (responder_sent requester_sent : List (Option Apdu))
    → RequesterInvariant txn x responder_sent → ResponderInvariant txn y requester_sent → AreIssued responder_sent y.issued
    → x.state ≡ states.Cancelled → y.state ≡ states.Cancelled
cancelled_faces txn x y responder_sent requester_sent requester_stands responder_stands issued e =
    let known = requester_stands.knows requester.Cancelled e in
    is_in_cancelled y.state (sym responder_stands.ends.cancelled
    ∙ has_issued y.issued responder_sent responder.is_cancelled known.0 issued known.1 (tells_cancelled known.0.body known.2))

-- If the requester is in NOT-SUPPLIED, the responder is in NOT-SUPPLIED.
pub not_supplied_faces : (txn : Qualifiers) (x : RequesterRecord) (y : ResponderRecord)
    (responder_sent requester_sent : List (Option Apdu))
    → RequesterInvariant txn x responder_sent → ResponderInvariant txn y requester_sent
    → AreIssued responder_sent y.issued → x.state ≡ states.NotSupplied → y.state ≡ states.NotSupplied
not_supplied_faces txn x y responder_sent requester_sent requester_stands responder_stands issued e =
    let known = requester_stands.knows requester.Ended e in
    is_in_not_supplied y.state (sym responder_stands.ends.unsupplied
    ∙ has_issued y.issued responder_sent responder.is_unsupplied known.0 issued known.1 (tells_ended known.0.body known.2))

-- `EndsAlike` holds of two sides that satisfy the premises of `HoldsOfSides`.
ends_pair : HoldsOfSides EndsAlike
ends_pair txn (sides.Requester x) (sides.Responder y) responder_sent requester_sent requester_stands responder_stands issued = (
  cancelled_faces txn x y responder_sent requester_sent requester_stands responder_stands issued,
  not_supplied_faces txn x y responder_sent requester_sent requester_stands responder_stands issued,
)
ends_pair txn (sides.Responder x) y responder_sent requester_sent requester_stands responder_stands issued =
    absurd requester_stands
ends_pair txn (sides.Requester x) (sides.Requester y) responder_sent requester_sent requester_stands responder_stands issued =
    absurd responder_stands

-- `WasGranted` holds of two sides that satisfy the premises of `HoldsOfSides`.
grant_pair : HoldsOfSides WasGranted
grant_pair txn (sides.Requester x) (sides.Responder y) responder_sent requester_sent requester_stands responder_stands issued =
    λ due e.
    let known = requester_stands.knows (requester.Granted due) e in
    let at = issued known.0 known.1 in
    (at.0, known.0, at.1, tells_grant known.0.body due known.2)
grant_pair txn (sides.Responder x) y responder_sent requester_sent requester_stands responder_stands issued =
    absurd requester_stands
grant_pair txn (sides.Requester x) (sides.Requester y) responder_sent requester_sent requester_stands responder_stands issued =
    absurd responder_stands

-- If a requester has a due date, the responder has issued a Shipped.
pub shipped_by : (txn : Qualifiers) (x : RequesterRecord) (y : ResponderRecord)
    (responder_sent requester_sent : List (Option Apdu)) (due : Option Date)
    → RequesterInvariant txn x responder_sent → ResponderInvariant txn y requester_sent
    → AreIssued responder_sent y.issued → x.due ≡ due → is_some due ≡ true → has_message_with is_shipped y.issued ≡ true
shipped_by txn x y responder_sent requester_sent None requester_stands responder_stands issued e some = search rules
shipped_by txn x y responder_sent requester_sent (Some d) requester_stands responder_stands issued e some =
    let known = requester_stands.knows (requester.Granted d) e in
    elim (tells_shipped known.0.body d known.2) [
      | inl shipped ↦ has_issued y.issued responder_sent is_shipped known.0 issued known.1 shipped
      | inr renewal ↦ ships_before y.issued responder_stands.rules.ships_first
          (has_issued y.issued responder_sent is_renewal known.0 issued known.1 renewal)
    ]

-- `WasShipped` holds of two sides that satisfy the premises of `HoldsOfSides`.
shipped_pair : HoldsOfSides WasShipped
shipped_pair txn (sides.Requester x) (sides.Responder y) responder_sent requester_sent requester_stands responder_stands issued =
    λ is. shipped_by txn x y responder_sent requester_sent x.due requester_stands responder_stands issued refl
    (requester_stands.rules.parts.due ∙ is)
shipped_pair txn (sides.Responder x) y responder_sent requester_sent requester_stands responder_stands issued =
    absurd requester_stands
shipped_pair txn (sides.Requester x) (sides.Requester y) responder_sent requester_sent requester_stands responder_stands issued =
    absurd responder_stands

-- ---- live and committed records

-- The committed side of a party has issued all messages that the party has sent.
pub committed_issues : (p : Party) → SendsSaved p → AreIssued p.sent (issued_of p.committed)
committed_issues p saved = λ a was. (was.0, saved.committed was.0 a was.1)

-- The live side of a party has issued all messages that the party has sent.
pub live_issues : (p : Party) → SendsSaved p → AreIssued p.sent (issued_of p.live)
live_issues p saved = λ a was. (
  was.0,
  prefix_message (issued_of p.committed) (issued_of p.live) was.0 a saved.prefix (saved.committed was.0 a was.1),
)

-- If `HoldsOfSides P` holds, and a world satisfies the invariant, `P` holds of its four pairs of sides.
of_both : (P : Side → Side → Type 0) → HoldsOfSides P → (txn : Qualifiers) (w : Parties) → Invariant txn w → OfBoth P w
of_both P pair txn w stands =
    let sent = w.responder.sent in
    let requester_sent = w.requester.sent in
    let live = live_issues w.responder stands.responder.saved in
    let committed = committed_issues w.responder stands.responder.saved in
    record {
      live = pair txn w.requester.live w.responder.live sent requester_sent stands.requester.live stands.responder.live live;
      live_committed = pair txn w.requester.live w.responder.committed sent requester_sent stands.requester.live
          stands.responder.committed
          committed;
      committed_live = pair txn w.requester.committed w.responder.live sent requester_sent stands.requester.committed
          stands.responder.live
          live;
      committed = pair txn w.requester.committed w.responder.committed sent requester_sent stands.requester.committed
          stands.responder.committed
          committed;
    }

-- `EndsAlike` holds of all four pairs of sides in a world that satisfies the invariant.
pub ends_alike : (txn : Qualifiers) (w : Parties) → Invariant txn w → OfBoth EndsAlike w
ends_alike = of_both EndsAlike ends_pair

-- `WasShipped` holds of all four pairs of sides in a world that satisfies the invariant.
pub was_shipped : (txn : Qualifiers) (w : Parties) → Invariant txn w → OfBoth WasShipped w
was_shipped = of_both WasShipped shipped_pair

-- `WasGranted` holds of all four pairs of sides in a world that satisfies the invariant.
pub was_granted : (txn : Qualifiers) (w : Parties) → Invariant txn w → OfBoth WasGranted w
was_granted = of_both WasGranted grant_pair
