-- Each event keeps or raises the requester's due date.
use Rattle.std.proofs.Common.{rules, ◌≡◌, inl, inr, ℕ, Bool, true, false, nat_le, List, Option, Some, None, is_some, Result, Ok}
use Rattle.std.proofs.Common.{Err, refl, sym, ap, subst}
use Rattle.ill_values.specs.Day.{Date}
use Rattle.ill_values.specs.TxnId.{Qualifiers}
use Rattle.ill_values.specs.declared.apdu.Apdu.{Apdu}
use Rattle.ill_core.specs.declared.refusal.Refusal.{Refusal}
use Rattle.ill_core.specs.declared.requester.Wish.{Wish}
use Rattle.ill_core.specs.State.{is_among}
use Rattle.ill_core.specs.Issued.{message}
use Rattle.ill_core.specs.Requester.{RequesterRecord, later}
use Rattle.ill_core.specs.RequesterActions as requester_actions
use Rattle.ill_core.specs.RequesterDeliveries as requester_deliveries
use Rattle.ill_core.specs.RequesterEvidence.{KeepsDue, is_raised}
use Rattle.ill_core.proofs.GrantLemmas.{before_chains}
use Rattle.ill_record.specs.declared.side.Side.{Side}
use Rattle.ill_record.specs.declared.side.Side.TheVariants as sides
use Rattle.ill_record.specs.declared.side.Action.{Action}
use Rattle.ill_record.specs.declared.side.Action.TheVariants as actions
use Rattle.ill_record.specs.Side.{issued_of, due_date_of, done_by, acts, takes}
use Rattle.ill_record.specs.declared.role.Role.TheVariants as who
use Rattle.ill_world.specs.declared.event.Event.{Event}
use Rattle.ill_world.specs.declared.event.Event.TheVariants as events
use Rattle.ill_world.specs.World.{Party, Parties, sent_message, decides, sends, receives, happens_to, happens}
use Rattle.ill_world.specs.Invariant.{RequesterSideInvariant, Invariant}
use Rattle.ill_world.specs.Agreement.{KeepsDates}

-- A due date that is kept or raised twice is kept or raised.
pub keeps_on : (a b c : Option Date) → KeepsDue a b → KeepsDue b c → KeepsDue a c
keeps_on a b c (inl none) second = inl none
keeps_on a b c (inr (inl same)) second = subst (λ x. KeepsDue x c) same second
keeps_on None b c (inr (inr raised)) second = inl refl
keeps_on (Some x) None c (inr (inr raised)) second = search rules
keeps_on (Some x) (Some y) c (inr (inr raised)) (inl none) = search rules
keeps_on (Some x) (Some y) c (inr (inr raised)) (inr (inl same)) =
    inr (inr (subst (λ z. is_raised (Some x) z ≡ true) (sym same) raised))
keeps_on (Some x) (Some y) None (inr (inr raised)) (inr (inr again)) = search rules
keeps_on (Some x) (Some y) (Some z) (inr (inr raised)) (inr (inr again)) = inr (inr (before_chains x y z raised again))

-- These facts of the tables are assumed in this file. A wish leaves the requester's due date unchanged. A message that
-- the requester takes keeps or raises the due date. The record must have one exactly in SHIPPED or later.
pub record TransitionsKeepDue : Type 0 where
  pub acts : (x new : RequesterRecord) (wish : Wish) → requester_actions.acts x wish ≡ Ok new → new.due ≡ x.due
  pub takes : (x : RequesterRecord) (a : Apdu) → is_some x.due ≡ is_among later x.state
      → KeepsDue x.due (requester_deliveries.takes x a).1.due

-- An unchanged due date is kept.
stays : (due : Option Date) → KeepsDue due due
stays due = inr (inl refl)

-- If `result` makes a record with an unchanged due date, its side has an unchanged due date.
made_due : (x : RequesterRecord) (result : Result RequesterRecord Refusal) (new : Side)
    → ((made : RequesterRecord) → result ≡ Ok made → made.due ≡ x.due) → done_by sides.Requester result ≡ Ok new
    → due_date_of new ≡ x.due
made_due x (Ok made) new keeps e = let is : sides.Requester made ≡ new = search rules in
    subst (λ side. due_date_of side ≡ x.due) is (keeps made refl)
made_due x (Err refusal) new keeps e = search rules

-- An action that is done leaves the due date of a requester's side unchanged.
acts_due : TransitionsKeepDue → (txn : Qualifiers) (old new : Side) (action : Action) (partner_sent : List (Option Apdu))
    → acts old action ≡ Ok new → RequesterSideInvariant txn old partner_sent → due_date_of new ≡ due_date_of old
acts_due rows txn (sides.Requester x) new (actions.Wish wish) partner_sent e stands =
    made_due x (requester_actions.acts x wish) new (λ made is. rows.acts x made wish is) e
acts_due rows txn (sides.Requester x) new (actions.Deed deed today) partner_sent e stands = search rules
acts_due rows txn (sides.Responder y) new action partner_sent e stands = absurd stands

-- A message that is taken keeps or raises the due date of a requester's side.
takes_due : TransitionsKeepDue → (txn : Qualifiers) (old : Side) (a : Apdu) (partner_sent : List (Option Apdu))
    → RequesterSideInvariant txn old partner_sent → KeepsDue (due_date_of old) (due_date_of (takes old a).1)
takes_due rows txn (sides.Requester x) a partner_sent stands = rows.takes x a stands.rules.parts.due
takes_due rows txn (sides.Responder y) a partner_sent stands = absurd stands

-- A decision keeps or raises the requester's live due date, and leaves its committed side unchanged.
decides_due : TransitionsKeepDue
    → (txn : Qualifiers) (p : Party) (partner_sent : List (Option Apdu)) (action : Action) (result : Result Side Refusal)
    → acts p.live action ≡ result → RequesterSideInvariant txn p.live partner_sent
    → KeepsDue (due_date_of p.live) (due_date_of (decides p result).1.live) × ((decides p result).1.committed ≡ p.committed)
decides_due rows txn p partner_sent action (Ok new) e stands =
    (inr (inl (acts_due rows txn p.live new action partner_sent e stands)), refl)
decides_due rows txn p partner_sent action (Err refusal) e stands = (stays (due_date_of p.live), refl)

-- A delivery keeps or raises the requester's live due date, and leaves its committed side unchanged.
receives_due : TransitionsKeepDue → (txn : Qualifiers) (p : Party) (partner_sent : List (Option Apdu)) (found : Option Apdu)
    → RequesterSideInvariant txn p.live partner_sent
    → KeepsDue (due_date_of p.live) (due_date_of (receives p found).1.live) × ((receives p found).1.committed ≡ p.committed)
receives_due rows txn p partner_sent None stands = (stays (due_date_of p.live), refl)
receives_due rows txn p partner_sent (Some a) stands = (takes_due rows txn p.live a partner_sent stands, refl)

-- A Send leaves the live and the committed side unchanged.
sends_same : (p : Party) (n : ℕ) (found : Option Apdu) (released : Bool)
    → ((sends p n found released).1.live ≡ p.live) × ((sends p n found released).1.committed ≡ p.committed)
sends_same p n None released = (refl, refl)
sends_same p n (Some a) false = (refl, refl)
sends_same p n (Some a) true = (refl, refl)

-- If q has the sides of p, and `KeepsDue` holds of p's dates, it holds of q's dates.
same_dates : (p q : Party) → (q.live ≡ p.live) × (q.committed ≡ p.committed)
    → KeepsDue (due_date_of p.committed) (due_date_of p.live) → KeepsDue (due_date_of q.committed) (due_date_of q.live)
same_dates p q same kept = subst (λ side. KeepsDue (due_date_of side) (due_date_of q.live)) (sym same.1)
    (subst (λ side. KeepsDue (due_date_of p.committed) (due_date_of side)) (sym same.0) kept)

-- If q has the committed side of p, and keeps or raises the live date, `KeepsDue` holds of its dates.
live_kept : (p q : Party) → KeepsDue (due_date_of p.live) (due_date_of q.live) × (q.committed ≡ p.committed)
    → KeepsDue (due_date_of p.committed) (due_date_of p.live) → KeepsDue (due_date_of q.committed) (due_date_of q.live)
live_kept p q both kept = subst (λ side. KeepsDue (due_date_of side) (due_date_of q.live)) (sym both.1)
    (keeps_on (due_date_of p.committed) (due_date_of p.live) (due_date_of q.live) kept both.0)

-- After each event the requester's live due date is not earlier than its committed one, if this held before.
pub due_after : TransitionsKeepDue → (txn : Qualifiers) (p : Party) (partner_sent : List (Option Apdu)) (event : Event)
    → RequesterSideInvariant txn p.live partner_sent → KeepsDue (due_date_of p.committed) (due_date_of p.live)
    → KeepsDue (due_date_of (happens_to p partner_sent event).1.committed) (due_date_of (happens_to p partner_sent event).1.live)
due_after rows txn p partner_sent (events.Wish wish) stands kept =
    live_kept p (happens_to p partner_sent (events.Wish wish)).1
    (decides_due rows txn p partner_sent (actions.Wish wish) (acts p.live (actions.Wish wish)) refl stands) kept
due_after rows txn p partner_sent (events.Deed deed today) stands kept =
    live_kept p (happens_to p partner_sent (events.Deed deed today)).1
    (decides_due rows txn p partner_sent (actions.Deed deed today) (acts p.live (actions.Deed deed today)) refl stands) kept
due_after rows txn p partner_sent (events.Save of) stands kept = stays (due_date_of p.live)
due_after rows txn p partner_sent (events.SaveFault of true) stands kept = stays (due_date_of p.live)
due_after rows txn p partner_sent (events.SaveFault of false) stands kept = kept
due_after rows txn p partner_sent (events.Send of n) stands kept =
    same_dates p (happens_to p partner_sent (events.Send of n)).1
    (sends_same p n (message (issued_of p.live) n) (nat_le n p.released)) kept
due_after rows txn p partner_sent (events.Deliver of n) stands kept =
    live_kept p (happens_to p partner_sent (events.Deliver of n)).1
    (receives_due rows txn p partner_sent (sent_message partner_sent n) stands) kept
due_after rows txn p partner_sent (events.Noise of bytes) stands kept = kept
due_after rows txn p partner_sent (events.Restart of) stands kept = stays (due_date_of p.committed)

-- Equal sides have equal due dates.
same_date : (a b : Side) → b ≡ a → KeepsDue (due_date_of a) (due_date_of b)
same_date a b e = inr (inl (ap due_date_of e))

-- Each event keeps or raises the requester's due dates, live and committed, as `KeepsDates` states.
pub dates_kept : TransitionsKeepDue → (txn : Qualifiers) (w : Parties) (event : Event) → Invariant txn w
    → KeepsDates w event (happens w event).1
dates_kept rows txn w (events.Wish wish) stands =
    let p = w.requester in
    let kept = decides_due rows txn p w.responder.sent (actions.Wish wish) (acts p.live (actions.Wish wish)) refl
    stands.requester.live in
    (kept.0, same_date p.committed _ kept.1)
dates_kept rows txn w (events.Deed deed today) stands = (stays _, stays _)
dates_kept rows txn w (events.Save who.Requester) stands = (stays _, stands.due)
dates_kept rows txn w (events.Save who.Responder) stands = (stays _, stays _)
dates_kept rows txn w (events.SaveFault who.Requester true) stands = (stays _, stands.due)
dates_kept rows txn w (events.SaveFault who.Requester false) stands = (stays _, stays _)
dates_kept rows txn w (events.SaveFault who.Responder committed) stands = (stays _, stays _)
dates_kept rows txn w (events.Send who.Requester n) stands =
    let p = w.requester in
    let same = sends_same p n (message (issued_of p.live) n) (nat_le n p.released) in
    (same_date p.live _ same.0, same_date p.committed _ same.1)
dates_kept rows txn w (events.Send who.Responder n) stands = (stays _, stays _)
dates_kept rows txn w (events.Deliver who.Requester n) stands =
    let p = w.requester in
    let kept = receives_due rows txn p w.responder.sent (sent_message w.responder.sent n) stands.requester.live in
    (kept.0, same_date p.committed _ kept.1)
dates_kept rows txn w (events.Deliver who.Responder n) stands = (stays _, stays _)
dates_kept rows txn w (events.Noise who.Requester bytes) stands = (stays _, stays _)
dates_kept rows txn w (events.Noise who.Responder bytes) stands = (stays _, stays _)
dates_kept rows txn w (events.Restart who.Requester) stands = (tt, stays _)
dates_kept rows txn w (events.Restart who.Responder) stands = (stays _, stays _)
