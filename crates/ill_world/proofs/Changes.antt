-- Each event changes only the parts of a party that its outcome allows, and so of the world.
use Rattle.std.proofs.Common.{◌≡◌, ◌⊎◌, inl, inr, ℕ, Bool, true, false, List, [], ◌∷◌, ◌++◌, Option, Some, None, Result, Ok, Err}
use Rattle.std.proofs.Common.{refl, sym, ap, subst}
use Rattle.ill_values.specs.TxnId.{Qualifiers}
use Rattle.ill_values.specs.declared.apdu.Apdu.{Apdu}
use Rattle.ill_der.specs.ShortForm.{apdu_at}
use Rattle.ill_core.specs.declared.refusal.Refusal.{Refusal}
use Rattle.ill_core.specs.declared.taking.Taking.TheVariants.{Taken, Repeat, Stale, Conflict}
use Rattle.ill_core.specs.Requester.{RequesterRecord}
use Rattle.ill_core.specs.RequesterDeliveries as requester_deliveries
use Rattle.ill_core.specs.Responder.{ResponderRecord}
use Rattle.ill_core.specs.ResponderDeliveries as responder_deliveries
use Rattle.ill_record.specs.declared.side.Side.{Side}
use Rattle.ill_record.specs.declared.side.Side.TheVariants as sides
use Rattle.ill_record.specs.declared.side.Action.TheVariants as actions
use Rattle.ill_record.specs.Side.{acts, takes, other}
use Rattle.ill_record.specs.declared.role.Role.{Role}
use Rattle.ill_record.specs.declared.role.Role.TheVariants as who
use Rattle.ill_world.specs.declared.event.Event.{Event}
use Rattle.ill_world.specs.declared.event.Event.TheVariants as events
use Rattle.ill_words.specs.declared.outcome.Outcome.{Outcome}
use Rattle.ill_words.specs.declared.outcome.Outcome.TheVariants.{Done, Saved, Faulted, Sent, Answered, Restarted}
use Rattle.ill_world.specs.World.{Party, Parties, party, with_party, who_of, sent_message, decides, sends, answer_to, receives}
use Rattle.ill_world.specs.World.{hears, happens_to, happens, run_by, run_of}
use Rattle.ill_world.specs.Changes.{OnlyCommits, OnlyCommittedChanges, MayChange, KeepsSent}
use Rattle.ill_world.specs.Invariant.{SendsSaved, Invariant}
use Rattle.ill_world.proofs.Kept.{stays_sent}

-- These facts of the tables are assumed in this file. A delivery that is not Taken changes nothing.
pub record RefusalsChangeNothing : Type 0 where
  pub requester : (x : RequesterRecord) (a : Apdu)
      → ((requester_deliveries.takes x a).0 ≡ Ok Taken) ⊎ ((requester_deliveries.takes x a).1 ≡ x)
  pub responder : (y : ResponderRecord) (a : Apdu)
      → ((responder_deliveries.takes y a).0 ≡ Ok Taken) ⊎ ((responder_deliveries.takes y a).1 ≡ y)

-- ---- one party

-- An unchanged party satisfies `OnlyCommits`.
same_commits : (p : Party) → OnlyCommits p p
same_commits p = record { live = refl; released = refl; sent = refl }

-- Each outcome allows a party to stay unchanged.
nothing_changes : (outcome : Outcome) (p : Party) → MayChange OnlyCommits outcome p p
nothing_changes Done p = tt
nothing_changes Saved p = tt
nothing_changes Sent p = tt
nothing_changes Restarted p = tt
nothing_changes (Answered Taken) p = tt
nothing_changes (Answered Repeat) p = refl
nothing_changes (Answered Stale) p = refl
nothing_changes (Answered (Conflict state)) p = refl
nothing_changes Faulted p = same_commits p
nothing_changes other p = refl

-- The outcome of a decision allows the change that it makes.
decides_changes : (p : Party) (result : Result Side Refusal) → MayChange OnlyCommits (decides p result).0 p (decides p result).1
decides_changes p (Ok new) = tt
decides_changes p (Err refusal) = refl

-- A failed save changes at most the committed side.
fails_changes : (p : Party) (partner_sent : List (Option Apdu)) (of : Role) (committed : Bool)
    → OnlyCommits p (happens_to p partner_sent (events.SaveFault of committed)).1
fails_changes p partner_sent of true = record { live = refl; released = refl; sent = refl }
fails_changes p partner_sent of false = same_commits p

-- The outcome of a Send allows the change that it makes.
sends_changes : (p : Party) (n : ℕ) (found : Option Apdu) (released : Bool)
    → MayChange OnlyCommits (sends p n found released).0 p (sends p n found released).1
sends_changes p n None released = refl
sends_changes p n (Some a) true = tt
sends_changes p n (Some a) false = refl

-- A delivery is Taken, or leaves the side unchanged.
pub quiet : RefusalsChangeNothing → (side : Side) (a : Apdu) → ((takes side a).0 ≡ Ok Taken) ⊎ ((takes side a).1 ≡ side)
quiet rows (sides.Requester x) a = elim (rows.requester x a) [ inl taken ↦ inl taken | inr same ↦ inr (ap sides.Requester same) ]
quiet rows (sides.Responder y) a = elim (rows.responder y a) [ inl taken ↦ inl taken | inr same ↦ inr (ap sides.Responder same) ]

-- The outcome of a delivery allows the change that it makes.
receives_changes : RefusalsChangeNothing → (p : Party) (found : Option Apdu)
    → MayChange OnlyCommits (receives p found).0 p (receives p found).1
receives_changes rows p None = refl
receives_changes rows p (Some a) =
    elim (quiet rows p.live a) [
      | inl taken ↦ subst (λ answer. MayChange OnlyCommits (answer_to answer) p (receives p (Some a)).1) (sym taken) tt
      | inr same ↦ subst (λ side. MayChange OnlyCommits (receives p (Some a)).0 p (record p { live = side })) (sym same)
          (nothing_changes (receives p (Some a)).0 p)
    ]

-- The outcome of each event allows the change of its party.
party_changes : RefusalsChangeNothing → (p : Party) (partner_sent : List (Option Apdu)) (event : Event)
    → MayChange OnlyCommits (happens_to p partner_sent event).0 p (happens_to p partner_sent event).1
party_changes rows p partner_sent (events.Wish wish) = decides_changes p (acts p.live (actions.Wish wish))
party_changes rows p partner_sent (events.Deed deed today) = decides_changes p (acts p.live (actions.Deed deed today))
party_changes rows p partner_sent (events.Save of) = tt
party_changes rows p partner_sent (events.SaveFault of committed) = fails_changes p partner_sent of committed
party_changes rows p partner_sent (events.Send of n) = sends_changes p n _ _
party_changes rows p partner_sent (events.Deliver of n) = receives_changes rows p (sent_message partner_sent n)
party_changes rows p partner_sent (events.Noise of bytes) = nothing_changes (hears p (apdu_at bytes)) p
party_changes rows p partner_sent (events.Restart of) = tt

-- ---- the world

-- If at most the committed side of one party has changed, `OnlyCommittedChanges` holds of the world.
committed_of_one : (w : Parties) (of : Role) (new : Party) → OnlyCommits (party w of) new
    → OnlyCommittedChanges w (with_party w of new)
committed_of_one w who.Requester new commits = (commits, same_commits w.responder)
committed_of_one w who.Responder new commits = (same_commits w.requester, commits)

-- If a party is replaced by itself, the world is unchanged.
same_world : (w : Parties) (of : Role) (new : Party) → new ≡ party w of → with_party w of new ≡ w
same_world w who.Requester new same = ap (with_party w who.Requester) same
same_world w who.Responder new same = ap (with_party w who.Responder) same

-- If an outcome allows the change of one party, it allows the change of the world.
changes_of_one : (outcome : Outcome) (w : Parties) (of : Role) (new : Party)
    → MayChange OnlyCommits outcome (party w of) new → MayChange OnlyCommittedChanges outcome w (with_party w of new)
changes_of_one Done w of new changes = tt
changes_of_one Saved w of new changes = tt
changes_of_one Sent w of new changes = tt
changes_of_one Restarted w of new changes = tt
changes_of_one (Answered Taken) w of new changes = tt
changes_of_one (Answered Repeat) w of new changes = same_world w of new changes
changes_of_one (Answered Stale) w of new changes = same_world w of new changes
changes_of_one (Answered (Conflict state)) w of new changes = same_world w of new changes
changes_of_one Faulted w of new changes = committed_of_one w of new changes
changes_of_one other w of new changes = same_world w of new changes

-- Each outcome allows a world to stay unchanged.
pub same_changes : (w : Parties) (outcome : Outcome) → MayChange OnlyCommittedChanges outcome w w
same_changes w outcome = changes_of_one outcome w who.Requester w.requester (nothing_changes outcome w.requester)

-- The outcome of each event allows the change of the world.
pub world_changes : RefusalsChangeNothing → (w : Parties) (event : Event)
    → MayChange OnlyCommittedChanges (happens w event).0 w (happens w event).1
world_changes rows w event =
    let of = who_of event in
    changes_of_one (happens w event).0 w of _ (party_changes rows (party w of) (party w (other of)).sent event)

-- ---- sent messages

-- If one party keeps its sent messages, and the other is unchanged, the world keeps all sent messages.
sent_by_one : (w : Parties) (of : Role) (new : Party)
    → ((n : ℕ) (a : Apdu) → sent_message (party w of).sent n ≡ Some a → sent_message new.sent n ≡ Some a)
    → KeepsSent w (with_party w of new)
sent_by_one w who.Requester new keeps who.Requester n a was = keeps n a was
sent_by_one w who.Requester new keeps who.Responder n a was = was
sent_by_one w who.Responder new keeps who.Responder n a was = keeps n a was
sent_by_one w who.Responder new keeps who.Requester n a was = was

-- If a world satisfies the invariant, `SendsSaved` holds of both parties.
pub saved_by : (txn : Qualifiers) (w : Parties) (of : Role) → Invariant txn w → SendsSaved (party w of)
saved_by txn w who.Requester stands = stands.requester.saved
saved_by txn w who.Responder stands = stands.responder.saved

-- Each event keeps all sent messages.
pub event_keeps_sent : (txn : Qualifiers) (w : Parties) (event : Event) → Invariant txn w → KeepsSent w (happens w event).1
event_keeps_sent txn w event stands =
    let of = who_of event in
    sent_by_one w of _ (stays_sent (party w of) (party w (other of)).sent event (saved_by txn w of stands))

-- Each event keeps the invariant.
abbrev pub After : Qualifiers → Type 0
After txn = (w : Parties) (event : Event) → Invariant txn w → Invariant txn (happens w event).1

-- Further events keep all messages that were sent in `w`.
pub further_keeps_sent : (txn : Qualifiers) → After txn → (w : Parties) (more : List Event) → Invariant txn w
    → KeepsSent w (run_of w more)
unfolding run_by
further_keeps_sent txn after w [] stands = λ of n a was. was
further_keeps_sent txn after w (event ∷ more) stands =
    λ of n a was. further_keeps_sent txn after (happens w event).1 more (after w event stands) of n a
    (event_keeps_sent txn w event stands of n a was)

-- All messages that were sent after `events` are still sent after `more`.
pub run_keeps_sent : (txn : Qualifiers) → After txn → (w : Parties) (events more : List Event) → Invariant txn w
    → KeepsSent (run_of w events) (run_of w (events ++ more))
unfolding run_by
run_keeps_sent txn after w [] more stands = further_keeps_sent txn after w more stands
run_keeps_sent txn after w (event ∷ events) more stands =
    run_keeps_sent txn after (happens w event).1 events more (after w event stands)
