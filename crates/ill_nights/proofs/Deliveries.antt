-- Proves that a delivery leads the side of each transaction on by the message, if it is of this transaction.
use Rattle.std.proofs.Common.{◌≡◌, ℕ, Bool, true, false, cond, [], ◌∷◌, Some, None, Result, Ok, Err, if◌then◌else◌}
use Rattle.std.proofs.Common.{refl, sym, ap, ◌∙◌, subst}
use Rattle.ill_values.specs.TxnId.{Qualifiers}
use Rattle.ill_values.specs.Bodies.{is_ill_request}
use Rattle.ill_values.specs.declared.apdu.Apdu.{Apdu}
use Rattle.ill_core.specs.declared.refusal.Refusal.{Refusal}
use Rattle.ill_core.specs.declared.refusal.Refusal.TheVariants.{WrongRole}
use Rattle.ill_core.specs.declared.taking.Taking.{Taking}
use Rattle.ill_core.specs.Issued.{is_same_txn}
use Rattle.ill_saved.specs.declared.fault.DeskFault.{DeskFault}
use Rattle.ill_saved.specs.declared.fault.DeskFault.TheVariants as faults
use Rattle.ill_record.specs.declared.role.Role.{Role}
use Rattle.ill_record.specs.declared.role.Role.TheVariants as who
use Rattle.ill_record.specs.declared.side.Side.{Side}
use Rattle.ill_record.specs.Side.{idle_side, other, takes}
use Rattle.ill_saved.specs.Holdings.{DeskEntry}
use Rattle.ill_saved.specs.ManySides.{DeskContents, contents_after_message, desk_takes, found_by, found_or, held_for, idle_held}
use Rattle.ill_saved.specs.ManySides.{is_own, side_for_call, takes_reached, txn_held}
use Rattle.ill_record.proofs.Finding.{same_is}
use Rattle.ill_words.specs.declared.outcome.DeskOutcome.TheVariants.{NoSuchTransaction}
use Rattle.ill_world.specs.declared.event.Event.TheVariants as events
use Rattle.ill_world.specs.declared.event.DeskEvent.TheVariants as desk_events
use Rattle.ill_world.specs.World.{Party, Parties, party, with_party, sent_message, receives, happens}
use Rattle.ill_world.specs.Desks.{DeskParty, DeskParties, sent_for, desk_receives, taking_seen, desks_happen}
use Rattle.ill_world.specs.Desks.{project}
use Rattle.ill_world.specs.DeskChanges.{Reaches}
use Rattle.ill_world.specs.DeskSafety.{DesksInvariant}
use Rattle.ill_world.proofs.Desks.{EachProjects, EachStands, keeps_to}
use Rattle.ill_world.proofs.DeskArrivals.{EachReaches}
use Rattle.ill_world.proofs.DeskCounts.{none_sent, finds_room}
use Rattle.ill_world.proofs.DeskRounds.{idle_takes, not_reached, seen_alike, seen_elsewhere, shown}
use Rattle.ill_world.proofs.Rounds.{takes_all}
use Rattle.ill_nights.specs.Messages.{messages_for}

-- ---- the desk and the party after an event

-- If `q` takes the place of the desk of `role`, the desk of `role` is `q`.
pub desk_led : (role : Role) (w : DeskParties) (q : DeskParty) → party (with_party w role q) role ≡ q
desk_led who.Requester w q = refl
desk_led who.Responder w q = refl

-- If `q` takes the place of the desk of `role`, the other desk stays as it was.
pub other_stays : (role : Role) (w : DeskParties) (q : DeskParty)
    → party (with_party w role q) (other role) ≡ party w (other role)
other_stays who.Requester w q = refl
other_stays who.Responder w q = refl

-- If the other party has sent `a` as message n, a delivery of n leads the live side on by `a`.
delivered : (role : Role) (v : Parties) (n : ℕ) (a : Apdu) → sent_message (party v (other role)).sent n ≡ Some a
    → (party (happens v (events.Deliver role n)).1 role).live ≡ (takes (party v role).live a).1
delivered who.Requester v n a there = ap (λ found. (receives v.requester found).1.live) there
delivered who.Responder v n a there = ap (λ found. (receives v.responder found).1.live) there

-- If a desk answers a message with a fault, the contents of the desk are unchanged.
pub fault_stays : (live : DeskContents) (a : Apdu) (fault : DeskFault) → (desk_takes live a).0 ≡ Err fault
    → (desk_takes live a).1 ≡ live
fault_stays live a fault = go (is_own live.role a.body) (side_for_call live a.txn (is_ill_request a.body))
  where
    -- If a side that the message reaches refuses it, the desk stays.
    took : (held : DeskEntry) (answer : Result Taking Refusal) (new : Side)
        → (contents_after_message live held (answer, new)).0 ≡ Err fault
        → (contents_after_message live held (answer, new)).1 ≡ live
    took held (Ok _) new is = absurd cc
    took held (Err refusal) new is = refl

    -- The message reaches a side, or there is none for it.
    reached : (found : Result DeskEntry DeskFault) → (takes_reached live a found).0 ≡ Err fault
        → (takes_reached live a found).1 ≡ live
    reached (Ok held) is = took held (takes held.side a).0 (takes held.side a).1 is
    reached (Err missing) is = refl

    -- If `own` is true, the message is one that only this desk sends.
    go : (own : Bool) (found : Result DeskEntry DeskFault)
        → (if own then (Err (faults.Core WrongRole), live) else takes_reached live a found).0 ≡ Err fault
        → (if own then (Err (faults.Core WrongRole), live) else takes_reached live a found).1 ≡ live
    go true found is = refl
    go false found is = reached found is

module _ (projects : EachProjects) (reaches : EachReaches) (stand : EachStands) (txn : Qualifiers) where
  -- The live side of `txn` at the desk of `role`.
  abbrev pub side_at : Role → DeskParties → Side
  side_at role w = (party (project txn w) role).live

  -- Premise: the other desk has sent `a` as message n of the transaction `of` (`was`).
  module _ (w : DeskParties) (stands : DesksInvariant w) (role : Role) (of : Qualifiers) (n : ℕ) (a : Apdu)
      (was : sent_message (sent_for of (party w (other role)).sent) n ≡ Some a) where
    -- The world after the delivery of message n.
    abbrev next : DeskParties
    next = (desks_happen w (desk_events.Deliver role of n)).1

    -- The message is of the transaction in which it was sent.
    sent_in : of ≡ a.txn
    sent_in = (keeps_to w role stands).txn_of_sent of n a was

    -- The desk after the delivery has taken the message.
    pub desk_took : party next role ≡ record (party w role) { live = (desk_takes (party w role).live a).1 }
    desk_took =
        desk_led role w (desk_receives (party w role) (sent_message (sent_for of (party w (other role)).sent) n)).1
        ∙ ap (λ found. (desk_receives (party w role) found).1) was

    -- The other desk stays as it was.
    pub other_took : party next (other role) ≡ party w (other role)
    other_took = other_stays role w _

    -- The outcome of the delivery is the answer of the desk.
    pub outcome_seen : (desks_happen w (desk_events.Deliver role of n)).0 ≡ taking_seen (desk_takes (party w role).live a).0
    outcome_seen = ap (λ found. (desk_receives (party w role) found).0) was

    -- If the message is of `txn`, but its delivery reaches no side, its delivery between two parties changes nothing.
    missed_stays : is_same_txn txn of ≡ true
        → (desks_happen w (desk_events.Deliver role of n)).0 ≡ NoSuchTransaction
        → (happens (project txn w) (events.Deliver role n)).1 ≡ project txn w
    missed_stays same none = go role was (subst (λ t. found_by txn_held t (party w role).live.held ≡ None) (sym is) unheld.0)
      where
        -- The message is of `txn`, so both are one transaction.
        is : txn ≡ of
        is = same_is txn of same

        -- The desk holds no side for the message, and the message is not an ILL-Request.
        unheld : (found_by txn_held of (party w role).live.held ≡ None) × (is_ill_request a.body ≡ false)
        unheld = not_reached (is_ill_request a.body) _ (found_by txn_held of (party w role).live.held)
            (subst (Reaches (is_ill_request a.body) _ (found_by txn_held of (party w role).live.held)) none
            (reaches w (desk_events.Deliver role of n) stands a was))

        -- A requester without a side was sent nothing. A responder without a side is idle, and takes only an
        -- ILL-Request.
        go : (to : Role) → sent_message (sent_for of (party w (other to)).sent) n ≡ Some a
            → found_by txn_held txn (party w to).live.held ≡ None
            → (happens (project txn w) (events.Deliver to n)).1 ≡ project txn w
        go who.Requester sent nothing =
            absurd (none_sent w stands of n a sent (subst (λ t. found_by txn_held t w.requester.live.held ≡ None) is nothing))
        go who.Responder sent nothing =
            let v : Parties = project txn w in
            let live = w.responder.live in
            let there : sent_message v.requester.sent n ≡ Some a =
            subst (λ t. sent_message (sent_for t w.requester.sent) n ≡ Some a) (sym is) sent in
            let idle : (held_for txn live).side ≡ idle_side who.Responder txn =
            ap (λ found. (found_or (idle_held live.role txn) found).side) nothing
            ∙ ap (λ r. idle_side r txn) stands.responder.0 in
            ap (λ found. record v { responder = (receives v.responder found).1 }) there
            ∙ ap (λ side. record v { responder = record v.responder { live = side } })
            (ap (λ side. (takes side a).1) idle ∙ idle_takes txn a unheld.1 ∙ sym idle)

    -- If the message is of `txn`, the delivery leads the side of `txn` on by it. If not, the side is unchanged.
    pub side_took : side_at role next ≡ takes_all (side_at role w) (messages_for txn (a ∷ []))
    unfolding takes_all
    side_took = go (is_same_txn txn a.txn) refl
      where
        -- If `same` is true, the message is of `txn`, and its delivery is seen there.
        go : (same : Bool) → is_same_txn txn a.txn ≡ same → side_at role next ≡ takes_all (side_at role w) (cond same (a ∷ []) [])
        go true e =
            let own : is_same_txn txn of ≡ true = ap (is_same_txn txn) sent_in ∙ e in
            let there : sent_message (party (project txn w) (other role)).sent n ≡ Some a =
            ap (λ (p : Party). sent_message p.sent n) (shown txn w (other role))
            ∙ ap (λ t. sent_message (sent_for t (party w (other role)).sent) n) (same_is txn of own) ∙ was in
            ap (λ (v : Parties). (party v role).live)
            (seen_alike (is_same_txn txn of) own (happens (project txn w) (events.Deliver role n)) (project txn w)
            (project txn next) (desks_happen w (desk_events.Deliver role of n)).0
            (projects txn w (desk_events.Deliver role of n) stands)
            (λ full. finds_room reaches w role of n stands full) (missed_stays own))
            ∙ delivered role (project txn w) n a there
        go false e =
            ap (λ (v : Parties). (party v role).live)
            (seen_elsewhere (is_same_txn txn of) (ap (is_same_txn txn) sent_in ∙ e)
            (happens (project txn w) (events.Deliver role n))
            (project txn w) (project txn next) (desks_happen w (desk_events.Deliver role of n)).0
            (projects txn w (desk_events.Deliver role of n) stands))
