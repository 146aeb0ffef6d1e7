-- The model of two desks is this profile's own. A desk holds sides of many transactions, commits sides, and has
-- sent messages in each. Of each transaction it shows a party of the two-party model.
use Rattle.std.specs.Prelude.{◌≡◌, ℕ, nat_le, Bool, true, false, if◌then◌else◌, List, [], ◌∷◌, Option, Some, None, Result, Ok}
use Rattle.std.specs.Prelude.{Err}
use Rattle.ill_values.specs.declared.apdu.Apdu.{Apdu}
use Rattle.ill_values.specs.TxnId.{Qualifiers}
use Rattle.ill_der.specs.declared.fault.DerFault.{DerFault}
use Rattle.ill_der.specs.ShortForm.{apdu_at}
use Rattle.ill_core.specs.declared.taking.Taking.{Taking}
use Rattle.ill_core.specs.Issued.{message, is_same_txn}
use Rattle.ill_saved.specs.declared.fault.DeskFault.{DeskFault}
use Rattle.ill_saved.specs.declared.fault.DeskFault.TheVariants as faults
use Rattle.ill_record.specs.declared.side.Action.TheVariants as actions
use Rattle.ill_record.specs.declared.role.Role.{Role}
use Rattle.ill_record.specs.declared.role.Role.TheVariants.{Requester, Responder}
use Rattle.ill_record.specs.Side.{issued_of}
use Rattle.ill_record.specs.Sides.{SidesOf}
use Rattle.ill_saved.specs.Holdings.{DeskEntry}
use Rattle.ill_saved.specs.ManySides.{DeskContents, found_by, put_by, txn_held, found_or, held_for, side_for, sides_held}
use Rattle.ill_saved.specs.ManySides.{whole_of, desk_acts, desk_takes}
use Rattle.ill_world.specs.declared.event.Event.{Event}
use Rattle.ill_world.specs.declared.event.Event.TheVariants as events
use Rattle.ill_world.specs.declared.event.DeskEvent.{DeskEvent}
use Rattle.ill_world.specs.declared.event.DeskEvent.TheVariants.{Wish, Deed, Save, SaveFault, Send, Deliver, Noise, Restart}
use Rattle.ill_words.specs.declared.outcome.Outcome.{Outcome}
use Rattle.ill_words.specs.declared.outcome.Outcome.TheVariants.{Done, Saved, Faulted, Answered, Refused, NotSent, Garbled}
use Rattle.ill_words.specs.declared.outcome.Outcome.TheVariants.{Forged, Restarted}
use Rattle.ill_words.specs.declared.outcome.DeskOutcome.{DeskOutcome}
use Rattle.ill_words.specs.declared.outcome.DeskOutcome.TheVariants.{Plain, NoSuchTransaction, DeskFull}
use Rattle.ill_world.specs.World.{Party, TwoOf, Parties, nothing_sent, sent_message, with_sent, sends_by, who_of, happens}
use Rattle.ill_world.specs.World.{happens_at, run_by}

-- ---- the desks

-- These are the messages that a desk has sent in `txn`. Message n is at place n - 1 of `sent`, if it was sent.
pub record Sending : Type 0 where
  pub txn : Qualifiers
  pub sent : List (Option Apdu)

-- A desk has its contents in memory, its committed sides, and the messages that it has sent in each transaction.
pub record DeskParty : Type 0 where
  pub live : DeskContents
  pub committed : SidesOf
  pub sent : List Sending

-- A world of desks is two desks, of a requester and of a responder.
abbrev pub DeskParties : Type 0
DeskParties = TwoOf DeskParty

-- Returns a desk in `role` that holds nothing, and is committed and sent nothing.
abbrev pub first_desk : Role → DeskParty
first_desk role = record {
  live = record { role = role; held = [] };
  committed = record { role = role; sides = [] };
  sent = [];
}

-- The first two desks hold nothing.
abbrev pub first_desks : DeskParties
first_desks = record { requester = first_desk Requester; responder = first_desk Responder }

-- Returns the transaction in which these messages were sent.
abbrev pub txn_sent : Sending → Qualifiers
txn_sent sending = sending.txn

-- Returns the messages of `all` that were sent in `txn`. If `all` has no entry for it, no message was sent.
abbrev pub sent_for : Qualifiers → List Sending → List (Option Apdu)
sent_for txn all = (found_or (record { txn = txn; sent = nothing_sent }) (found_by txn_sent txn all)).sent

-- Returns `all` with `a` as message n of `txn`.
abbrev pub with_sent_for : Qualifiers → List Sending → ℕ → Apdu → List Sending
with_sent_for txn all n a = put_by txn_sent (record { txn = txn; sent = with_sent (sent_for txn all) n a }) all

-- ---- one event

-- Returns the event of the two-party model: `event` without its transaction.
abbrev pub plain : DeskEvent → Event
plain (Wish txn wish) = events.Wish wish
plain (Deed txn deed today) = events.Deed deed today
plain (Save who) = events.Save who
plain (SaveFault who committed) = events.SaveFault who committed
plain (Send who txn n) = events.Send who n
plain (Deliver who txn n) = events.Deliver who n
plain (Noise who bytes) = events.Noise who bytes
plain (Restart who) = events.Restart who

-- Returns the outcome if an action or a message has this fault.
abbrev pub fault_seen : DeskFault → DeskOutcome
fault_seen (faults.Core refusal) = Plain (Refused refusal)
fault_seen faults.DeskFull = DeskFull
fault_seen other = NoSuchTransaction

-- Returns the outcome and the desk after a decision of the library in one transaction. The second argument is the new
-- live contents, or the fault of the decision.
abbrev pub desk_decides : DeskParty → Result DeskContents DeskFault → DeskOutcome × DeskParty
desk_decides p (Ok new) = (Plain Done, record p { live = new })
desk_decides p (Err fault) = (fault_seen fault, p)

-- A save commits all live sides, and releases all their messages.
abbrev pub desk_saves : DeskParty → DeskParty
desk_saves p = record p { live = whole_of (sides_held p.live); committed = sides_held p.live }

-- A save that fails commits the live sides if the Bool is true. It releases nothing.
abbrev pub desk_fails_to_save : DeskParty → Bool → DeskParty
desk_fails_to_save p true = record p { committed = sides_held p.live }
desk_fails_to_save p false = p

-- Returns the outcome of a Send of message n of `txn`, and the desk after it. The last argument is the held entry of
-- `txn`, if there is one. The message is sent if this entry's side has issued it, and has released it.
abbrev pub desk_sends : DeskParty → Qualifiers → ℕ → Option DeskEntry → DeskOutcome × DeskParty
desk_sends p txn n None = (NoSuchTransaction, p)
desk_sends p txn n (Some held) =
    let after = sends_by p (λ a. record p { sent = with_sent_for txn p.sent n a })
    (message (issued_of held.side) n) (nat_le n held.released) in
    (Plain after.0, after.1)

-- Returns the outcome of a delivered message, by its answer or its fault.
abbrev pub taking_seen : Result Taking DeskFault → DeskOutcome
taking_seen (Ok taking) = Plain (Answered taking)
taking_seen (Err fault) = fault_seen fault

-- Returns the outcome and the desk after it takes `a`, a message of the other desk.
abbrev pub desk_takes_message : DeskParty → Apdu → DeskOutcome × DeskParty
desk_takes_message p a = (taking_seen (desk_takes p.live a).0, record p { live = (desk_takes p.live a).1 })

-- Returns the outcome of a delivery, and the desk after it. Only a message that the other desk has sent is delivered.
abbrev pub desk_receives : DeskParty → Option Apdu → DeskOutcome × DeskParty
desk_receives p None = (Plain NotSent, p)
desk_receives p (Some a) = desk_takes_message p a

-- Returns the outcome of noise, by the APDU with which its bytes begin. Exactly one APDU, of any transaction, is
-- Forged. Other bytes are Garbled. Noise changes nothing.
abbrev pub desk_hears : Result (Apdu × List ℕ) DerFault → Outcome
desk_hears (Ok (a, [])) = Forged
desk_hears (Ok (a, byte ∷ rest)) = Garbled
desk_hears (Err fault) = Garbled

-- A restart replaces the live sides by the committed ones, and releases all their messages.
abbrev pub desk_restarts : DeskParty → DeskParty
desk_restarts p = record p { live = whole_of p.committed }

-- Returns the outcome of an event, and desk `p` after it. `sent` has the messages of the other desk.
abbrev pub desk_happens_to : DeskParty → List Sending → DeskEvent → DeskOutcome × DeskParty
desk_happens_to p sent (Wish txn wish) = desk_decides p (desk_acts p.live txn (actions.Wish wish))
desk_happens_to p sent (Deed txn deed today) = desk_decides p (desk_acts p.live txn (actions.Deed deed today))
desk_happens_to p sent (Save who) = (Plain Saved, desk_saves p)
desk_happens_to p sent (SaveFault who committed) = (Plain Faulted, desk_fails_to_save p committed)
desk_happens_to p sent (Send who txn n) = desk_sends p txn n (found_by txn_held txn p.live.held)
desk_happens_to p sent (Deliver who txn n) = desk_receives p (sent_message (sent_for txn sent) n)
desk_happens_to p sent (Noise who bytes) = (Plain (desk_hears (apdu_at bytes)), p)
desk_happens_to p sent (Restart who) = (Plain Restarted, desk_restarts p)

-- Returns the outcome of `event`, and both desks after it.
abbrev pub desks_happen : DeskParties → DeskEvent → DeskOutcome × DeskParties
desks_happen w event = happens_at w (who_of (plain event)) (λ p partner. desk_happens_to p partner.sent event)

-- Returns the desks after `events`, from `w` on.
abbrev pub desks_run : DeskParties → List DeskEvent → DeskParties
desks_run w events = run_by desks_happen w events

-- ---- one transaction

-- Returns the party that desk `p` shows of `txn`. A side that is not held, or has not committed, is idle.
abbrev pub party_for : Qualifiers → DeskParty → Party
party_for txn p = record {
  live = (held_for txn p.live).side;
  committed = side_for txn p.committed;
  released = (held_for txn p.live).released;
  sent = sent_for txn p.sent;
}

-- Returns the projection of two desks to `txn`: the two parties of `txn` that they show.
abbrev pub project : Qualifiers → DeskParties → Parties
project txn w = record { requester = party_for txn w.requester; responder = party_for txn w.responder }

-- Returns true if the event names `txn`, or is a save, a failed save or a restart of a desk. Noise concerns no
-- transaction.
abbrev pub concerns : Qualifiers → DeskEvent → Bool
concerns txn (Wish named wish) = is_same_txn txn named
concerns txn (Deed named deed today) = is_same_txn txn named
concerns txn (Save who) = true
concerns txn (SaveFault who committed) = true
concerns txn (Send who named n) = is_same_txn txn named
concerns txn (Deliver who named n) = is_same_txn txn named
concerns txn (Noise who bytes) = false
concerns txn (Restart who) = true

-- Returns `may_be` if the outcome is `Plain`: the event reaches its transaction. Else returns false.
abbrev pub if_reached : DeskOutcome → Bool → Bool
if_reached (Plain outcome) may_be = may_be
if_reached other may_be = false

-- Returns true if the event is one of `txn`: it concerns `txn`, and reaches it.
abbrev pub is_event_of : Qualifiers → DeskParties → DeskEvent → Bool
is_event_of txn w event = if_reached (desks_happen w event).0 (concerns txn event)

-- Returns the events of `txn` among the events of desks, in order.
unfoldable pub events_for : Qualifiers → DeskParties → List DeskEvent → List Event
events_for txn w [] = []
events_for txn w (event ∷ events) =
    let others = events_for txn (desks_happen w event).1 events in
    if is_event_of txn w event then plain event ∷ others else others

-- If the Bool is true, `outcome` and `new` are those of `expected`. Else `new` is `old`. Both are projections, or parts
-- of projections, before and after an event.
abbrev pub IsSeenAs : {P : Type 0} → Bool → Outcome × P → P → DeskOutcome → P → Type 0
IsSeenAs true expected old outcome new = (outcome ≡ Plain expected.0) × (new ≡ expected.1)
IsSeenAs false expected old outcome new = new ≡ old

-- An event of desks is one event of `txn`, with its outcome, or leaves the projection to `txn` unchanged.
abbrev pub Projects : Qualifiers → DeskParties → DeskEvent → Type 0
Projects txn w event =
    let after = desks_happen w event in
    IsSeenAs (is_event_of txn w event) (happens (project txn w) (plain event)) (project txn w) after.0 (project txn after.1)
