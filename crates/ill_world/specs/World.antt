-- The two-party model has two sides, the committed record of each, and the messages that each has sent. The model knows
-- no bytes but the bytes of noise, and no stores. It is this profile's own.
use Rattle.std.specs.Prelude.{ℕ, zero, suc, Bool, true, false, nat_le, List, [], ◌∷◌, length, replicate, slice_get, Option, Some}
use Rattle.std.specs.Prelude.{None, Result, Ok, Err, if◌then◌else◌}
use Rattle.std.specs.List.{slice_set}
use Rattle.std.specs.Option.{option_flatten}
use Rattle.ill_values.specs.declared.apdu.Apdu.{Apdu}
use Rattle.ill_values.specs.TxnId.{Qualifiers}
use Rattle.ill_der.specs.declared.fault.DerFault.{DerFault}
use Rattle.ill_der.specs.ShortForm.{apdu_at}
use Rattle.ill_core.specs.declared.refusal.Refusal.{Refusal}
use Rattle.ill_core.specs.declared.refusal.Refusal.TheVariants.{OtherTransaction}
use Rattle.ill_core.specs.declared.taking.Taking.{Taking}
use Rattle.ill_core.specs.Issued.{message, is_same_txn}
use Rattle.ill_record.specs.declared.side.Side.{Side}
use Rattle.ill_record.specs.declared.side.Action.TheVariants as actions
use Rattle.ill_record.specs.Side.{issued_of, txn_of, idle_side, other, acts, takes}
use Rattle.ill_record.specs.declared.role.Role.{Role}
use Rattle.ill_record.specs.declared.role.Role.TheVariants.{Requester, Responder}
use Rattle.ill_world.specs.declared.event.Event.{Event}
use Rattle.ill_world.specs.declared.event.Event.TheVariants.{Wish, Deed, Save, SaveFault, Send, Deliver, Noise, Restart}
use Rattle.ill_words.specs.declared.outcome.Outcome.{Outcome}
use Rattle.ill_words.specs.declared.outcome.Outcome.TheVariants.{Done, Saved, Faulted, Sent, Answered, Refused, NoSuchMessage}
use Rattle.ill_words.specs.declared.outcome.Outcome.TheVariants.{NotSaved, NotSent, Garbled, Forged, Restarted}

-- ---- the world

-- A party has its side in memory (`live`), its committed side, and the count of its released messages. The committed
-- side is idle if nothing is committed. `sent` has message n at place n - 1, or `None` if it was not sent.
pub record Party : Type 0 where
  pub live : Side
  pub committed : Side
  pub released : ℕ
  pub sent : List (Option Apdu)

-- A pair has one value of type `P` for the requester of a loan, and one for its responder.
pub record TwoOf (P : Type 0) : Type 0 where
  pub requester : P
  pub responder : P

-- A world is the two parties of a transaction.
abbrev pub Parties : Type 0
Parties = TwoOf Party

-- A party that has sent no message has 255 empty places.
abbrev pub nothing_sent : List (Option Apdu)
nothing_sent = replicate 255 None

-- Returns a party with `idle` as its live and committed side, which has released and sent nothing.
abbrev pub first_party : Side → Party
first_party idle = record { live = idle; committed = idle; released = 0; sent = nothing_sent }

-- Returns the first world of `txn`. Both parties are idle, and have released and sent nothing.
abbrev pub first_world : Qualifiers → Parties
first_world txn = record {
  requester = first_party (idle_side Requester txn);
  responder = first_party (idle_side Responder txn);
}

-- Returns the member of `w` that has the given role.
abbrev pub party : {P : Type 0} → TwoOf P → Role → P
party w Requester = w.requester
party w Responder = w.responder

-- Returns `w` with `p` in the given role.
abbrev pub with_party : {P : Type 0} → TwoOf P → Role → P → TwoOf P
with_party w Requester p = record w { requester = p }
with_party w Responder p = record w { responder = p }

-- Returns message n of `sent`, or `None` if it was not sent. No message has the number 0.
abbrev pub sent_message : List (Option Apdu) → ℕ → Option Apdu
sent_message sent zero = None
sent_message sent (suc n) = option_flatten (slice_get sent n)

-- Returns `sent` with `a` as message n. The number 0 changes nothing.
abbrev pub with_sent : List (Option Apdu) → ℕ → Apdu → List (Option Apdu)
with_sent sent zero a = sent
with_sent sent (suc n) a = slice_set sent n (Some a)

-- ---- one event

-- Returns the outcome and the party after a decision of its library. The second argument is the new live side, or the
-- refusal of the decision.
abbrev pub decides : Party → Result Side Refusal → Outcome × Party
decides p (Ok new) = (Done, record p { live = new })
decides p (Err refusal) = (Refused refusal, p)

-- A save commits the live side, and releases all its messages.
abbrev pub saves : Party → Party
saves p = record p { committed = p.live; released = length (issued_of p.live) }

-- A save that fails commits the live side if the Bool is true. It releases nothing.
abbrev pub fails_to_save : Party → Bool → Party
fails_to_save p true = record p { committed = p.live }
fails_to_save p false = p

-- Returns the outcome of a Send at party `p`, and the party after it. The third argument is the issued message, if
-- there is one. The Bool is true if the message is released. A message that is issued and released is sent. Then
-- `sending` gives the party.
abbrev pub sends_by : {P : Type 0} → P → (Apdu → P) → Option Apdu → Bool → Outcome × P
sends_by p sending None is_released = (NoSuchMessage, p)
sends_by p sending (Some a) false = (NotSaved, p)
sends_by p sending (Some a) true = (Sent, sending a)

-- Returns the outcome of a Send of message n, and the party after it. `issued` is message n, if `p` has issued it. If
-- the message is sent, it joins `p.sent`.
abbrev pub sends : Party → ℕ → Option Apdu → Bool → Outcome × Party
sends p n issued is_released = sends_by p (λ a. record p { sent = with_sent p.sent n a }) issued is_released

-- Returns the outcome of a delivered message, by its answer or its refusal.
abbrev pub answer_to : Result Taking Refusal → Outcome
answer_to (Ok taking) = Answered taking
answer_to (Err refusal) = Refused refusal

-- Returns the outcome and the party after its live side takes `a`, a message of the other party.
abbrev pub takes_message : Party → Apdu → Outcome × Party
takes_message p a = (answer_to (takes p.live a).0, record p { live = (takes p.live a).1 })

-- Returns the outcome of a delivery, and the party after it. The second argument is the message, if the other party has
-- sent it. Otherwise nothing is delivered.
abbrev pub receives : Party → Option Apdu → Outcome × Party
receives p None = (NotSent, p)
receives p (Some a) = takes_message p a

-- Returns the outcome of noise, by the APDU with which its bytes begin. Exactly one APDU of the party's transaction is
-- Forged. Exactly one APDU of another transaction is refused. Other bytes are Garbled. Noise changes nothing.
abbrev pub hears : Party → Result (Apdu × List ℕ) DerFault → Outcome
hears p (Ok (a, [])) = if is_same_txn a.txn (txn_of p.live) then Forged else Refused OtherTransaction
hears p (Ok (a, byte ∷ rest)) = Garbled
hears p (Err fault) = Garbled

-- A restart replaces the live side by the committed one, and releases all its messages.
abbrev pub restarts : Party → Party
restarts p = record p { live = p.committed; released = length (issued_of p.committed) }

-- Returns the outcome of an event, and party `p` after it. `sent` has the messages of the other party.
abbrev pub happens_to : Party → List (Option Apdu) → Event → Outcome × Party
happens_to p sent (Wish wish) = decides p (acts p.live (actions.Wish wish))
happens_to p sent (Deed deed today) = decides p (acts p.live (actions.Deed deed today))
happens_to p sent (Save who) = (Saved, saves p)
happens_to p sent (SaveFault who committed) = (Faulted, fails_to_save p committed)
happens_to p sent (Send who n) = sends p n (message (issued_of p.live) n) (nat_le n p.released)
happens_to p sent (Deliver who n) = receives p (sent_message sent n)
happens_to p sent (Noise who bytes) = (hears p (apdu_at bytes), p)
happens_to p sent (Restart who) = (Restarted, restarts p)

-- Returns the role of the party to which an event happens.
abbrev pub who_of : Event → Role
who_of (Wish wish) = Requester
who_of (Deed deed today) = Responder
who_of (Save who) = who
who_of (SaveFault who committed) = who
who_of (Send who n) = who
who_of (Deliver who n) = who
who_of (Noise who bytes) = who
who_of (Restart who) = who

-- Returns the outcome of `happening` at the member with role `who`, and the world after it. `happening` takes the other
-- member too, which stays unchanged.
abbrev pub happens_at : {P O : Type 0} → TwoOf P → Role → (P → P → O × P) → O × TwoOf P
happens_at w who happening =
    let after = happening (party w who) (party w (other who)) in
    (after.0, with_party w who after.1)

-- Returns the outcome of `event`, and the world after it.
abbrev pub happens : Parties → Event → Outcome × Parties
happens w event = happens_at w (who_of event) (λ p partner. happens_to p partner.sent event)

-- ---- a run: one event after another

-- Returns the world after `events`, from `w` on. `happening` gives the outcome of each event, and the world after it.
unfoldable pub run_by : {W E O : Type 0} → (W → E → O × W) → W → List E → W
run_by happening w [] = w
run_by happening w (event ∷ events) = run_by happening (happening w event).1 events

-- Returns the world after `events`, from `w` on.
abbrev pub run_of : Parties → List Event → Parties
run_of w events = run_by happens w events
