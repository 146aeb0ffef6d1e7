-- Each event keeps the invariant of a party.
use Rattle.std.proofs.Common.{◌≡◌, ℕ, Bool, true, false, nat_le, List, Option, Some, None, Result, Ok, Err, refl, sym, subst}
use Rattle.ill_values.specs.declared.apdu.Apdu.{Apdu}
use Rattle.ill_core.specs.declared.refusal.Refusal.{Refusal}
use Rattle.ill_core.specs.Issued.{message}
use Rattle.ill_record.specs.declared.side.Side.{Side}
use Rattle.ill_record.specs.declared.side.Action.{Action}
use Rattle.ill_record.specs.declared.side.Action.TheVariants as actions
use Rattle.ill_record.specs.Side.{issued_of, acts, takes, IsSideTransition, Grows, acted, took}
use Rattle.ill_world.specs.declared.event.Event.{Event}
use Rattle.ill_world.specs.declared.event.Event.TheVariants as events
use Rattle.ill_world.specs.World.{Party, sent_message, decides, sends, receives, happens_to}
use Rattle.ill_world.specs.Invariant.{WasSent, SendsSaved, PartyInvariant}
use Rattle.ill_world.proofs.Sendings.{live_grows, saved_now, saved_by_fault, saved_at_restart, saved_by_send, sent_stays}

-- ---- facts of the tables

-- A transition takes no message away, and keeps the role and the transaction.
abbrev pub RowsGrow : Type 0
RowsGrow = (old new : Side) → IsSideTransition old new → Grows old new

-- An action keeps `K`, and so does a taken message of `partner_sent`. Further messages in `partner_sent` keep it too.
pub record Keeps (K : Side → List (Option Apdu) → Type 0) : Type 0 where
  pub acts : (old new : Side) (action : Action) (partner_sent : List (Option Apdu)) → acts old action ≡ Ok new
      → K old partner_sent → K new partner_sent
  pub more : (side : Side) (partner_sent more : List (Option Apdu)) → ((a : Apdu) → WasSent partner_sent a → WasSent more a)
      → K side partner_sent → K side more
  pub takes : (old : Side) (a : Apdu) (partner_sent : List (Option Apdu)) → WasSent partner_sent a → K old partner_sent
      → K (takes old a).1 partner_sent

-- ---- one event

-- A decision keeps `PartyInvariant`.
party_decides : (K : Side → List (Option Apdu) → Type 0) (p : Party) (partner_sent : List (Option Apdu)) (action : Action)
    (result : Result Side Refusal)
    → RowsGrow → Keeps K → acts p.live action ≡ result
    → PartyInvariant K p partner_sent → PartyInvariant K (decides p result).1 partner_sent
party_decides K p partner_sent action (Ok new) grows keeps e stands = record {
  saved = live_grows p new (grows p.live new (acted action e)).1 stands.saved;
  live = keeps.acts p.live new action partner_sent e stands.live;
  committed = stands.committed;
}
party_decides K p partner_sent action (Err refusal) grows keeps e stands = stands

-- The delivery of a message of `partner_sent` keeps `PartyInvariant`.
party_receives : (K : Side → List (Option Apdu) → Type 0) (p : Party) (partner_sent : List (Option Apdu)) (n : ℕ)
    (found : Option Apdu)
    → RowsGrow → Keeps K → sent_message partner_sent n ≡ found
    → PartyInvariant K p partner_sent → PartyInvariant K (receives p found).1 partner_sent
party_receives K p partner_sent n None grows keeps e stands = stands
party_receives K p partner_sent n (Some a) grows keeps e stands = record {
  saved = live_grows p (takes p.live a).1 (grows p.live (takes p.live a).1 (took a refl)).1 stands.saved;
  live = keeps.takes p.live a partner_sent (n, e) stands.live;
  committed = stands.committed;
}

-- A failed save keeps `PartyInvariant`.
party_fails : (K : Side → List (Option Apdu) → Type 0) (p : Party) (partner_sent : List (Option Apdu)) (who : _)
    (committed : Bool)
    → PartyInvariant K p partner_sent
    → PartyInvariant K (happens_to p partner_sent (events.SaveFault who committed)).1 partner_sent
party_fails K p partner_sent who true stands =
    record { saved = saved_by_fault p true stands.saved; live = stands.live; committed = stands.live }
party_fails K p partner_sent who false stands = stands

-- A Send keeps `PartyInvariant`.
party_sends : (K : Side → List (Option Apdu) → Type 0) (p : Party) (partner_sent : List (Option Apdu)) (n : ℕ)
    (found : Option Apdu) (released : Bool)
    → message (issued_of p.live) n ≡ found
    → nat_le n p.released ≡ released → PartyInvariant K p partner_sent
    → PartyInvariant K (sends p n found released).1 partner_sent
party_sends K p partner_sent n None released is e stands = stands
party_sends K p partner_sent n (Some a) false is e stands = stands
party_sends K p partner_sent n (Some a) true is e stands =
    record { saved = saved_by_send p n (Some a) true is e stands.saved; live = stands.live; committed = stands.committed }

-- Each event keeps `PartyInvariant`.
pub party_kept : (K : Side → List (Option Apdu) → Type 0) (p : Party) (partner_sent : List (Option Apdu)) (event : Event)
    → RowsGrow → Keeps K → PartyInvariant K p partner_sent
    → PartyInvariant K (happens_to p partner_sent event).1 partner_sent
party_kept K p partner_sent (events.Wish wish) grows keeps stands =
    party_decides K p partner_sent (actions.Wish wish) (acts p.live (actions.Wish wish)) grows keeps refl stands
party_kept K p partner_sent (events.Deed deed today) grows keeps stands =
    party_decides K p partner_sent (actions.Deed deed today) (acts p.live (actions.Deed deed today)) grows keeps refl stands
party_kept K p partner_sent (events.Save who) grows keeps stands =
    record { saved = saved_now p stands.saved; live = stands.live; committed = stands.live }
party_kept K p partner_sent (events.SaveFault who committed) grows keeps stands =
    party_fails K p partner_sent who committed stands
party_kept K p partner_sent (events.Send who n) grows keeps stands =
    party_sends K p partner_sent n (message (issued_of p.live) n) (nat_le n p.released) refl refl stands
party_kept K p partner_sent (events.Deliver who n) grows keeps stands =
    party_receives K p partner_sent n (sent_message partner_sent n) grows keeps refl stands
party_kept K p partner_sent (events.Noise who bytes) grows keeps stands = stands
party_kept K p partner_sent (events.Restart who) grows keeps stands =
    record { saved = saved_at_restart p stands.saved; live = stands.committed; committed = stands.committed }

-- `PartyInvariant` holds with `more` if it holds with `partner_sent`, and `more` has each message of `partner_sent`.
pub more_sent : (K : Side → List (Option Apdu) → Type 0) (p : Party) (partner_sent more : List (Option Apdu)) → Keeps K
    → ((a : Apdu) → WasSent partner_sent a → WasSent more a) → PartyInvariant K p partner_sent
    → PartyInvariant K p more
more_sent K p partner_sent more keeps stays stands =
    record {
      saved = stands.saved;
      live = keeps.more p.live partner_sent more stays stands.live;
      committed = keeps.more p.committed partner_sent more stays stands.committed;
    }

-- ---- sent messages

-- A decision leaves the sent messages unchanged.
decides_sends : (p : Party) (result : Result Side Refusal) → (decides p result).1.sent ≡ p.sent
decides_sends p (Ok new) = refl
decides_sends p (Err refusal) = refl

-- A delivery leaves the messages that the receiving party has sent unchanged.
receives_sends : (p : Party) (found : Option Apdu) → (receives p found).1.sent ≡ p.sent
receives_sends p None = refl
receives_sends p (Some a) = refl

-- A failed save leaves the sent messages unchanged.
fails_sends : (p : Party) (partner_sent : List (Option Apdu)) (who : _) (committed : Bool)
    → (happens_to p partner_sent (events.SaveFault who committed)).1.sent ≡ p.sent
fails_sends p partner_sent who true = refl
fails_sends p partner_sent who false = refl

-- A message that a party has sent stays sent, under its number, after each event.
pub stays_sent : (p : Party) (partner_sent : List (Option Apdu)) (event : Event) → SendsSaved p → (m : ℕ) (a : Apdu)
    → sent_message p.sent m ≡ Some a → sent_message (happens_to p partner_sent event).1.sent m ≡ Some a
stays_sent p partner_sent (events.Wish wish) saved m a was =
    subst (λ s. sent_message s m ≡ Some a) (sym (decides_sends p (acts p.live (actions.Wish wish)))) was
stays_sent p partner_sent (events.Deed deed today) saved m a was =
    subst (λ s. sent_message s m ≡ Some a) (sym (decides_sends p (acts p.live (actions.Deed deed today)))) was
stays_sent p partner_sent (events.Save who) saved m a was = was
stays_sent p partner_sent (events.SaveFault who committed) saved m a was =
    subst (λ s. sent_message s m ≡ Some a) (sym (fails_sends p partner_sent who committed)) was
stays_sent p partner_sent (events.Send who n) saved m a was =
    sent_stays p n (message (issued_of p.live) n) (nat_le n p.released) refl refl saved m a was
stays_sent p partner_sent (events.Deliver who n) saved m a was =
    subst (λ s. sent_message s m ≡ Some a) (sym (receives_sends p (sent_message partner_sent n))) was
stays_sent p partner_sent (events.Noise who bytes) saved m a was = was
stays_sent p partner_sent (events.Restart who) saved m a was = was

-- A message that a party has sent stays sent, under some number, after each event.
pub was_sent_still : (p : Party) (partner_sent : List (Option Apdu)) (event : Event) → SendsSaved p → (a : Apdu)
    → WasSent p.sent a → WasSent (happens_to p partner_sent event).1.sent a
was_sent_still p partner_sent event saved a was = (was.0, stays_sent p partner_sent event saved was.0 a was.1)
