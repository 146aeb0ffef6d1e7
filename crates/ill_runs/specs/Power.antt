-- A loss of power at a desk, in the terms of the model. It may leave one of several records, from which the desk
-- starts.
use Rattle.std.specs.Prelude.{◌≡◌, ◌⊎◌, ℕ, Bool, List, [], ◌∷◌, Option, Some, Result, Ok, Err}
use Rattle.ill_record.specs.declared.role.Role.{Role}
use Rattle.ill_record.specs.declared.role.Role.TheVariants.{Requester, Responder}
use Rattle.ill_saved.specs.declared.fault.DeskFault.{DeskFault}
use Rattle.ill_record.specs.Side.{other}
use Rattle.ill_record.specs.Sides.{SidesOf}
use Rattle.ill_record.specs.RecordsV2.{records_at}
use Rattle.ill_saved.specs.ManySides.{DeskContents, many_sides, sides_held, whole_of}
use Rattle.ill_desk.specs.Performing.{HeldAndCommitted}
use Rattle.ill_world.specs.declared.event.DeskEvent.{DeskEvent}
use Rattle.ill_world.specs.declared.event.DeskEvent.TheVariants.{Save, SaveFault, Restart}
use Rattle.ill_world.specs.World.{TwoOf, party, with_party, who_of}
use Rattle.ill_world.specs.Desks.{DeskParty, DeskParties, Sending, first_desk, plain, desk_happens_to}
use Rattle.ill_runs.specs.Events.{desk_after, HappenAt, IsReadAs, IsDesk}

-- ---- a start from what is left

-- A loss of power has left the record `left`. It can be read, and the desk that starts from it is the model's desk `q`.
pub record StartsAs (left : Option (List ℕ)) (q : DeskParty) : Type 0 where
  pub file : List ℕ
  pub there : left ≡ Some file
  pub live : many_sides.read file ≡ Ok q.live
  pub committed : records_at file ≡ Ok q.committed

-- The events `events` happen at the desk of `who`. They lead from the model's desk `p` to the one that starts from
-- `left`.
abbrev pub EndsInStart : Role → List Sending → DeskParty → List DeskEvent → Option (List ℕ) → Type 0
EndsInStart who sent p events left = HappenAt who events × StartsAs left (desk_after p sent events)

-- A save that fails, and then a restart, lead from `p` to the desk that starts from `left`.
abbrev pub IsFaultAndRestart : Role → List Sending → DeskParty → Option (List ℕ) → Type 0
IsFaultAndRestart who sent p left =
    (committed : Bool) × EndsInStart who sent p (SaveFault who committed ∷ Restart who ∷ []) left

-- ---- what a loss of power may leave

-- A desk of the model, and the sides of each record that a loss of power may leave of it.
pub record PoweredDesk : Type 0 where
  pub desk : DeskParty
  pub leaves : List SidesOf

-- `sides` are an item of the list.
unfoldable pub IsAmong : SidesOf → List SidesOf → Type 0
IsAmong sides [] = ⊥
IsAmong sides (first ∷ others) = (sides ≡ first) ⊎ IsAmong sides others

-- Returns the sides that a loss of power may leave of desk `p` after an event. `leaves` are those before it. After a
-- save that is done they are the saved ones alone. After one that failed these are added. After a restart they are the
-- committed ones alone.
abbrev pub leaves_after : DeskParty → List SidesOf → DeskEvent → List SidesOf
leaves_after p leaves (Save who) = sides_held p.live ∷ []
leaves_after p leaves (SaveFault who committed) = sides_held p.live ∷ leaves
leaves_after p leaves (Restart who) = p.committed ∷ []
leaves_after p leaves event = leaves

-- Returns desk `p`, and what a loss of power may leave of it, after an event of the model. `sent` has the messages of
-- the other desk.
abbrev pub powered_after : PoweredDesk → List Sending → DeskEvent → PoweredDesk
powered_after p sent event = record {
  desk = (desk_happens_to p.desk sent event).1;
  leaves = leaves_after p.desk p.leaves event;
}

-- Returns the desk of which a loss of power leaves only what is committed.
abbrev pub on_record : DeskParty → PoweredDesk
on_record p = record { desk = p; leaves = p.committed ∷ [] }

-- Returns desk `p` when it has started from the sides `left`. What it has sent stays sent.
abbrev pub started_from : DeskParty → SidesOf → PoweredDesk
started_from p left = on_record (record p { live = whole_of left; committed = left })

-- ---- two desks whose power may go

-- An event of the model happens at one of two desks. Or the desk of `who` loses its power, and starts from `left`.
pub data PowerEvent : Type 0 where
  at_desks : DeskEvent → PowerEvent
  loss : (who : Role) (left : SidesOf) → PowerEvent

-- Two desks whose power may go.
abbrev pub PoweredDesks : Type 0
PoweredDesks = TwoOf PoweredDesk

-- The first two desks hold nothing, and a loss of power leaves nothing else.
abbrev pub first_powered_desks : PoweredDesks
first_powered_desks =
    record { requester = on_record (first_desk Requester); responder = on_record (first_desk Responder) }

-- Returns the two desks alone.
abbrev pub desks_of : PoweredDesks → DeskParties
desks_of w = record { requester = w.requester.desk; responder = w.responder.desk }

-- The event may happen. If it is a loss of power, its sides are among those that the loss may leave.
abbrev pub MayHappen : PoweredDesks → PowerEvent → Type 0
MayHappen w (at_desks event) = Unit {0}
MayHappen w (loss who left) = IsAmong left (party w who).leaves

-- Returns the desks after an event of the model at the desk of `who`.
abbrev pub after_at : PoweredDesks → Role → DeskEvent → PoweredDesks
after_at w who event = with_party w who (powered_after (party w who) (party w (other who)).desk.sent event)

-- Returns the desks after an event.
abbrev pub power_happens : PoweredDesks → PowerEvent → PoweredDesks
power_happens w (at_desks event) = after_at w (who_of (plain event)) event
power_happens w (loss who left) = with_party w who (started_from (party w who).desk left)

-- Returns the desks after `events`, one after another.
unfoldable pub power_run : PoweredDesks → List PowerEvent → PoweredDesks
power_run w [] = w
power_run w (event ∷ events) = power_run (power_happens w event) events

-- Each of `events` may happen after those before it.
unfoldable pub AllMayHappen : PoweredDesks → List PowerEvent → Type 0
AllMayHappen w [] = Unit {0}
AllMayHappen w (event ∷ events) = MayHappen w event × AllMayHappen (power_happens w event) events

-- ---- a desk of the program

-- Each record of which `leaves` holds can be read, and its sides are among `known`.
abbrev pub AreLeft : (Option (List ℕ) → Type 0) → List SidesOf → Type 0
AreLeft leaves known =
    (left : Option (List ℕ)) → leaves left → (sides : SidesOf) × IsReadAs (Some left) sides × IsAmong sides known

-- The program's desk `own` is the model's desk `p`. `leaves` holds of each record that a loss of power may leave of its
-- store.
pub record IsPoweredDesk (own : HeldAndCommitted DeskContents) (leaves : Option (List ℕ) → Type 0) (p : PoweredDesk)
    : Type 0 where
  pub desk : IsDesk own p.desk
  pub left : AreLeft leaves p.leaves

-- Returns the event of the model that a save of a desk with this answer is. If it failed, `committed` is true if its
-- record committed.
abbrev pub save_event : Role → Bool → Result (Unit {0}) DeskFault → DeskEvent
save_event who committed (Ok done) = Save who
save_event who committed (Err fault) = SaveFault who committed
