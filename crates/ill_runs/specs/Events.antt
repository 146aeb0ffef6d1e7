-- Defines which events of the model of two desks a command is. A desk of the program is seen by its sides and the
-- content of its store.
use Rattle.std.specs.Prelude.{◌≡◌, ℕ, List, [], ◌∷◌, Option, Some, Result, Ok, Err}
use Rattle.ill_record.specs.declared.role.Role.{Role}
use Rattle.ill_record.specs.Sides.{SidesOf}
use Rattle.ill_record.specs.RecordsV2.{records_at}
use Rattle.ill_saved.specs.ManySides.{DeskContents}
use Rattle.ill_text.specs.declared.fault.ToolFault.{ToolFault}
use Rattle.ill_desk.specs.Performing.{HeldAndCommitted}
use Rattle.ill_world.specs.declared.event.DeskEvent.{DeskEvent}
use Rattle.ill_world.specs.World.{who_of}
use Rattle.ill_world.specs.Desks.{DeskParty, Sending, plain, desk_happens_to}

-- ---- events at one desk

-- Returns desk `p` after `events`, which happen to it one after another. `sent` has the messages of the other desk.
unfoldable pub desk_after : DeskParty → List Sending → List DeskEvent → DeskParty
desk_after p sent [] = p
desk_after p sent (event ∷ events) = desk_after (desk_happens_to p sent event).1 sent events

-- Each of `events` happens to the desk of the role `who`.
unfoldable pub HappenAt : Role → List DeskEvent → Type 0
HappenAt who [] = Unit {0}
HappenAt who (event ∷ events) = (who_of (plain event) ≡ who) × HappenAt who events

-- Some events at the desk of the role `who` lead from `p` to `q`. `sent` has the messages of the other desk.
pub record Leads (who : Role) (sent : List Sending) (p q : DeskParty) : Type 0 where
  pub events : List DeskEvent
  pub here : HappenAt who events
  pub after : desk_after p sent events ≡ q

-- ---- a desk of the program and a desk of the model

-- The content of a store is known. It is a record that is read as the sides `committed`.
abbrev pub IsReadAs : Option (Option (List ℕ)) → SidesOf → Type 0
IsReadAs (Some (Some bytes)) committed = records_at bytes ≡ Ok committed
IsReadAs content committed = ⊥

-- The program's desk is the model's desk `p`. It holds the sides of `p`, and its store has the committed ones.
pub record IsDesk (desk : HeldAndCommitted DeskContents) (p : DeskParty) : Type 0 where
  pub live : desk.live ≡ p.live
  pub committed : IsReadAs desk.committed p.committed

-- A command ended with this result at `desk`, which is the model's desk `p`. After a fault only its store is known.
abbrev pub EndsAs : {X : Type 0} → Result X ToolFault → HeldAndCommitted DeskContents → DeskParty → Type 0
EndsAs (Ok answer) desk p = IsDesk desk p
EndsAs (Err fault) desk p = IsReadAs desk.committed p.committed

-- A command that began at the model's desk `p` is a run. Some events lead from `p` to the desk at which it ended.
abbrev pub IsRun : {X : Type 0} → Role → List Sending → DeskParty → Result X ToolFault → HeldAndCommitted DeskContents → Type 0
IsRun who sent p result desk = (q : DeskParty) × Leads who sent p q × EndsAs result desk q
