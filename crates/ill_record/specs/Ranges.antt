-- Sides whose parts are in range.
use Rattle.std.specs.Prelude.{◌≤◌, List, [], ◌∷◌, length, IfSome}
use Rattle.ill_values.specs.Day.{IsDate}
use Rattle.ill_values.specs.TxnId.{AreQualifiers}
use Rattle.ill_values.specs.Apdu.{IsApdu, IsNumber}
use Rattle.ill_core.specs.Requester.{RequesterRecord}
use Rattle.ill_core.specs.Responder.{ResponderRecord}
use Rattle.ill_record.specs.declared.side.Side.{Side}
use Rattle.ill_record.specs.declared.side.Side.TheVariants as sides
use Rattle.ill_record.specs.Side.{issued_of, IsConsistent}

-- Each value in the list satisfies `P`.
unfoldable pub Each : {V : Type 0} → (V → Type 0) → List V → Type 0
Each P [] = Unit {0}
Each P (v ∷ values) = P v × Each P values

-- The parts of a requester are in range: its transaction, its held number and its due date.
pub record RequesterInRange (x : RequesterRecord) : Type 0 where
  pub txn : AreQualifiers x.txn
  pub held : IfSome x.held IsNumber
  pub due : IfSome x.due IsDate

-- The parts of a responder are in range: its transaction, its numbers and its request.
pub record ResponderInRange (y : ResponderRecord) : Type 0 where
  pub txn : AreQualifiers y.txn
  pub accepted : IfSome y.accepted IsNumber
  pub last_cancel : IfSome y.last_cancel IsNumber
  pub last_renew : IfSome y.last_renew IsNumber
  pub request : IfSome y.request IsApdu

-- The parts of the side are in range.
abbrev pub PartsInRange : Side → Type 0
PartsInRange (sides.Requester x) = RequesterInRange x
PartsInRange (sides.Responder y) = ResponderInRange y

-- The parts of the side and each APDU that it has issued are in range. It has issued at most 255.
pub record IsInRange (side : Side) : Type 0 where
  pub parts : PartsInRange side
  pub issued : Each IsApdu (issued_of side)
  pub few : length (issued_of side) ≤ 255

-- The side is consistent and in range.
abbrev pub IsSide : Side → Type 0
IsSide side = IsConsistent side × IsInRange side
