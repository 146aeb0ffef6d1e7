-- The sides that a desk holds: one side, or the sides of many transactions (this profile's own).
use Rattle.std.specs.Prelude.{◌≡◌, ◌⊎◌, ℕ, ◌≤◌, nat_le, List, length, Bool, true, false, Option, None, Some, is_ok, Result, Ok}
use Rattle.std.specs.Prelude.{Err}
use Rattle.std.specs.Prelude.{MatchResult}
use Rattle.ill_values.specs.declared.apdu.Apdu.{Apdu}
use Rattle.ill_values.specs.Apdu.{IsApdu}
use Rattle.ill_der.specs.ShortForm.{encoding}
use Rattle.ill_core.specs.declared.taking.Taking.{Taking}
use Rattle.ill_core.specs.declared.taking.Taking.TheVariants.{Taken}
use Rattle.ill_core.specs.Issued.{message}
use Rattle.ill_record.specs.declared.role.Role.{Role}
use Rattle.ill_record.specs.declared.side.Side.{Side}
use Rattle.ill_record.specs.declared.side.Action.{Action}
use Rattle.ill_saved.specs.declared.fault.DeskFault.{DeskFault}
use Rattle.ill_saved.specs.declared.fault.DeskFault.TheVariants.{Core, NoSuchMessage, NotSaved, NoSuchTransaction, DeskFull}
use Rattle.ill_saved.specs.declared.fault.DeskFault.TheVariants.{Saved, OutOfMemory}
use Rattle.ill_record.specs.declared.fault.RecordFault.{RecordFault}
use Rattle.ill_record.specs.declared.fault.RecordFault.TheVariants as records
use Rattle.ill_record.specs.Side.{issued_of, takes_memory, IsConsistent, IsAfterTransitions}
use Rattle.ill_record.specs.Records.{Decodes}

-- A side that a desk holds, and the number of its messages that are released.
pub record DeskEntry : Type 0 where
  pub side : Side
  pub released : ℕ

-- Returns the side with all of its messages released.
abbrev pub whole : Side → DeskEntry
whole side = record { side = side; released = length (issued_of side) }

-- The effects of a desk's calls on the sides that it holds. `L` is the type of the sides, and a `K` names one side.
pub record Effects (L K : Type 0) : Type 0 where
  -- Returns the role of all sides.
  pub role : L → Role
  -- Returns the sides after an action of the named side, or the fault that refuses it.
  pub acts : L → K → Action → Result L DeskFault
  -- Returns the answer to an APDU, and the sides after it.
  pub takes : L → Apdu → Result Taking DeskFault × L
  -- Returns the name of the side that an APDU is for.
  pub key_of : Apdu → K
  -- Returns the named side, if it is held.
  pub found : K → L → Option DeskEntry
  -- Returns the named side, or an idle one if it is not held.
  pub side_for : K → L → DeskEntry
  -- The name of the side that a new desk holds, if there is one.
  pub first_key : Option K
  -- Returns the sides with all of their messages released.
  pub saves : L → L
  -- Returns the sides to which the desk goes back if nothing is committed.
  pub unsaved : L → L
  -- Returns the bytes of the record of the sides.
  pub encoding : L → List ℕ
  -- Returns the sides that a record encodes, with all of their messages released, or the fault of the record.
  pub read : List ℕ → Result L RecordFault
  -- Returns true if the bytes begin as a record, so that reading takes memory.
  pub begins : List ℕ → Bool
  -- Is true if a record ends with a digest.
  pub has_digest : Bool

-- Returns the result with `f` applied to its value. A fault is returned as it is.
abbrev pub map_ok : {V L F : Type 0} → (V → L) → Result V F → Result L F
map_ok f (Ok value) = Ok (f value)
map_ok f (Err fault) = Err fault

-- ---- answers

-- Returns true if the fault is a refusal of an action or of an APDU.
abbrev pub is_refusal : DeskFault → Bool
is_refusal (Core refusal) = true
is_refusal NoSuchTransaction = true
is_refusal DeskFull = true
is_refusal other = false

-- The desk with the sides `old` answers an action, and has the sides `new` after it. A fault changes nothing.
-- Memory can run out only for an action that would be done.
abbrev pub DeskActs : {L K : Type 0} → Effects L K → L → K → Action → Result (Unit {0}) DeskFault → L → Type 0
DeskActs effects old key action (Ok done) new = effects.acts old key action ≡ Ok new
DeskActs effects old key action (Err OutOfMemory) new = (is_ok (effects.acts old key action) ≡ true) × (new ≡ old)
DeskActs effects old key action (Err fault) new =
    (effects.acts old key action ≡ Err fault) × (is_refusal fault ≡ true) × (new ≡ old)

-- The desk would take the APDU `a`, and the side of `a` needs memory for it.
abbrev pub RunsOutOfMemory : {L K : Type 0} → Effects L K → L → Apdu → Type 0
RunsOutOfMemory effects live a =
    ((effects.takes live a).0 ≡ Ok Taken) × (takes_memory (effects.side_for (effects.key_of a) live).side a ≡ true)

-- The desk with the sides `old` answers the APDU `a`, and has the sides `new` after it.
-- Memory can run out only if the side needs memory for `a`, and then nothing changes.
abbrev pub DeskTakesApdu : {L K : Type 0} → Effects L K → L → Apdu → Result Taking DeskFault → L → Type 0
DeskTakesApdu effects old a (Ok taking) new = effects.takes old a ≡ (Ok taking, new)
DeskTakesApdu effects old a (Err OutOfMemory) new = RunsOutOfMemory effects old a × (new ≡ old)
DeskTakesApdu effects old a (Err fault) new = (effects.takes old a ≡ (Err fault, new)) × (is_refusal fault ≡ true)

-- Returns the sides after a save. If the save failed, they are unchanged.
abbrev pub held_after : {L K : Type 0} → Effects L K → Result (Unit {0}) DeskFault → L → L
held_after effects (Ok done) live = effects.saves live
held_after effects (Err fault) live = live

-- The answer to a call that asks for a message is its encoding, if it is issued and released.
-- If it is not issued, the answer is `NoSuchMessage`. If it is not released, the answer is `NotSaved`.
-- Memory can run out for a released message.
abbrev pub Sends : {X : Type 0} → (X → List ℕ) → Option Apdu → Bool → Result X DeskFault → Type 0
Sends view None is_released answer = answer ≡ Err NoSuchMessage
Sends view (Some a) false answer = answer ≡ Err NotSaved
Sends view (Some a) true answer =
    MatchResult answer (λ bytes. IsApdu a × (view bytes ≡ encoding a)) (λ fault. fault ≡ OutOfMemory)

-- The answer to a call that asks for message `number` of a side is as `Sends` says, if the side is held.
-- If it is not held, the answer is `NoSuchTransaction`.
abbrev pub SendsHeld : {X : Type 0} → (X → List ℕ) → Option DeskEntry → ℕ → Result X DeskFault → Type 0
SendsHeld view None number answer = answer ≡ Err NoSuchTransaction
SendsHeld view (Some held) number answer =
    Sends view (message (issued_of held.side) number) (nat_le number held.released) answer

-- ---- committed sides that back live ones

-- `side` backs the live side: it is consistent and has issued at least the `released` messages.
-- Transitions lead from `side` to the live side.
pub record IsBackedBy (side live : Side) (released : ℕ) : Type 0 where
  pub consistent : IsConsistent side
  pub follows : IsAfterTransitions side live
  pub has-released : released ≤ length (issued_of side)

-- Returns the sides that the committed bytes encode, or a fault. If nothing is committed, it returns the `unsaved`
-- sides.
abbrev pub committed_live : {L K : Type 0} → Effects L K → Option (List ℕ) → L → Result L RecordFault
committed_live effects None live = Ok (effects.unsaved live)
committed_live effects (Some bytes) live = effects.read bytes

-- Reading gave sides that back the live ones, and no fault.
abbrev pub IsBackedByRead : {L : Type 0} → (L → L → Type 0) → Result L RecordFault → L → Type 0
IsBackedByRead backs (Ok committed) live = backs committed live
IsBackedByRead backs (Err fault) live = ⊥

-- The committed bytes back the live sides.
abbrev pub IsBacked : {L K : Type 0} → Effects L K → (L → L → Type 0) → Option (List ℕ) → L → Type 0
IsBacked effects backs committed live = IsBackedByRead backs (committed_live effects committed live) live

-- The record that is committed backs the live sides. So does each record that a loss of power may leave.
pub record IsDurablyBacked {L K : Type 0} (effects : Effects L K) (backs : L → L → Type 0) (committed : Option (List ℕ))
    (leaves : Option (List ℕ) → Type 0) (live : L) : Type 0 where
  pub now : IsBacked effects backs committed live
  pub later : (left : Option (List ℕ)) → leaves left → IsBacked effects backs left live

-- A loss of power during a save of the live sides leaves their record, or what it might have left before. Each of these
-- backs the live sides.
abbrev pub IsBackedInSave : {L K : Type 0} → Effects L K → (L → L → Type 0) → (Option (List ℕ) → Type 0) → L → Type 0
IsBackedInSave effects backs leaves live =
    (left : Option (List ℕ)) → leaves left ⊎ (left ≡ Some (effects.encoding live)) → IsBacked effects backs left live

-- Message `number` of the side `key` is `a`, and the desk may send it: it is issued and released.
abbrev pub MaySend : {L K : Type 0} → Effects L K → L → K → ℕ → Apdu → Type 0
MaySend effects live key number a =
    (message (issued_of (effects.side_for key live).side) number ≡ Some a)
    × (number ≤ (effects.side_for key live).released)

-- Reading gave sides and no fault. Message `number` of the side `key` among them is `a`.
abbrev pub ReadHas : {L K : Type 0} → Effects L K → Result L RecordFault → K → ℕ → Apdu → Type 0
ReadHas effects (Ok read) key number a = message (issued_of (effects.side_for key read).side) number ≡ Some a
ReadHas effects (Err fault) key number a = ⊥

-- All committed bytes that back the old sides back the new ones.
abbrev pub StaysBacked : {L K : Type 0} → Effects L K → (L → L → Type 0) → L → L → Type 0
StaysBacked effects backs old new =
    (committed : Option (List ℕ)) → IsBacked effects backs committed old → IsBacked effects backs committed new

-- ---- records

-- The record of the live sides is read as these sides, with all messages released.
abbrev pub IsReadAgain : {L K : Type 0} → Effects L K → L → Type 0
IsReadAgain effects live = effects.read (effects.encoding live) ≡ Ok (effects.saves live)

-- `bytes` are the record of the live sides. They are read as these sides with all messages released.
-- The sides that are read back the live ones and themselves.
pub record IsRecordOf {L K : Type 0} (effects : Effects L K) (backs : L → L → Type 0) (bytes : List ℕ) (live : L)
    : Type 0 where
  pub encoded : bytes ≡ effects.encoding live
  pub read : effects.read bytes ≡ Ok (effects.saves live)
  pub backed : backs (effects.saves live) live
  pub saved : backs (effects.saves live) (effects.saves live)

-- The fault is one that reading a record can have, or a lack of memory. A record without a digest has no `Digest`.
abbrev pub IsReadFault : Bool → DeskFault → Type 0
IsReadFault has_digest (Saved records.OutOfMemory) = ⊥
IsReadFault has_digest (Saved records.Digest) = has_digest ≡ true
IsReadFault has_digest (Saved fault) = Unit {0}
IsReadFault has_digest OutOfMemory = Unit {0}
IsReadFault has_digest other = ⊥

-- The answer is the sides that `bytes` encode, with all of their messages released, or the fault of `bytes`.
-- Memory can run out.
abbrev pub ReadsRecord : {L K : Type 0} → Effects L K → List ℕ → Result L DeskFault → Type 0
ReadsRecord effects bytes (Ok live) = effects.read bytes ≡ Ok live
ReadsRecord effects bytes (Err (Saved fault)) = Decodes (effects.read bytes) (effects.begins bytes) (Err fault)
ReadsRecord effects bytes (Err OutOfMemory) = Unit {0}
ReadsRecord effects bytes (Err other) = ⊥

-- If the answer is done, `new` are the sides that the committed bytes encode. If nothing is committed, `new` are the
-- `unsaved` sides.
-- A fault of the bytes or a lack of memory changes nothing. Memory can run out only for bytes that are committed.
abbrev pub GoesBackToCommitted : {L K : Type 0} → Effects L K → Option (List ℕ) → L → Result (Unit {0}) DeskFault → L → Type 0
GoesBackToCommitted effects committed old (Ok done) new = committed_live effects committed old ≡ Ok new
GoesBackToCommitted effects (Some bytes) old (Err (Saved fault)) new =
    Decodes (effects.read bytes) (effects.begins bytes) (Err fault) × (new ≡ old)
GoesBackToCommitted effects (Some bytes) old (Err OutOfMemory) new = new ≡ old
GoesBackToCommitted effects committed old (Err other) new = ⊥
