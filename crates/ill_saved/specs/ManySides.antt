-- A desk of many transactions: the sides of one library, all of one role, with their store (this profile's own).
-- A side that is not held counts as an idle side without released messages.
use Rattle.std.specs.Prelude.{◌≡◌, ℕ, nat_lt, Bool, true, false, not, List, [], ◌∷◌, length, map, Option, Some, None, is_ok}
use Rattle.std.specs.Prelude.{Result, Ok, Err, if◌then◌else◌}
use Rattle.ill_values.specs.TxnId.{Qualifiers}
use Rattle.ill_values.specs.declared.apdu.Apdu.{Apdu}
use Rattle.ill_values.specs.Body.{Body}
use Rattle.ill_core.specs.declared.refusal.Refusal.{Refusal}
use Rattle.ill_core.specs.declared.refusal.Refusal.TheVariants.{WrongRole}
use Rattle.ill_core.specs.declared.taking.Taking.{Taking}
use Rattle.ill_core.specs.declared.taking.Taking.TheVariants.{Taken}
use Rattle.ill_values.specs.Bodies.{is_ill_request, is_requesters}
use Rattle.ill_record.specs.declared.role.Role.{Role}
use Rattle.ill_record.specs.declared.role.Role.TheVariants.{Requester, Responder}
use Rattle.ill_record.specs.declared.side.Side.{Side}
use Rattle.ill_record.specs.declared.side.Action.{Action}
use Rattle.ill_saved.specs.declared.fault.DeskFault.{DeskFault}
use Rattle.ill_saved.specs.declared.fault.DeskFault.TheVariants.{Core, NoSuchTransaction, DeskFull, OutOfMemory}
use Rattle.ill_record.specs.Side.{issued_of, txn_of, idle_side, role_for, begins, acts, takes}
pub use Rattle.ill_record.specs.Sides.{found_by, put_by}
use Rattle.ill_record.specs.Sides.{SidesOf, is_same_role, most_sides, side_with}
use Rattle.ill_record.specs.RecordsV2.{records_at, begins_as_records, sides_encoding}
use Rattle.ill_saved.specs.Holdings.{DeskEntry, Effects, ReadsRecord, whole, map_ok, IsBackedBy}

-- The contents of a desk: sides of one role, in the order in which they were begun.
pub record DeskContents : Type 0 where
  pub role : Role
  pub held : List DeskEntry

-- ---- the side of a transaction

-- Returns the number of messages that each side has issued.
abbrev pub counts : List Side → List ℕ
counts sides = map (λ side. length (issued_of side)) sides

-- Returns each side with its count as the number of its released messages. A side without a count is left out.
unfoldable pub held_of : List Side → List ℕ → List DeskEntry
held_of (side ∷ sides) (count ∷ counts) = record { side = side; released = count } ∷ held_of sides counts
held_of sides counts = []

-- Returns the transaction of a held side.
abbrev pub txn_held : DeskEntry → Qualifiers
txn_held held = txn_of held.side

-- Returns the idle side of this role and transaction, with no message released.
abbrev pub idle_held : Role → Qualifiers → DeskEntry
idle_held role txn = record { side = idle_side role txn; released = 0 }

-- Returns the item that was found, or else `instead`.
abbrev pub found_or : {X : Type 0} → X → Option X → X
found_or instead (Some item) = item
found_or instead None = instead

-- Returns the held side of transaction `txn`, or else the idle one with no message released.
abbrev pub held_for : Qualifiers → DeskContents → DeskEntry
held_for txn live = found_or (idle_held live.role txn) (found_by txn_held txn live.held)

-- Returns the contents with `held` in place of the side of its transaction. If there is none, `held` comes last.
abbrev pub with_held : DeskContents → DeskEntry → DeskContents
with_held live held = record { role = live.role; held = put_by txn_held held live.held }

-- Returns the sides that are held, without their counts.
abbrev pub sides_held : DeskContents → SidesOf
sides_held live = record { role = live.role; sides = map (λ held. held.side) live.held }

-- Returns the sides with all of their messages released.
abbrev pub whole_of : SidesOf → DeskContents
whole_of all = record { role = all.role; held = map whole all.sides }

-- ---- actions and messages

-- Returns true if a side of this role issues APDUs with a body of this type.
abbrev pub is_own : Role → Body → Bool
is_own Requester body = is_requesters body
is_own Responder body = not (is_requesters body)

-- Returns the held side. If there is none, it returns `idle`, provided that the transaction may begin.
-- The fault is `NoSuchTransaction` if it may not begin, and `DeskFull` if there is no room.
abbrev pub held_or_begun : Bool → Bool → DeskEntry → Option DeskEntry → Result DeskEntry DeskFault
held_or_begun may_begin has_room idle (Some held) = Ok held
held_or_begun may_begin has_room idle None =
    if may_begin then (if has_room then Ok idle else Err DeskFull) else Err NoSuchTransaction

-- Returns the side of `txn` for an action or a message: the held one, or an idle one if `txn` may begin.
abbrev pub side_for_call : DeskContents → Qualifiers → Bool → Result DeskEntry DeskFault
side_for_call live txn may_begin =
    held_or_begun may_begin (nat_lt (length live.held) most_sides) (idle_held live.role txn)
    (found_by txn_held txn live.held)

-- Returns the contents with the side after its action, or the refusal. The released count is unchanged.
abbrev pub acted : DeskContents → DeskEntry → Result Side Refusal → Result DeskContents DeskFault
acted live held (Ok new) = Ok (with_held live (record { side = new; released = held.released }))
acted live held (Err refusal) = Err (Core refusal)

-- Returns the contents after the action of the side that `side_for_call` gave, or the fault.
abbrev pub acts_reached : DeskContents → Action → Result DeskEntry DeskFault → Result DeskContents DeskFault
acts_reached live action (Ok held) = acted live held (acts held.side action)
acts_reached live action (Err fault) = Err fault

-- Returns the contents after an action in transaction `txn`, or the refusal.
-- An action of the other role is refused as `WrongRole`.
abbrev pub desk_acts : DeskContents → Qualifiers → Action → Result DeskContents DeskFault
desk_acts live txn action =
    if is_same_role live.role (role_for action)
    then acts_reached live action (side_for_call live txn (begins action))
    else Err (Core WrongRole)

-- Returns the answer to an APDU, and the contents with the side after it. A refusal changes nothing.
abbrev pub contents_after_message : DeskContents → DeskEntry → Result Taking Refusal × Side → Result Taking DeskFault
    × DeskContents
contents_after_message live held (Ok taking, new) =
    (Ok taking, with_held live (record { side = new; released = held.released }))
contents_after_message live held (Err refusal, new) = (Err (Core refusal), live)

-- Returns the answer to an APDU of the side that `side_for_call` gave, and the contents after it. A fault changes
-- nothing.
abbrev pub takes_reached : DeskContents → Apdu → Result DeskEntry DeskFault → Result Taking DeskFault × DeskContents
takes_reached live a (Ok held) = contents_after_message live held (takes held.side a)
takes_reached live a (Err fault) = (Err fault, live)

-- Returns the answer of a desk to an APDU, and its contents after it. The side of the APDU's transaction takes it.
-- An APDU that this role issues is refused as `WrongRole`.
abbrev pub desk_takes : DeskContents → Apdu → Result Taking DeskFault × DeskContents
desk_takes live a =
    if is_own live.role a.body then (Err (Core WrongRole), live)
    else takes_reached live a (side_for_call live a.txn (is_ill_request a.body))

-- ---- the sides that are committed

-- Returns the side of `txn` among the sides, or an idle one if there is none.
abbrev pub side_for : Qualifiers → SidesOf → Side
side_for txn all = found_or (idle_side all.role txn) (side_with txn all.sides)

-- In each transaction, the committed side has each released message, and transitions lead from it to the live side.
pub record AreBackedBy (committed : SidesOf) (live : DeskContents) : Type 0 where
  pub role : committed.role ≡ live.role
  pub each : (txn : Qualifiers) → IsBackedBy (side_for txn committed) (held_for txn live).side (held_for txn live).released

-- Some sides back the contents of the desk. They need not are committed.
abbrev pub AreBackable : DeskContents → Type 0
AreBackable live = (committed : SidesOf) × AreBackedBy committed live

-- The sides of `committed` back the contents `live`.
abbrev pub ManyBack : DeskContents → DeskContents → Type 0
ManyBack committed live = AreBackedBy (sides_held committed) live

-- ---- the effects of the calls

-- Returns a desk of this role that holds no side.
abbrev pub no_sides : Role → DeskContents
no_sides role = record { role = role; held = [] }

-- Returns the effects on many sides, one in each transaction.
abbrev pub many_sides : Effects DeskContents Qualifiers
many_sides = record {
  role = λ live. live.role;
  acts = desk_acts;
  takes = desk_takes;
  key_of = λ a. a.txn;
  found = λ txn live. found_by txn_held txn live.held;
  side_for = held_for;
  first_key = None;
  saves = λ live. whole_of (sides_held live);
  unsaved = λ live. no_sides live.role;
  encoding = λ live. sides_encoding (sides_held live);
  read = λ bytes. map_ok whole_of (records_at bytes);
  begins = begins_as_records;
  has_digest = true;
}

-- ---- parts of these calls

-- The answer is done if the transaction may begin and there is room, and otherwise the fault.
abbrev pub MayBegin : Bool → Bool → Result (Unit {0}) DeskFault → Type 0
MayBegin begins has_room (Ok done) = (begins ≡ true) × (has_room ≡ true)
MayBegin begins has_room (Err NoSuchTransaction) = begins ≡ false
MayBegin begins has_room (Err DeskFull) = (begins ≡ true) × (has_room ≡ false)
MayBegin begins has_room (Err fault) = ⊥

-- The answer to the first action of an idle side is the side after it, or that memory ran out.
-- Memory can run out only for an action that would be done.
abbrev pub FirstActs : Side → Action → Result Side DeskFault → Type 0
FirstActs idle action (Ok new) = acts idle action ≡ Ok new
FirstActs idle action (Err OutOfMemory) = is_ok (acts idle action) ≡ true
FirstActs idle action (Err fault) = ⊥

-- The result of an idle side that takes its first APDU: the side after it, or out of memory.
abbrev pub FirstTakes : Side → Apdu → Result Side DeskFault → Type 0
FirstTakes idle a (Ok new) = takes idle a ≡ (Ok Taken, new)
FirstTakes idle a (Err OutOfMemory) = Unit {0}
FirstTakes idle a (Err fault) = ⊥

-- The answer is the sides that the bytes encode, or the fault. Without bytes, it is no sides of this role.
abbrev pub ReadsOrNone : Option (List ℕ) → Role → Result DeskContents DeskFault → Type 0
ReadsOrNone (Some bytes) role answer = ReadsRecord many_sides bytes answer
ReadsOrNone None role answer = answer ≡ Ok (no_sides role)
