-- The desk of a group on a shelf, and the effect of each command there.
use Rattle.std.specs.Prelude.{◌≡◌, ◌⊎◌, ℕ, Bool, true, false, List, Option, None, Some, Result}
use Rattle.ill_values.specs.TxnId.{Qualifiers}
use Rattle.ill_record.specs.declared.role.Role.{Role}
use Rattle.ill_saved.specs.Desk.{DeskOf}
use Rattle.ill_saved.specs.ManySides.{DeskContents}
use Rattle.ill_text.specs.declared.fault.ToolFault.{ToolFault}
use Rattle.ill_files.specs.Opening.{FailsToOpen}
use Rattle.ill_place.specs.Place.{OpensAs, PlaceOf, ShelfOf, place_of}
use Rattle.ill_files.specs.ShelfNames.{desk_path, own_path}
use Rattle.ill_desk.specs.Performing.{command_state, view_of}
use Rattle.ill_desk.specs.ActAs.{Asking}
use Rattle.ill_show.specs.declared.loan.LoanForm.{LoanForm}
use Rattle.ill_commands.specs.AtFile.{ActsOn, LoanAtFile, MessageOf, NewAtFile, SlipAtFile}
use Rattle.ill_commands.specs.Letters.{SendsWith}
use Rattle.ill_commands.specs.Note.{NotesAtFile}

-- `path` is that of the desk of `group`, on the shelf in `folder`.
abbrev pub IsHome : (folder group path : List ℕ) → Type 0
IsHome folder group path = (role : Role) × (path ≡ desk_path folder role group)

-- `path` is that of the desk of `group`, or of the own desk of the shelf in `folder`.
abbrev pub IsDeskFor : (folder group path : List ℕ) → Type 0
IsDeskFor folder group path = IsHome folder group path ⊎ (path ≡ own_path folder)

-- `AtPlace` holds of a place on the shelf: that of the desk of `group`.
abbrev pub AtHome : {S : Type 0} → ShelfOf S → (group : List ℕ) → (AtPlace : PlaceOf S → Type 0) → Type 0
AtHome shelf group AtPlace =
    (path : List ℕ) × IsHome shelf.folder group path × AtPlace (place_of shelf.state path)

-- The arguments of `act` on a shelf. If `is_long`, the item of the loan is written too. If `is_new_group`, the desk of
-- the group may be begun.
pub record ShelfAction : Type 0 where
  pub asking : Asking
  pub is_long : Bool
  pub is_new_group : Bool

-- Returns the role of a desk that may be begun: `role` if a new group may be begun, else None.
abbrev pub role_to_begin : (is_new_group : Bool) → Role → Option Role
role_to_begin true role = Some role
role_to_begin false role = None

-- The action was performed or tried at the desk of the place. If there is a `role`, the desk may have been begun for
-- it, with this role. Or its file could not be opened.
abbrev pub ActsAtPlace : {S : Type 0} → (role : Option Role) → PlaceOf S → ShelfAction → Option (List ℕ) → Option (List ℕ) →
    Result Bool ToolFault → Type 0
ActsAtPlace {S} role place action before after result =
    FailsToOpen before after result
    ⊎ ((old new : DeskOf DeskContents S) × OpensAs role place old
    × ActsOn action.asking action.is_long (command_state (view_of place.state old) before) result
    (command_state (view_of place.state new) after))

-- The action was performed or tried at the desk of its group. The desk was begun for it only if a new group may be
-- begun, and with the role in its name.
abbrev pub ActsAtHome : {S : Type 0} → ShelfOf S → ShelfAction → Option (List ℕ) → Option (List ℕ) → Result Bool ToolFault →
    Type 0
ActsAtHome shelf action before after result =
    (role : Role) × ActsAtPlace (role_to_begin action.is_new_group role)
    (place_of shelf.state (desk_path shelf.folder role action.asking.txn.group)) action before after result

-- The message, or its letter, was written at the desk of its group.
abbrev pub SendsAtHome : {S : Type 0} → ShelfOf S → (key : Option (List ℕ)) → MessageOf → Option (List ℕ) →
    Option (List ℕ) → Result Bool ToolFault → Type 0
SendsAtHome shelf key message before after result =
    AtHome shelf message.txn.group (λ place. SendsWith place key message before after result)

-- The transaction `txn` was shown or drawn at the desk of its group.
abbrev pub LoanAtHome : {S : Type 0} → ShelfOf S → LoanForm → Qualifiers → Option (List ℕ) → Option (List ℕ) →
    Result Bool ToolFault → Type 0
LoanAtHome shelf form txn before after result =
    AtHome shelf txn.group (λ place. LoanAtFile place form txn before after result)

-- A note on the transaction `txn` was kept at the desk of its group.
abbrev pub NotesAtHome : {S : Type 0} → ShelfOf S → Qualifiers → (words : List ℕ) → Option (List ℕ) → Option (List ℕ) →
    Result Bool ToolFault → Type 0
NotesAtHome shelf txn words before after result =
    AtHome shelf txn.group (λ place. NotesAtFile place txn words before after result)

-- The slip of the transaction `txn` was written at the desk of its group.
abbrev pub SlipAtHome : {S : Type 0} → ShelfOf S → Qualifiers → Option (List ℕ) → Option (List ℕ) →
    Result Bool ToolFault → Type 0
SlipAtHome shelf txn before after result =
    AtHome shelf txn.group (λ place. SlipAtFile place txn before after result)

-- The own desk of the shelf was begun, with the role `role`. Or its file could not be opened.
abbrev pub BeginsShelf : {S : Type 0} → ShelfOf S → Role → Option (List ℕ) → Option (List ℕ) → Result Bool ToolFault → Type 0
BeginsShelf shelf role before after result =
    NewAtFile (place_of shelf.state (own_path shelf.folder)) role before after result
