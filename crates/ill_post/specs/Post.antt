-- The answer to a form that was sent.
use Rattle.std.specs.Prelude.{◌≡◌, ◌⊎◌, ℕ, Bool, true, false, List, Option, Some, None, Result, Ok, Err, if◌then◌else◌}
use Rattle.std.specs.Str.{bytes_eq}
use Rattle.ill_values.specs.TxnId.{Qualifiers}
use Rattle.ill_store.specs.Store.{StoreState}
use Rattle.ill_record.specs.declared.side.Action.{Action}
use Rattle.ill_saved.specs.declared.fault.DeskFault.{DeskFault}
use Rattle.ill_saved.specs.declared.fault.DeskFault.TheVariants.{OutOfMemory}
use Rattle.ill_record.specs.Sides.{side_with}
use Rattle.ill_saved.specs.Holdings.{DeskActs, held_after, is_refusal}
use Rattle.ill_saved.specs.ManySides.{DeskContents, many_sides, sides_held}
use Rattle.ill_saved.specs.Desk.{DeskOf, DeskSaves}
use Rattle.ill_text.specs.Diary.{DiaryState, Enters}
use Rattle.ill_post.specs.declared.answer.Form.{Form}
use Rattle.ill_post.specs.declared.answer.Posted.{Posted}
use Rattle.ill_post.specs.declared.answer.Posted.TheVariants.{Changed, NoAction, Refused, Done}
use Rattle.ill_post.specs.Stamp.{stamp_of}

-- A form: its loan, the stamp that the loan had on the page with the form, and the action, if the form names one.
pub record FormShown : Type 0 where
  pub txn : Qualifiers
  pub stamp : List ℕ
  pub action : Option Action

-- Returns what a `Form` of the code holds.
abbrev pub form_shown : Form → FormShown
form_shown form = record { txn = form.txn.now; stamp = form.stamp.now; action = form.action }

-- What a desk holds, and the state of its store.
pub record DeskState : Type 0 where
  pub live : DeskContents
  pub store : StoreState

-- Returns the state of a desk: what it holds, and the state of its store.
abbrev pub state_of : {S : Type 0} → (S → StoreState) → DeskOf DeskContents S → DeskState
state_of state desk = record { live = desk.live; store = state desk.store }

-- Returns the stamp of the loan of `txn` at a desk that holds `live`.
abbrev pub stamp_for : Qualifiers → DeskContents → List ℕ
stamp_for txn live = stamp_of (side_with txn (sides_held live).sides)

-- Returns true if the loan of the form is as its page showed it.
abbrev pub is_fresh : FormShown → DeskContents → Bool
is_fresh form live = bytes_eq (stamp_for form.txn live) form.stamp

-- The answer is true exactly if the loan of `form` is as its page showed it. Or memory ran out.
abbrev pub IsFreshness : FormShown → DeskContents → Result Bool DeskFault → Type 0
IsFreshness form live (Ok is) = is ≡ is_fresh form live
IsFreshness form live (Err fault) = fault ≡ OutOfMemory

-- If the action was done, the desk was saved, which went from `between` to `new` with this result. If the action
-- failed, its fault is the result, and nothing was saved.
abbrev pub SavesAfter : Result (Unit {0}) DeskFault → DeskState → Result (Unit {0}) DeskFault → DeskState → Type 0
SavesAfter (Ok done) between result new =
    (new.live ≡ held_after many_sides result between.live)
    × DeskSaves (many_sides.encoding between.live) between.store result new.store
SavesAfter (Err fault) between result new = (result ≡ Err fault) × (new ≡ between)

-- The action was performed in the loan of `txn`, and saved if it was done.
abbrev pub ActsAndSaves : Qualifiers → Action → DeskState → Result (Unit {0}) DeskFault → DeskState → Type 0
ActsAndSaves txn action old result new =
    (acted : Result (Unit {0}) DeskFault) × (between : DeskContents)
    × DeskActs many_sides old.live txn action acted between
    × SavesAfter acted (record old { live = between }) result new

-- Returns the answer to a form whose action had this result. A refusal is an answer. Another fault stays one.
abbrev pub printed : Result (Unit {0}) DeskFault → Result Posted DeskFault
printed (Ok done) = Ok Done
printed (Err fault) = if is_refusal fault then Ok (Refused fault) else Err fault

-- A form in the loan of `txn` was answered, whose loan is as its page showed it. If the form names no action, nothing
-- changed. Else exactly this action was performed.
abbrev pub Performs : Option Action → Qualifiers → DeskState → Result Posted DeskFault → DeskState → Type 0
Performs None txn old result new = (result ≡ Ok NoAction) × (new ≡ old)
Performs (Some action) txn old result new =
    (acted : Result (Unit {0}) DeskFault) × ActsAndSaves txn action old acted new × (result ≡ printed acted)

-- The form was answered. The first argument is true if its loan is as its page showed it. If it is false, nothing
-- changed, in memory or in the store.
abbrev pub PerformsIf : Bool → FormShown → DeskState → Result Posted DeskFault → DeskState → Type 0
PerformsIf true form old result new = Performs form.action form.txn old result new
PerformsIf false form old result new = (result ≡ Ok Changed) × (new ≡ old)

-- A form was sent, and answered as `PerformsIf` says. Or memory ran out first, and nothing changed.
abbrev pub AnswersPost : FormShown → DeskState → Result Posted DeskFault → DeskState → Type 0
AnswersPost form old result new =
    PerformsIf (is_fresh form old.live) form old result new ⊎ ((result ≡ Err OutOfMemory) × (new ≡ old))

-- If the action was done, its `line` was entered in the diary. After another answer nothing was entered. After a fault
-- the line may have been entered, or not.
abbrev pub EntersPost : Result Posted DeskFault → (line : List ℕ) → DiaryState → DiaryState → Type 0
EntersPost (Ok Done) line old new = Enters line old new
EntersPost (Ok other) line old new = new ≡ old
EntersPost (Err fault) line old new = Enters line old new ⊎ (new ≡ old)
