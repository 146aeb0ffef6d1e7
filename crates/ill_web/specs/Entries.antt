-- What a turn enters in the diary beside its desk.
use Rattle.std.specs.Prelude.{◌≡◌, ◌+◌, ◌==◌, if◌then◌else◌, ℕ, false, List, [], length, Option, Some, None, Result}
use Rattle.ill_values.specs.Day.{Date}
use Rattle.ill_values.specs.TxnId.{Qualifiers}
use Rattle.ill_core.specs.Verbs.{verb_name}
use Rattle.ill_record.specs.declared.side.Action.{Action}
use Rattle.ill_record.specs.Side.{issued_of}
use Rattle.ill_record.specs.SideVerbs.{verb_of}
use Rattle.ill_saved.specs.declared.fault.DeskFault.{DeskFault}
use Rattle.ill_saved.specs.ManySides.{DeskContents, many_sides}
use Rattle.ill_text.specs.Diary.{DiaryState, Stamped, diary_line, diary_state}
use Rattle.ill_post.specs.declared.answer.Posted.{Posted}
use Rattle.ill_post.specs.Post.{EntersPost, FormShown}

-- ---- the line

-- Returns the name of the user, if there is one.
abbrev pub user_named : (user : List ℕ) → Option (List ℕ)
user_named user = if length user == 0 then None else Some user

-- Returns the stamp of a line: the day, and the name of the user, if there is one.
abbrev pub stamp_on : Date → (user : List ℕ) → Stamped
stamp_on day user = record { day = day; by = user_named user }

-- Returns the line that names an action of a loan, as the next message after `issued` messages.
abbrev pub verb_line : Stamped → Qualifiers → Action → (issued : ℕ) → List ℕ
verb_line stamp txn action issued = diary_line stamp.day stamp.by txn (verb_name (verb_of action)) (issued + 1)

-- Returns the line that names an action of a loan, as the next message after `issued` messages. It is empty if there is
-- no action.
abbrev pub turn_line : Stamped → Qualifiers → Option Action → (issued : ℕ) → List ℕ
turn_line stamp txn (Some action) issued = verb_line stamp txn action issued
turn_line stamp txn None issued = []

-- Returns the number of messages that the side of a loan has issued at a desk.
abbrev pub issued_at : Qualifiers → DeskContents → ℕ
issued_at txn live = length (issued_of (many_sides.side_for txn live).side)

-- Returns the line of a form that is sent to a desk that holds `live`.
abbrev pub form_line : Stamped → FormShown → DeskContents → List ℕ
form_line stamp form live = turn_line stamp form.txn form.action (issued_at form.txn live)

-- ---- the entry

-- What a turn enters in a diary: the path of the file beside which it lies, the bytes that were entered, and true if
-- the diary has failed.
pub record Entered : Type 0 where
  pub beside : List ℕ
  pub diary : DiaryState

-- Returns the state of a diary in which nothing was entered.
abbrev pub no_entry : DiaryState
no_entry = diary_state (Some []) false

-- What was entered is in the diary beside the file `beside`. It is what `EntersPost` says for `line`.
abbrev pub EntersTurn : Result Posted DeskFault → (beside line : List ℕ) → Entered → Type 0
EntersTurn came beside line entered = (entered.beside ≡ beside) × EntersPost came line no_entry entered.diary
