-- These definitions give the meaning of a line of a script of two desks. A line is an event at one of the two sides, or
-- it puts a transaction in use. They are this profile's own.
use Rattle.std.specs.Prelude.{◌≡◌, ℕ, bytes_eq, codes, if◌then◌else◌, List, [], ◌∷◌, Option, Some, None, Result, Ok, Err}
use Rattle.ill_values.specs.declared.fault.TextFault.{TextFault}
use Rattle.ill_values.specs.TxnId.{Qualifiers, txn_id_of}
use Rattle.ill_world.specs.declared.event.Event.{Event}
use Rattle.ill_world.specs.declared.event.Event.TheVariants as events
use Rattle.ill_world.specs.declared.event.DeskEvent.{DeskEvent}
use Rattle.ill_world.specs.declared.event.DeskEvent.TheVariants.{Wish, Deed, Save, SaveFault, Send, Deliver, Noise, Restart}
use Rattle.ill_script.specs.declared.script_line.ScriptLine.{ScriptLine}
use Rattle.ill_script.specs.declared.script_line.ScriptLine.TheVariants as lines
use Rattle.ill_world.specs.declared.desk_script.DeskLine.{DeskLine}
use Rattle.ill_world.specs.declared.desk_script.DeskLine.TheVariants.{Use, Plain}
use Rattle.ill_world.specs.Script.{is_remark, line_of, words_of}

-- ---- one line

-- Returns a line that puts `txn` in use, or a bad line if the qualifiers have a fault.
abbrev pub use_of : Result Qualifiers TextFault → DeskLine
use_of (Ok txn) = Use txn
use_of (Err fault) = Plain lines.Bad

-- Returns the meaning of the words after `use`. They are two qualifiers, or the line is bad.
abbrev pub use_line : List (List ℕ) → DeskLine
use_line (group ∷ transaction ∷ []) = use_of (txn_id_of group transaction)
use_line words = Plain lines.Bad

-- Returns the meaning of the words of a line.
abbrev pub desk_line_of : List (List ℕ) → DeskLine
desk_line_of [] = Plain lines.Skipped
desk_line_of (first ∷ words) =
    if bytes_eq first (codes "use") then use_line words else Plain (line_of (first ∷ words))

-- Returns the meaning of a line. A remark is skipped.
unfoldable pub desk_meaning : List ℕ → DeskLine
desk_meaning line = if is_remark line then Plain lines.Skipped else desk_line_of (words_of line)

-- ---- the transaction in use

-- An event has the transaction in use beside it. A trace shows both sides of this transaction.
pub record EventIn : Type 0 where
  pub txn : Qualifiers
  pub event : DeskEvent

-- Returns the event of two desks that is `event` in `txn`.
abbrev pub in_txn : Qualifiers → Event → DeskEvent
in_txn txn (events.Wish wish) = Wish txn wish
in_txn txn (events.Deed deed today) = Deed txn deed today
in_txn txn (events.Save who) = Save who
in_txn txn (events.SaveFault who committed) = SaveFault who committed
in_txn txn (events.Send who n) = Send who txn n
in_txn txn (events.Deliver who n) = Deliver who txn n
in_txn txn (events.Noise who bytes) = Noise who bytes
in_txn txn (events.Restart who) = Restart who

-- The event names `txn`, or names no transaction.
abbrev pub IsInTxn : Qualifiers → DeskEvent → Type 0
IsInTxn txn (Wish named wish) = named ≡ txn
IsInTxn txn (Deed named deed today) = named ≡ txn
IsInTxn txn (Send who named n) = named ≡ txn
IsInTxn txn (Deliver who named n) = named ≡ txn
IsInTxn txn other = Unit {0}

-- Returns the meaning of a line with the transaction in use. An event before the first transaction in use is a bad
-- line.
abbrev pub line_in : Option Qualifiers → ScriptLine Event → ScriptLine EventIn
line_in in_use lines.Skipped = lines.Skipped
line_in (Some txn) (lines.Event event) = lines.Event (record { txn = txn; event = in_txn txn event })
line_in None (lines.Event event) = lines.Bad
line_in in_use lines.Bad = lines.Bad

-- Returns the meaning of a line with the transaction in use, and the transaction in use after it.
abbrev pub says_in : Option Qualifiers → DeskLine → ScriptLine EventIn × Option Qualifiers
says_in in_use (Use txn) = (lines.Skipped, Some txn)
says_in in_use (Plain line) = (line_in in_use line, in_use)
