-- The text of a side: its state, its due date and the counts of its messages. It is this profile's own.
use Rattle.std.specs.Prelude.{ℕ, List, ◌++◌, Option, Some, None, codes}
use Rattle.std.specs.Fmt.{decimal}
use Rattle.ill_values.specs.Day.{Date, date_text}
use Rattle.ill_core.specs.State.{state_name}
use Rattle.ill_record.specs.declared.side.Side.{Side}
use Rattle.ill_saved.specs.Shown.{shown_of}
use Rattle.ill_saved.specs.declared.shown.Shown.{Shown}

-- Returns the text of a due date, or a dash if there is none.
abbrev pub due_text : Option Date → List ℕ
due_text None = codes "-"
due_text (Some d) = date_text d

-- Returns the text of a side. It has the state, the due date, and the counts of released and of issued messages.
unfoldable pub shown_text : Shown → List ℕ
shown_text shown =
    state_name shown.state ++ codes " " ++ due_text shown.due ++ codes " "
    ++ decimal shown.released ++ codes "/" ++ decimal shown.issued

-- Returns the text that a trace shows of `side`. `released` counts its released messages.
abbrev pub side_text : Side → ℕ → List ℕ
side_text side released = shown_text (shown_of side released)
