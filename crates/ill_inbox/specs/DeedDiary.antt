-- The diary of the deeds that a run does: a line for each, before it is saved (this profile's own).
use Rattle.std.specs.Prelude.{◌≡◌, ◌⊎◌, ℕ, Bool, true, false, if◌then◌else◌, List, [], ◌++◌, codes, Result, Ok, Err}
use Rattle.std.specs.List.{flat_map}
use Rattle.ill_values.specs.Day.{Date}
use Rattle.ill_values.specs.TxnId.{Qualifiers}
use Rattle.ill_core.specs.Verbs.{deed_verb, verb_name}
use Rattle.ill_saved.specs.Holdings.{Effects}
use Rattle.ill_saved.specs.ManySides.{DeskContents, many_sides}
use Rattle.ill_text.specs.declared.fault.ToolFault.{ToolFault}
use Rattle.ill_text.specs.Diary.{DiaryState, Enters, message_key}
use Rattle.ill_desk.specs.Performing.{has_any}
use Rattle.ill_desk.specs.Telling.{shown_at}
use Rattle.ill_night.specs.declared.night.Dates.{Dates}
use Rattle.ill_inbox.specs.declared.due.Due.{Due}
use Rattle.ill_inbox.specs.Dates.{Doing, after_dates}

-- Returns the line of a diary that names a deed at the desk `live`. It begins with `begin`, the text before the key.
-- The message of the deed is the last that its loan has issued.
abbrev pub deed_diary_line : {L : Type 0} → Effects L Qualifiers → (begin : List ℕ) → L → Due → List ℕ
deed_diary_line effects begin live due = begin
    ++ (message_key due.txn (verb_name (deed_verb due.deed)) (shown_at effects due.txn live).issued ++ codes "\n")

-- Returns the lines of all deeds of `done`.
abbrev pub deed_diary_lines : {L : Type 0} → Effects L Qualifiers → (begin : List ℕ) → L → List Due → List ℕ
deed_diary_lines effects begin live done = flat_map (deed_diary_line effects begin live) done

-- Returns the lines of all deeds of `done`. If `begin` is empty, there are none.
abbrev pub lines_beginning : {L : Type 0} → Effects L Qualifiers → (begin : List ℕ) → L → List Due → List ℕ
lines_beginning effects begin live done = if has_any begin then deed_diary_lines effects begin live done else []

-- If `has_lines` is true, `lines` were entered in a diary. Else the diary stays as it is.
abbrev pub EntersIf : (has_lines : Bool) → (lines : List ℕ) → DiaryState → DiaryState → Type 0
EntersIf true lines old new = Enters lines old new
EntersIf false lines old new = new ≡ old

-- `lines` were entered in a diary. Without lines the diary stays as it is.
abbrev pub EntersAny : (lines : List ℕ) → DiaryState → DiaryState → Type 0
EntersAny lines old new = EntersIf (has_any lines) lines old new

-- A run with this answer entered `lines` in a diary. After a fault it may have entered them, or nothing.
abbrev pub EntersDeeds : Result (Unit {0}) ToolFault → (lines : List ℕ) → DiaryState → DiaryState → Type 0
EntersDeeds (Ok done) lines old new = EntersAny lines old new
EntersDeeds (Err fault) lines old new = EntersAny lines old new ⊎ (new ≡ old)

-- Returns the lines of the deeds that were done on the way to `end`.
abbrev pub lines_of_doing : {L : Type 0} → Effects L Qualifiers → (begin : List ℕ) → Doing L → List ℕ
lines_of_doing effects begin end = lines_beginning effects begin end.live end.done

-- Returns the lines of the deeds that the day `today` makes due at the desk `live`, and that are not refused.
abbrev pub lines_of_dates : Dates → Date → (begin : List ℕ) → DeskContents → List ℕ
lines_of_dates which today begin live =
    lines_of_doing many_sides begin (after_dates which today live)
