-- A diary by the keys of its messages. Each message has the last line that names it, with the number of lines before
-- that line.
use Rattle.std.specs.Prelude.{ℕ, suc, nat_lt, if◌then◌else◌, List, [], ◌∷◌, ◌++◌, fold, bytes_eq, Vec}
use Rattle.std.specs.Prelude.{Option, None, Some, option_map}
use Rattle.std.specs.List.{flat_map}
use Rattle.std.specs.declared.alloc.Global.{Global}
use Rattle.ill_values.specs.Day.{Date}
use Rattle.ill_beside.specs.declared.diary.Message.{Message}
use Rattle.ill_beside.specs.declared.keyed_diary.LastLine.{LastLine}
use Rattle.ill_beside.specs.Diary.{Named, Said, said_by}
use Rattle.ill_beside.specs.Places.{ByKey, looked_up, places_of}

-- Returns the key of the message that a line names, if it names one.
abbrev pub key_said : Vec ℕ Global → Option (List ℕ)
key_said line = option_map (λ says. says.message) (said_by line.items)

-- Returns the last line that names the message with this key, among the line at `place`, which says this, and the lines
-- before it. `found` is the last one of the lines before it.
abbrev pub last_after : (key : List ℕ) → (place : ℕ) → Option Said → (found : Option LastLine) → Option LastLine
last_after key place None found = found
last_after key place (Some says) found =
    if bytes_eq says.message key then Some (record { place = place; day = says.day }) else found

-- Returns the number of lines so far and the last of them that names the message with this key, with one line more.
abbrev pub with_line : (key : List ℕ) → ℕ × Option LastLine → List ℕ → ℕ × Option LastLine
with_line key (place, found) line = (suc place, last_after key place (said_by line) found)

-- Returns the last of `lines` that names the message with this key, if one does.
abbrev pub last_named : (lines : List (List ℕ)) → (key : List ℕ) → Option LastLine
last_named lines key = (fold (with_line key) (0, None) lines).1

-- Returns the later of two lines. If there is one line alone, returns this line, and None if there is none.
abbrev pub later : Option LastLine → Option LastLine → Option LastLine
later None other = other
later (Some one) None = Some one
later (Some one) (Some other) = if nat_lt other.place one.place then Some one else Some other

-- Returns the latest of the last lines of `messages`, if there is one. `last` gives the last line that names a key.
abbrev pub latest : (last : List ℕ → Option LastLine) → (messages : List Named) → Option LastLine
latest last messages = fold (λ found message. later found (last message.key)) None messages

-- As `last_after`, for the line at `place`, if there is one. Else returns `found`.
abbrev pub looks_last : (key : List ℕ) → (found : Option LastLine) → (place : ℕ) → Option (Vec ℕ Global) → Option LastLine
looks_last key found place None = found
looks_last key found place (Some line) = last_after key place (said_by line.items) found

-- Returns the last of `lines` that names the message with this key, if one does. `by_key` has the places of `lines`.
abbrev pub last_kept : ByKey → (lines : List (Vec ℕ Global)) → (key : Vec ℕ Global) → Option LastLine
last_kept by_key lines key = looked_up (looks_last key.items) lines None (places_of by_key key)

-- Returns the latest of `lines` that names one of `messages`, if a line does. `by_key` has the places of `lines`.
abbrev pub latest_among : ByKey → (lines : List (Vec ℕ Global)) → (messages : List Message) → Option LastLine
latest_among by_key lines messages = fold (λ found message. later found (last_kept by_key lines message.key)) None messages

-- ---- the days of a message

-- Returns a list with the day of a line that says this, if the line names the message with this key. Else the list is
-- empty.
abbrev pub day_if : (key : List ℕ) → Option Said → List Date
day_if key None = []
day_if key (Some says) = if bytes_eq says.message key then says.day ∷ [] else []

-- Returns the days of those of `lines` that name the message with this key, in their order.
abbrev pub days_named : (key : List ℕ) → (lines : List (List ℕ)) → List Date
days_named key lines = flat_map (λ line. day_if key (said_by line)) lines

-- Returns `days`, and at its end the day of a line, if the line is there and names the message with this key.
abbrev pub with_day : (key : List ℕ) → (days : List Date) → Option (Vec ℕ Global) → List Date
with_day key days None = days
with_day key days (Some line) = days ++ day_if key (said_by line.items)

-- As `with_day`, with the `place` of the line, which does not matter. So `looked_up` can take it.
abbrev pub looks_days : (key : List ℕ) → (days : List Date) → (place : ℕ) → Option (Vec ℕ Global) → List Date
looks_days key days place found = with_day key days found
