-- The diary of a desk: a line for each message that it issued or took, with the day and the name of a person.
use Rattle.std.specs.Prelude.{◌≡◌, ℕ, Bool, true, false, not, ◌&&◌, ◌==◌, List, [], ◌∷◌, ◌++◌, take, codes, bytes_eq}
use Rattle.std.specs.Prelude.{Option, None, Some, is_ok, option_map}
use Rattle.std.specs.List.{flat_map, list_any}
use Rattle.std.specs.Fmt.{decimal}
use Rattle.std.specs.Io.KnownBytes.{Appends}
use Rattle.ill_values.specs.Day.{Date, date_text}
use Rattle.ill_values.specs.Text.{item_check}
use Rattle.ill_values.specs.Types.{type_name}
use Rattle.ill_values.specs.TxnId.{Qualifiers}
use Rattle.ill_values.specs.declared.apdu.Apdu.{Apdu}
use Rattle.ill_text.specs.declared.diary.Stamp.{Stamp}
use Rattle.ill_text.specs.Escape.{escaped}
use Rattle.ill_text.specs.Keys.{loan_key}

-- ---- the line of a message

-- The day of a command, and the name of the person who gives it, if one is named.
pub record Stamped : Type 0 where
  pub day : Date
  pub by : Option (List ℕ)

-- Returns the day and the name of a stamp.
abbrev pub stamped : Stamp → Stamped
stamped stamp = record { day = stamp.day; by = option_map (λ name. name.now) stamp.by }

-- Returns true if a diary may name a person by `text`. An item could have this text, it has no space, and it is no
-- dash.
abbrev pub is_name : List ℕ → Bool
is_name text = is_ok (item_check text) && (not (list_any (λ byte. byte == 0x20) text) && not (bytes_eq text (codes "-")))

-- Returns the name of a person, or a dash if nobody is named.
abbrev pub name_or_dash : Option (List ℕ) → List ℕ
name_or_dash None = codes "-"
name_or_dash (Some name) = escaped name

-- Returns the text that names a message: its loan, `what` it is, and its number. `what` is the verb of an issued
-- message, and the type of one that came.
abbrev pub message_key : Qualifiers → (what : List ℕ) → ℕ → List ℕ
message_key txn what number = loan_key txn ++ (what ++ (codes " " ++ decimal number))

-- Returns the text before the key of a message: the day, and the name of a person or a dash.
abbrev pub stamp_text : Date → Option (List ℕ) → List ℕ
stamp_text day by = date_text day ++ (codes " " ++ (name_or_dash by ++ codes " "))

-- Returns the text before the key of each message that comes. Without a stamp it is empty.
abbrev pub begin_text : Option Stamped → List ℕ
begin_text None = []
begin_text (Some stamp) = stamp_text stamp.day stamp.by

-- Returns the line of a message, with its end.
abbrev pub diary_line : Date → Option (List ℕ) → Qualifiers → (what : List ℕ) → ℕ → List ℕ
diary_line day by txn what number = stamp_text day by ++ (message_key txn what number ++ codes "\n")

-- Returns the line of a message that came, which begins with `begin`, the text before the key.
abbrev pub came_line : (begin : List ℕ) → Apdu → List ℕ
came_line begin a = begin ++ (message_key a.txn (type_name a.body) a.number ++ codes "\n")

-- Returns the lines of messages that came, in their order. Each begins with `begin`.
abbrev pub came_lines : (begin : List ℕ) → List Apdu → List ℕ
came_lines begin apdus = flat_map (came_line begin) apdus

-- ---- a diary that is written

-- A diary that is written: its bytes, if they are known. `has_failed` is true if a line could not be entered.
pub record DiaryState : Type 0 where
  pub bytes : Option (List ℕ)
  pub has_failed : Bool

-- Returns the state of a diary with these bytes, which has failed if `has_failed` is true.
abbrev pub diary_state : Option (List ℕ) → Bool → DiaryState
diary_state bytes has_failed = record { bytes = bytes; has_failed = has_failed }

-- The bytes grew from `old` to `new` by `lines`, or only by a prefix of them if the diary `has_failed`.
abbrev pub GrowsBy : (has_failed : Bool) → List ℕ → Option (List ℕ) → Option (List ℕ) → Type 0
GrowsBy false lines old new = Appends old new lines
GrowsBy true lines old new = (size : ℕ) × Appends old new (take size lines)

-- A call was to enter `lines` in a diary. All of them were entered, or only a prefix if the diary has failed. A diary
-- that had failed before stays as it is.
abbrev pub Enters : List ℕ → DiaryState → DiaryState → Type 0
Enters lines old new = GrowsBy new.has_failed lines old.bytes new.bytes × (old.has_failed ≡ true → new ≡ old)
