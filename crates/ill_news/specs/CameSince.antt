-- The messages that came to a desk since a day, by its diary.
use Rattle.std.specs.Prelude.{ℕ, Bool, not, ◌&&◌, List, filter, Option, None, Some}
use Rattle.std.specs.List.{after_last, list_any}
use Rattle.ill_values.specs.Day.{Date}
use Rattle.ill_values.specs.Types.{type_name}
use Rattle.ill_values.specs.declared.apdu.Apdu.{Apdu}
use Rattle.ill_core.specs.Dates.{is_before}
use Rattle.ill_text.specs.Diary.{message_key}
use Rattle.ill_beside.specs.KeyedDiary.{days_named}

-- Returns the key by which a diary names a message that came.
abbrev pub came_key : Apdu → List ℕ
came_key a = message_key a.txn (type_name a.body) a.number

-- Returns true if the day `other` is `day` or later.
abbrev pub is_since : Date → (other : Date) → Bool
is_since day other = not (is_before other day)

-- Returns true if a line of `day` or later names the message with this `key`.
abbrev pub is_named_since : Date → (key : List ℕ) → (lines : List (List ℕ)) → Bool
is_named_since day key lines = list_any (is_since day) (days_named key lines)

-- Returns true if the day `other` is earlier than `day`.
abbrev pub is_earlier : Date → (other : Date) → Bool
is_earlier day other = is_before other day

-- Returns true if a line of an earlier day than `day` names the message with this `key`.
abbrev pub is_named_before : Date → (key : List ℕ) → (lines : List (List ℕ)) → Bool
is_named_before day key lines = list_any (is_earlier day) (days_named key lines)

-- Returns true if a line of an earlier day than `day` names a message, and none of `day` or later does.
abbrev pub came_before : Date → (lines : List (List ℕ)) → Apdu → Bool
came_before day lines a = is_named_before day (came_key a) lines && not (is_named_since day (came_key a) lines)

-- Returns true if no line of an earlier day than `day` names a message. Such a message repeats none that was printed
-- before `day`.
abbrev pub is_new : Date → (lines : List (List ℕ)) → Apdu → Bool
is_new day lines a = not (is_named_before day (came_key a) lines)

-- Returns those of `came` that came on `day` or later, by the lines of a diary. These are the messages after the last
-- one that came before `day`, without repeats of older messages. So a message that no line names came when its
-- neighbours did. Without a day all messages are returned.
abbrev pub came_since : Option Date → (lines : List (List ℕ)) → List Apdu → List Apdu
came_since None lines came = came
came_since (Some day) lines came = filter (is_new day lines) (after_last (came_before day lines) came)
