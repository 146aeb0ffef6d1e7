-- The messages that dates have made due, as news: a responder's Overdue and Expired.
use Rattle.std.specs.Prelude.{ℕ, Bool, true, false, not, ◌&&◌, List, [], filter, Option, None, Some}
use Rattle.std.specs.List.{flat_map}
use Rattle.ill_values.specs.Day.{Date}
use Rattle.ill_values.specs.Body.{Body}
use Rattle.ill_values.specs.declared.apdu.Apdu.{Apdu}
use Rattle.ill_values.specs.declared.apdu.BodyWith.TheVariants.{Expired, Overdue}
use Rattle.ill_core.specs.Verbs.{verb_name}
use Rattle.ill_record.specs.declared.side.Side.{Side}
use Rattle.ill_record.specs.declared.side.Side.TheVariants.{Requester, Responder}
use Rattle.ill_text.specs.Diary.{message_key}
use Rattle.ill_beside.specs.Diary.{body_verb}
use Rattle.ill_news.specs.CameSince.{is_named_before, is_named_since}

-- Returns true for a message that a date makes due: an Overdue or an Expired.
abbrev pub is_by_date : Body → Bool
is_by_date (Overdue day) = true
is_by_date Expired = true
is_by_date other = false

-- Returns the key by which a diary names a message that was issued.
abbrev pub deed_key : Apdu → List ℕ
deed_key a = message_key a.txn (verb_name (body_verb a.body)) a.number

-- Returns true if a line of `day` or later names the issued message, and no line of an earlier day does.
abbrev pub is_done_since : Date → (lines : List (List ℕ)) → Apdu → Bool
is_done_since day lines a = is_named_since day (deed_key a) lines && not (is_named_before day (deed_key a) lines)

-- Returns true if a date made the issued message due, and the lines of a diary tell that it was issued on `day` or
-- later.
abbrev pub is_deed_since : Date → (lines : List (List ℕ)) → Apdu → Bool
is_deed_since day lines a = is_by_date a.body && is_done_since day lines a

-- Returns the messages of a side that dates have made due since `day`, by the lines of a diary. A requester has none.
abbrev pub deeds_at : Date → (lines : List (List ℕ)) → Side → List Apdu
deeds_at day lines (Requester x) = []
deeds_at day lines (Responder y) = filter (is_deed_since day lines) y.issued

-- Returns the messages of `sides` that dates have made due since a day, in the order of the sides. Without a day
-- there are none.
abbrev pub deeds_since : Option Date → (lines : List (List ℕ)) → List Side → List Apdu
deeds_since None lines sides = []
deeds_since (Some day) lines sides = flat_map (deeds_at day lines) sides
