-- The actions that a day allows (this profile's own). The verbs of a side are those that its state allows.
use Rattle.std.specs.Prelude.{Bool, true, List, filter, slice_get, Option, None, Some, ℕ}
use Rattle.ill_values.specs.Day.{Date}
use Rattle.ill_values.specs.declared.apdu.Apdu.{Apdu}
use Rattle.ill_core.specs.declared.verb.Verb.{Verb}
use Rattle.ill_core.specs.declared.verb.Verb.TheVariants.{Overdue, Expire}
use Rattle.ill_core.specs.Dates.{is_after_due}
use Rattle.ill_core.specs.ResponderActions.{expiry_of}
use Rattle.ill_record.specs.declared.side.Side.{Side}
use Rattle.ill_record.specs.declared.side.Side.TheVariants.{Requester, Responder}
use Rattle.ill_record.specs.Side.{due_date_of}
use Rattle.ill_record.specs.SideVerbs.{verbs_of}
use Rattle.ill_values.specs.Body.{Body}
use Rattle.ill_values.specs.declared.apdu.BodyWith.TheVariants.{IllRequest}

-- Returns the request of a loan: a requester's first message, or the request in a responder's record.
abbrev pub request_of : Side → Option Apdu
request_of (Requester x) = slice_get x.issued 0
request_of (Responder y) = y.request

-- Returns the last day of the calendar.
abbrev pub last_day : Date
last_day = record { year = 9999; month = 12; day = 31 }

-- Returns true if the day `limit` is past on the day `today`. Without `today`, returns true if `limit` is past on some
-- day. Without `limit`, returns false.
abbrev pub is_past : Option Date → Option Date → Bool
is_past None limit = is_after_due last_day limit
is_past (Some today) limit = is_after_due today limit

-- Returns true if the day `today` allows the action. Without a day, returns true if some day allows it. An Overdue
-- needs a due date that is past. An Expire needs an expiry date of the request that is past.
abbrev pub is_allowed : Option Date → Side → Verb → Bool
is_allowed today side Overdue = is_past today (due_date_of side)
is_allowed today side Expire = is_past today (expiry_of (request_of side))
is_allowed today side other = true

-- Returns the actions that the side may do on the day `today`. Without a day, returns those that it may do on some day.
abbrev pub possible_on : Option Date → Side → List Verb
possible_on today side = filter (is_allowed today side) (verbs_of side)

-- Returns the item in an ILL-Request, and none in any other message.
abbrev pub item_in : Body → Option (List ℕ)
item_in (IllRequest expiry item) = Some item
item_in other = None

-- Returns the item of an ILL-Request, and none of another message or without a message.
abbrev pub item_asked : Option Apdu → Option (List ℕ)
item_asked None = None
item_asked (Some a) = item_in a.body
