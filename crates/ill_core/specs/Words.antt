-- The names of turns, of answers to messages and of refusals. They are this profile's own.
use Rattle.std.specs.Prelude.{ℕ, List, codes}
use Rattle.ill_core.specs.declared.refusal.Refusal.{Refusal}
use Rattle.ill_core.specs.declared.refusal.Refusal.TheVariants as refusals
use Rattle.ill_core.specs.declared.taking.Taking.{Taking}
use Rattle.ill_core.specs.declared.taking.Taking.TheVariants.{Taken, Repeat, Stale, Conflict}
use Rattle.ill_core.specs.declared.turn.Turn.{Turn}
use Rattle.ill_core.specs.declared.turn.Turn.TheVariants.{Over, Mine, Theirs}

-- Returns the name of the library that acts next.
abbrev pub turn_name : Turn → List ℕ
turn_name Over = codes "over"
turn_name Mine = codes "mine"
turn_name Theirs = codes "theirs"

-- Returns the name of the answer to a message.
abbrev pub taking_name : Taking → List ℕ
taking_name Taken = codes "taken"
taking_name Repeat = codes "repeat"
taking_name Stale = codes "stale"
taking_name (Conflict state) = codes "conflict"

-- Returns the name of a refusal.
abbrev pub refusal_name : Refusal → List ℕ
refusal_name refusals.OtherTransaction = codes "other-transaction"
refusal_name refusals.WrongRole = codes "wrong-role"
refusal_name (refusals.NotNow state) = codes "not-now"
refusal_name refusals.DateEarlier = codes "date-earlier"
refusal_name refusals.DateNotLater = codes "date-not-later"
refusal_name refusals.NotDue = codes "not-due"
refusal_name refusals.NotExpired = codes "not-expired"
refusal_name refusals.NumbersUsed = codes "numbers-used"
refusal_name refusals.OutOfMemory = codes "memory"
