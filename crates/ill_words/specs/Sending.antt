-- A loan may be over for a side, and only some sides send in a night. This is this profile's own.
use Rattle.std.specs.Prelude.{Bool, true, false, not, ◌||◌}
use Rattle.ill_core.specs.declared.turn.Turn.{Turn}
use Rattle.ill_core.specs.declared.turn.Turn.TheVariants.{Over, Mine, Theirs}
use Rattle.ill_record.specs.declared.side.Side.{Side}
use Rattle.ill_record.specs.declared.side.Side.TheVariants as sides
use Rattle.ill_record.specs.SideVerbs.{turn_of}
use Rattle.ill_record.specs.declared.role.Role.TheVariants.{Requester, Responder}

-- Returns true for `Over`, the turn at which nobody acts next.
abbrev pub is_nobodys : Turn → Bool
is_nobodys Over = true
is_nobodys Mine = false
is_nobodys Theirs = false

-- Returns true if the loan is over for `side`: nobody acts next, as far as its record tells.
abbrev pub is_over : Side → Bool
is_over side = is_nobodys (turn_of side)

-- Returns true if `side` sends its messages in this night. It does if its loan is not over. A responder does so too if
-- it was asked: a message of the loan came in this night.
abbrev pub wants_sending : Bool → Side → Bool
wants_sending was_asked (sides.Requester x) = not (is_over (sides.Requester x))
wants_sending was_asked (sides.Responder y) = not (is_over (sides.Responder y)) || was_asked
