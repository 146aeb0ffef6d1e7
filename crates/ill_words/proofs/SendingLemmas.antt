-- Proves which sides send in a night.
use Rattle.std.proofs.Common.{◌≡◌, Bool, true, false, not, ◌||◌, ap}
use Rattle.std.proofs.lemmas.Bool.{or_left}
use Rattle.ill_record.specs.declared.side.Side.{Side}
use Rattle.ill_record.specs.declared.side.Side.TheVariants as sides
use Rattle.ill_words.specs.Sending.{is_over, wants_sending}

-- A side sends its messages if its loan is not over.
pub open_wants : (was_asked : Bool) (side : Side) → is_over side ≡ false → wants_sending was_asked side ≡ true
open_wants was_asked (sides.Requester x) is_open = ap not is_open
open_wants was_asked (sides.Responder y) is_open = or_left (not (is_over (sides.Responder y))) was_asked (ap not is_open)

-- A side that was not asked sends nothing if its loan is over.
pub over_is_silent : (side : Side) → is_over side ≡ true → wants_sending false side ≡ false
over_is_silent (sides.Requester x) over = ap not over
over_is_silent (sides.Responder y) over = ap (λ b. not b || false) over
