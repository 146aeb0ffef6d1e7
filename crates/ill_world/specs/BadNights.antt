-- These are wrong answers of `is_over`, `wants_sending` and `asks`, and records that are not at rest. Each case has its
-- own fault. By the laws the definitions of a night exclude them all.
use Rattle.std.specs.Prelude.{◌≡◌, Bool, true, false}
use Rattle.ill_core.specs.State.{is_among}
use Rattle.ill_core.specs.Issued.{is_none}
use Rattle.ill_core.specs.Requester.{RequesterRecord}
use Rattle.ill_core.specs.Responder.{ResponderRecord}
use Rattle.ill_record.specs.declared.side.Side.{Side}
use Rattle.ill_record.specs.declared.side.Side.TheVariants as sides
use Rattle.ill_record.specs.Side.{issued_of}
use Rattle.ill_world.specs.Round.{facing_in}
use Rattle.ill_words.specs.Sending.{is_over}

-- The Bool is a wrong answer of `asks` for this side.
pub data MisjudgesAsking : Side → Bool → Type 0 where
  -- The loan is over for the side, or it has issued nothing. But the answer says that it asks.
  over_asks : (side : Side) → is_over side ≡ true → MisjudgesAsking side true
  idle_asks : (side : Side) → is_none (issued_of side) ≡ true → MisjudgesAsking side true
  -- The loan is open for the side, and it has issued a message. But the answer says that it does not ask.
  open_asks_not : (side : Side) → is_over side ≡ false → is_none (issued_of side) ≡ false →
      MisjudgesAsking side false

-- The two records are not at rest. The loan is open for one of them, or their states do not face each other.
pub data Restless (x : RequesterRecord) (y : ResponderRecord) : Type 0 where
  open_requester : is_over (sides.Requester x) ≡ false → Restless x y
  open_responder : is_over (sides.Responder y) ≡ false → Restless x y
  unfaced : is_among (facing_in y.state) x.state ≡ false → Restless x y
