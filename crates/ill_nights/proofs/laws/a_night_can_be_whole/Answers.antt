-- Proves the contract of `a_night_can_be_whole` (`src/laws.rt`).
use Rattle.ill_nights.proofs.WholeNights.{whole_night}
use Rattle.ill_nights.proofs.laws.a_night_can_be_whole.Goals as goal

pub returns : goal.returns
returns c = whole_night
