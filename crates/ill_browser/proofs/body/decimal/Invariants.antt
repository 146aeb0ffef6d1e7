-- States the loop invariant of `decimal` (`src/body.rt`).
use Rattle.std.proofs.Common.{◌≡◌, ◌<◌, ◌^◌, take}
use Rattle.ill_browser.specs.Visit.{decimal_value}
use Rattle.ill_browser.proofs.body.decimal.Given as goal

-- The value is that of the digits so far. It is below the power of 10 that their number gives.
abbrev pub invariant-loop-digit : goal.invariant-loop-digit
invariant-loop-digit l =
    record { below : l.value < 10 ^ l.digit-index; value : l.value ≡ decimal_value (take l.digit-index l.digits) }
