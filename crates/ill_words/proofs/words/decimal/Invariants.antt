-- The loop of `decimal` (`src/words.rt`) keeps this invariant.
use Rattle.std.proofs.Common.{◌≡◌, ◌<◌, ◌^◌, take}
use Rattle.ill_words.specs.Words.{decimal_value}
use Rattle.ill_words.proofs.words.decimal.Given as goal

-- `value` is the number that the digits so far encode. With n digits so far, `value` is less than 10 to the power n.
abbrev pub invariant-loop-digit : goal.invariant-loop-digit
invariant-loop-digit l =
    record { below : l.value < 10 ^ l.digit-index; value : l.value ≡ decimal_value (take l.digit-index l.digits) }
