-- Answers the contract of `number` (`src/days.rt`).
use Rattle.std.proofs.Common.{◌≡◌, ℕ, ℤ, pos, ◌+ℤ◌, ◌-ℤ◌, sym, arith}
use Rattle.jiff_core.proofs.SignedLemmas.{signed_arith}
use Rattle.jiff_core.specs.Calendar.{day_count, days_from_civil}
use Rattle.jiff_core.specs.Date.{IsYmd, epoch_day}
use Rattle.jiff_core.specs.declared.civil.date.Date.{Date as CivilDate}
use Rattle.ill_values.specs.Day.{Date}
use Rattle.ill_figures.specs.Days.{day_number}
use Rattle.ill_figures.proofs.days.number.Goals as goal

-- Let a date of jiff be the day `d`, and let `result` days be from jiff's first day to the date. Then `result` is the
-- number of `d`, counted from jiff's first day.
number_same : (d : Date) (date : CivilDate) (result : ℕ) → IsYmd (pos d.year) (pos d.month) (pos d.day) date
    → epoch_day date +ℤ pos 4_371_587 ≡ pos result
    → pos result ≡ pos (day_number d) -ℤ pos (day_count (pos 1970) 1 1) +ℤ pos 4_371_587
unfolding days_from_civil
number_same d date result same is =
    let month : date.month ≡ d.month = omega (arith, signed_arith, same.1) in
    let day : date.day ≡ d.day = omega (arith, signed_arith, same.2) in
    sym (rw (same.0, month, day) at is)

-- Proves the contract of `number`. By `number_same` it is the number of the date of jiff.
pub returns : goal.returns
returns c = number_same c.args.day c.civil.result c.days_since_min.result c.civil.ensures c.days_since_min.ensures.value
