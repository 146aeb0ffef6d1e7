-- Proves that days are counted by the calendar.
use Rattle.std.proofs.Common.{◌≡◌, ℕ, suc, ◌+◌, ◌-◌, ◌<◌, ◌≤◌, Bool, true, false, Option, Some, None, cond, nat_lt, refl, sym, ap}
use Rattle.std.proofs.Common.{subst, ◌∙◌}
use Rattle.std.proofs.Common.{arith, ℤ, pos, ◌+ℤ◌}
use Rattle.std.specs.Prelude.{nat_le, if◌then◌else◌}
use Rattle.std.proofs.lemmas.Bool.{ltb-true, ltb-false}
use Rattle.std.proofs.lemmas.Grind.{common_steps}
use Rattle.jiff_core.specs.Calendar.{day_count, days_from_civil}
use Rattle.jiff_core.proofs.SignedLemmas.{signed_arith}
use Rattle.jiff_core.proofs.CalendarLemmas.{days_from_civil-day_count}
use Rattle.jiff_core.proofs.DateLemmas.{days_from_civil-day, days_from_civil-next_month, days_from_civil-next_year}
use Rattle.ill_values.specs.Day.{Date, IsDate, days_in_month, next_day}
use Rattle.ill_figures.specs.Days.{day_number, days_between}

-- The number of days between two numbers, if the second is not below the first.
abbrev passed : ℕ → ℕ → Option ℕ
passed first last = if nat_le first last then Some (last - first) else None

-- From a number to itself, `passed` is 0.
zero_to_itself : (n : ℕ) → passed n n ≡ Some 0
zero_to_itself n = grind (arith, common_steps)

-- From a number to the next, `passed` is 1.
one_to_next : (n : ℕ) → passed n (suc n) ≡ Some 1
one_to_next n = grind (arith, common_steps)

-- If `passed` is `m` from `first` to `second`, and `n` from `second` to `last`, it is `m + n` from `first` to `last`.
passed_in_turn : (first second last m n : ℕ) → passed first second ≡ Some m → passed second last ≡ Some n
    → passed first last ≡ Some (m + n)
passed_in_turn first second last m n one two = grind (arith, common_steps)

-- A day is no days from itself.
pub same_day : (day : Date) → days_between day day ≡ Some 0
same_day day = zero_to_itself (day_number day)

-- If `second` is `m` days after `first`, and `last` is `n` days after `second`, `last` is `m + n` days after `first`.
pub in_turn : (first second last : Date) (m n : ℕ) → days_between first second ≡ Some m → days_between second last ≡ Some n
    → days_between first last ≡ Some (m + n)
in_turn first second last m n one two = passed_in_turn (day_number first) (day_number second) (day_number last) m n one two

-- If the number of a day by jiff (`days_from_civil`) is one more than that of another day, so is its `day_count`.
number_next : (y z : ℤ) (m d k l : ℕ) → days_from_civil z k l ≡ days_from_civil y m d +ℤ pos 1
    → day_count z k l ≡ suc (day_count y m d)
number_next y z m d k l is =
    omega (arith, signed_arith, is, days_from_civil-day_count z k l, days_from_civil-day_count y m d)

-- The number of the day that `next_day` chooses by its two tests is one more than that of `d`. The chosen day is in
-- the same month, the first of the next month, or 1 January.
next_by : (d : Date) (in_month in_year : Bool) → IsDate d → nat_lt d.day (days_in_month d.year d.month) ≡ in_month
    → nat_lt d.month 12 ≡ in_year
    → day_number (cond in_month (record { year = d.year; month = d.month; day = d.day + 1 })
    (cond in_year (record { year = d.year; month = d.month + 1; day = 1 })
    (record { year = d.year + 1; month = 1; day = 1 }))) ≡ suc (day_number d)
next_by d true in_year is e f =
    number_next (pos d.year) (pos d.year) d.month d.day d.month (d.day + 1)
    (omega (arith, signed_arith, days_from_civil-day (pos d.year) d.month d.day (d.day + 1) is.from_first (omega arith)))
next_by d false true is e f =
    let last = ltb-false d.day (days_in_month d.year d.month) e in
    number_next (pos d.year) (pos d.year) d.month d.day (d.month + 1) 1
    (days_from_civil-next_month (pos d.year) d.month d.day is.from_january (omega (arith, last, is.to_last)))
next_by d false false is e f =
    let last = ltb-false d.day (days_in_month d.year d.month) e in
    let end = ltb-false d.month 12 f in
    let month : d.month ≡ 12 = omega (arith, end, is.to_december) in
    let long : days_in_month d.year d.month ≡ 31 = rw month refl in
    let day : d.day ≡ 31 = omega (arith, last, long, is.to_last) in
    number_next (pos d.year) (pos (d.year + 1)) d.month d.day 1 1
    (rw (month, day) (days_from_civil-next_year (pos d.year) (pos (d.year + 1)) (omega (arith, signed_arith))
    (omega (arith, signed_arith))))

-- The next day is one day later.
pub one_day : (day : Date) → IsDate day → days_between day (next_day day) ≡ Some 1
one_day day is =
    subst (λ (n : ℕ). passed (day_number day) n ≡ Some 1)
    (sym (next_by day (nat_lt day.day (days_in_month day.year day.month)) (nat_lt day.month 12) is refl refl))
    (one_to_next (day_number day))
