-- Proves that the day `n` days later has a number in jiff's calendar that is higher by `n`. So `day_after` agrees with
-- a date of jiff to which `n` days are added.
use Rattle.std.proofs.Common.{◌≡◌, ℕ, zero, suc, ◌+◌, ◌<◌, ◌≤◌, Bool, true, false, cond, nat_lt, Ok, Err, refl, sym, ap, ◌∙◌}
use Rattle.std.proofs.Common.{arith, ℤ, pos, ◌+ℤ◌, ◌≤ℤ◌, unsigned_abs, inl, inr}
use Rattle.std.specs.Int.{IsInRange}
use Rattle.std.proofs.lemmas.Bool.{ltb-true, ltb-false, cases_lt}
use Rattle.std.proofs.lemmas.Grind.{common_steps}
use Rattle.std.proofs.Math.Nat.{lt_of_not-le}
use Rattle.jiff_core.specs.declared.civil.date.Date.{Date as CivilDate}
use Rattle.jiff_core.specs.Calendar.{days_from_civil, IsEpochDay}
use Rattle.jiff_core.specs.Date.{epoch_day, IsYmd}
use Rattle.jiff_core.proofs.SignedLemmas.{signed_arith}
use Rattle.jiff_core.proofs.CalendarLemmas.{days_from_civil-day_count, day_count-lt_year, days_in_month_bounds}
use Rattle.jiff_core.proofs.DateLemmas.{days_from_civil-day, days_from_civil-next_month, days_from_civil-next_year}
use Rattle.jiff_core.proofs.DateLemmas.{days_from_civil-max, epoch_day_range, epoch_day_injective}
use Rattle.ill_values.specs.declared.fault.DayFault.TheVariants.{OutOfRange}
use Rattle.ill_values.specs.Day.{Date, IsDate, days_in_month, next_day, days_later, day_after, date_of}
use Rattle.ill_values.proofs.Dates.{date_made}

-- Returns the number of a day in jiff's calendar.
abbrev day_number : Date → ℤ
day_number d = days_from_civil (pos d.year) d.month d.day

-- `d` is a day of the calendar, in any year from 1900 on.
record IsDay (d : Date) : Type 0 where
  from_1900 : 1900 ≤ d.year
  month_in : IsInRange 1 12 d.month
  day_in : IsInRange 1 (days_in_month d.year d.month) d.day

-- `b` is a day of the calendar, and is `n` days after `a`.
record IsLater (n : ℕ) (a b : Date) : Type 0 where
  is_day : IsDay b
  number : day_number b ≡ day_number a +ℤ pos n

-- A day in range is a day of the calendar.
day_of_date : (d : Date) → IsDate d → IsDay d
day_of_date d is = record {
  from_1900 = is.from_1900;
  month_in = (is.from_january, is.to_december);
  day_in = (is.from_first, is.to_last);
}

-- A day of the calendar is in range if its year is at most 9999.
date_of_day : (d : Date) → IsDay d → d.year ≤ 9999 → IsDate d
date_of_day d is year = record {
  from_1900 = is.from_1900;
  to_9999 = year;
  from_january = is.month_in.0;
  to_december = is.month_in.1;
  from_first = is.day_in.0;
  to_last = is.day_in.1;
}

-- A month has 28 to 31 days.
month_bounds : (year month : ℕ) → (days_in_month year month ≤ 31) × (28 ≤ days_in_month year month)
month_bounds year month = days_in_month_bounds (pos year) month

-- If `d` is not the last day of its month, the next day of the month is one day later.
next_in_month : (d : Date) → IsDay d → d.day < days_in_month d.year d.month
    → IsLater 1 d (record { year = d.year; month = d.month; day = d.day + 1 })
next_in_month d is more = record {
  is_day = record { from_1900 = is.from_1900; month_in = is.month_in; day_in = (omega arith, omega arith) };
  number = omega (arith, signed_arith, days_from_civil-day (pos d.year) d.month d.day (d.day + 1) is.day_in.0 (omega arith));
}

-- If `d` is the last day of a month before December, the next month begins one day later.
next_in_year : (d : Date) → IsDay d → days_in_month d.year d.month ≤ d.day → d.month < 12
    → IsLater 1 d (record { year = d.year; month = d.month + 1; day = 1 })
next_in_year d is last more = record {
  is_day = record {
    from_1900 = is.from_1900;
    month_in = (omega arith, omega arith);
    day_in = (omega arith, omega (arith, month_bounds d.year (d.month + 1)));
  };
  number = days_from_civil-next_month (pos d.year) d.month d.day is.month_in.0 (omega (arith, is.day_in.1));
}

-- If `d` is 31 December, 1 January of the next year is one day later.
next_in_next_year : (d : Date) → IsDay d → days_in_month d.year d.month ≤ d.day → 12 ≤ d.month
    → IsLater 1 d (record { year = d.year + 1; month = 1; day = 1 })
next_in_next_year d is last end =
    let month : d.month ≡ 12 = omega (arith, is.month_in.1) in
    let long : days_in_month d.year d.month ≡ 31 = rw month refl in
    let day : d.day ≡ 31 = omega (arith, is.day_in.1) in
    record {
      is_day = record {
        from_1900 = omega (arith, is.from_1900);
        month_in = (omega arith, omega arith);
        day_in = (omega arith, omega arith);
      };
      number = rw (month, day) (days_from_civil-next_year (pos d.year) (pos (d.year + 1)) (omega (arith, signed_arith))
          (omega (arith, signed_arith)));
    }

-- The day that `next_day` chooses by its two tests is one day after `d`. The results of the tests are `in_month` and
-- `in_year`.
next_by : (d : Date) (in_month in_year : Bool) → IsDay d → nat_lt d.day (days_in_month d.year d.month) ≡ in_month
    → nat_lt d.month 12 ≡ in_year
    → IsLater 1 d (cond in_month (record { year = d.year; month = d.month; day = d.day + 1 })
    (cond in_year (record { year = d.year; month = d.month + 1; day = 1 })
    (record { year = d.year + 1; month = 1; day = 1 })))
next_by d true in_year is e f = next_in_month d is (ltb-true d.day (days_in_month d.year d.month) e)
next_by d false true is e f = next_in_year d is (ltb-false d.day (days_in_month d.year d.month) e) (ltb-true d.month 12 f)
next_by d false false is e f = next_in_next_year d is (ltb-false d.day (days_in_month d.year d.month) e) (ltb-false d.month 12 f)

-- `next_day d` is one day after `d`.
next_later : (d : Date) → IsDay d → IsLater 1 d (next_day d)
next_later d is = next_by d (nat_lt d.day (days_in_month d.year d.month)) (nat_lt d.month 12) is refl refl

-- If `b` is `n` days after `a`, and `c` one day after `b`, `c` is `suc n` days after `a`.
later_later : (n : ℕ) (a b c : Date) → IsLater n a b → IsLater 1 b c → IsLater (suc n) a c
later_later n a b c far near = record { is_day = near.is_day; number = omega (arith, signed_arith, far.number, near.number) }

-- `days_later n d` is `n` days after `d`.
days_later_later : (n : ℕ) (d : Date) → IsDay d → IsLater n d (days_later n d)
unfolding days_later
days_later_later zero d is = record { is_day = is; number = omega (arith, signed_arith) }
days_later_later (suc n) d is =
    let far = days_later_later n d is in
    later_later n d (days_later n d) (next_day (days_later n d)) far (next_later (days_later n d) far.is_day)

-- Returns the date of jiff for a day in range.
civil_of : (d : Date) → IsDate d → CivilDate
civil_of d is = record {
  year = pos d.year;
  month = d.month;
  day = d.day;
  year_in = omega (arith, signed_arith, is.to_9999);
  month_in = (is.from_january, is.to_december);
  day_in = (is.from_first, is.to_last);
}

-- The date `date` of jiff has the year, the month and the day of `d`.
abbrev pub IsSame : Date → CivilDate → Type 0
IsSame d date = IsYmd (pos d.year) (pos d.month) (pos d.day) date

-- If a date of jiff is the day `d`, its number is the number of `d`.
number_same : (d : Date) (date : CivilDate) → IsSame d date → epoch_day date ≡ day_number d
number_same d date same =
    let month : date.month ≡ d.month = omega (arith, signed_arith, same.1) in
    let day : date.day ≡ d.day = omega (arith, signed_arith, same.2) in
    rw (same.0, month, day) refl

-- If the year of the day `d` is at most 9999, the number of `d` is within jiff's calendar.
number_in_reach : (d : Date) → IsDay d → d.year ≤ 9999 → IsEpochDay (day_number d)
unfolding civil_of
number_in_reach d is year = epoch_day_range (civil_of d (date_of_day d is year))

-- If the number of the day `d` is within jiff's calendar, the year of `d` is at most 9999.
-- A later year has a number above that of 31 December 9999, the last day of jiff's calendar.
year_in_reach : (d : Date) → IsDay d → IsEpochDay (day_number d) → d.year ≤ 9999
year_in_reach d is reach =
    elim (cases_lt 9999 d.year) [
      | inl late ↦ absurd (omega (
        arith,
        signed_arith,
        days_from_civil-day_count,
        days_from_civil-max,
        day_count-lt_year (pos 9999) 12 31 (pos d.year) d.month d.day
            (omega (arith, signed_arith), (omega arith, omega arith), (omega arith, omega arith)) is.day_in.0
            (omega (arith, signed_arith)),
      ))
      | inr year ↦ year
    ]

-- If the year of the day `n` days after `d` is above 9999, `day_after` returns `OutOfRange`.
refused : (n : ℕ) (d : Date) → 9999 < (days_later n d).year → Err OutOfRange ≡ day_after n d
refused n d late = grind (arith, common_steps)

-- If the year of the day `n` days after `d` is at most 9999, `day_after` returns that day.
accepted : (n : ℕ) (d : Date) → (days_later n d).year ≤ 9999 → Ok (days_later n d) ≡ day_after n d
accepted n d year = grind (arith, common_steps)

-- If the number of `date` plus `n` is not within jiff's calendar, `day_after` returns `OutOfRange`.
pub refused_beyond : (n : ℕ) (d : Date) (date : CivilDate) → IsDate d → IsSame d date
    → ¬ (IsEpochDay (epoch_day date +ℤ pos n)) → Err OutOfRange ≡ day_after n d
refused_beyond n d date is same beyond =
    let far = days_later_later n d (day_of_date d is) in
    let number : day_number (days_later n d) ≡ epoch_day date +ℤ pos n = rw (number_same d date same) far.number in
    refused n d (lt_of_not-le (λ year. beyond (rw (← number) (number_in_reach (days_later n d) far.is_day year))))

-- If `n` is above 7,304,484, the most days in a span of jiff, `day_after` returns `OutOfRange`.
pub refused_too_many : (n : ℕ) (d : Date) → IsDate d → 7_304_484 < n → Err OutOfRange ≡ day_after n d
refused_too_many n d is many =
    let day = day_of_date d is in
    let far = days_later_later n d day in
    refused n d (lt_of_not-le (λ year.
    omega (
      arith,
      signed_arith,
      number_in_reach d day is.to_9999,
      number_in_reach (days_later n d) far.is_day year,
      far.number,
    )))

-- The date `later` of jiff is the day `d`, which is in range.
record IsReached (d : Date) (later : CivilDate) : Type 0 where
  in_range : IsDate d
  same_year : later.year ≡ pos d.year
  same_month : pos later.month ≡ pos d.month
  same_day : pos later.day ≡ pos d.day

-- Let `date` be the date of jiff for the day `d`. Let the number of `later` be the number of `date` plus `n`. Then
-- `later` is `days_later n d`, which is in range. For dates with equal numbers are equal (`epoch_day_injective`).
-- By `far` the day `days_later n d` is `n` days after `d`. By `here` its number is the number of `later`.
reached_same : (n : ℕ) (d : Date) (date later : CivilDate) → IsDate d → IsSame d date
    → epoch_day later ≡ epoch_day date +ℤ pos n → IsReached (days_later n d) later
unfolding civil_of
reached_same n d date later is same number =
    let far = days_later_later n d (day_of_date d is) in
    let here : epoch_day later ≡ day_number (days_later n d) = number ∙ rw (number_same d date same) (sym far.number) in
    let year = year_in_reach (days_later n d) far.is_day (rw (← here) (epoch_day_range later)) in
    let found = date_of_day (days_later n d) far.is_day year in
    let one = epoch_day_injective later (civil_of (days_later n d) found) here in
    record { in_range = found; same_year = one.0; same_month = ap pos one.1; same_day = ap pos one.2 }

-- Let `date` be the day `d`. If the number of `later` is the number of `date` plus `n`, the year of `later` is not
-- negative. By `there` the date `later` is the day `days_later n d`.
pub reached_year : (n : ℕ) (d : Date) (date later : CivilDate) → IsDate d → IsSame d date
    → epoch_day later ≡ epoch_day date +ℤ pos n → pos 0 ≤ℤ later.year
reached_year n d date later is same number =
    let there = reached_same n d date later is same number in
    rw there.same_year (omega (arith, signed_arith))

-- Let `date` be the day `d`. Let the number of `later` be the number of `date` plus `n`. Then `date_of` of the year,
-- month and day of `later` returns `day_after n d`. By `there` the date `later` is the day `days_later n d`.
pub reached : (n : ℕ) (d : Date) (date later : CivilDate) → IsDate d → IsSame d date
    → epoch_day later ≡ epoch_day date +ℤ pos n
    → date_of (unsigned_abs later.year) later.month later.day ≡ day_after n d
reached n d date later is same number =
    let there = reached_same n d date later is same number in
    let month : later.month ≡ (days_later n d).month = omega (arith, signed_arith, there.same_month) in
    let day : later.day ≡ (days_later n d).day = omega (arith, signed_arith, there.same_day) in
    rw (there.same_year, month, day)
    (date_made (days_later n d) there.in_range ∙ accepted n d there.in_range.to_9999)
