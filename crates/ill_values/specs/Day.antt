-- Defines the days of the Gregorian calendar, from 1 January 1900 to 31 December 9999, and their texts.
use Rattle.std.specs.Prelude.{◌≡◌, ℕ, zero, suc, ◌+◌, ◌-◌, ◌*◌, ◌/◌, ◌%◌, ◌<◌, ◌≤◌, ◌⊎◌, Bool, not, ◌&&◌, ◌||◌, ◌==◌, nat_lt}
use Rattle.std.specs.Prelude.{nat_le, if◌then◌else◌, List, [], ◌∷◌, length, slice_index, Result, Ok, Err}
use Rattle.std.specs.List.{list_all}
use Rattle.std.specs.Char.{is_ascii_digit}
use Rattle.ill_values.specs.declared.fault.DayFault.{DayFault}
use Rattle.ill_values.specs.declared.fault.DayFault.TheVariants.{NotDigits, OutOfRange, NotADate}

-- A year, a month and a day of the month, each any natural number. `IsDate` says that they are a day.
pub record Date : Type 0 where
  pub year : ℕ
  pub month : ℕ
  pub day : ℕ

-- Returns true if `year` is a leap year: divisible by 4, and if divisible by 100, also by 400.
abbrev pub is_leap_year : ℕ → Bool
is_leap_year year = (year % 4 == 0) && (not (year % 100 == 0) || (year % 400 == 0))

-- Returns the number of days of `month` in `year`.
abbrev pub days_in_month : ℕ → ℕ → ℕ
days_in_month year month =
    if month == 2 then (if is_leap_year year then 29 else 28)
    else (if (month == 4) || (month == 6) || (month == 9) || (month == 11) then 30 else 31)

-- Returns true if `year` is from 1900 to 9999, the years of this profile.
abbrev pub is_year : ℕ → Bool
is_year year = nat_le 1900 year && nat_le year 9999

-- Returns true if `month` is from 1 to 12, and has `day` in `year`.
abbrev pub is_in_year : ℕ → ℕ → ℕ → Bool
is_in_year year month day =
    nat_le 1 month && nat_le month 12 && nat_le 1 day && nat_le day (days_in_month year month)

-- `d` is a day of the calendar, in the years of this profile.
pub record IsDate (d : Date) : Type 0 where
  pub from_1900 : 1900 ≤ d.year
  pub to_9999 : d.year ≤ 9999
  pub from_january : 1 ≤ d.month
  pub to_december : d.month ≤ 12
  pub from_first : 1 ≤ d.day
  pub to_last : d.day ≤ days_in_month d.year d.month

-- Returns the day with `year`, `month` and `day` of the month, or the first fault.
abbrev pub date_of : ℕ → ℕ → ℕ → Result Date DayFault
date_of year month day =
    if is_year year
    then (if is_in_year year month day then Ok (record { year = year; month = month; day = day })
    else Err NotADate)
    else Err OutOfRange

-- Returns the day after `d`.
abbrev pub next_day : Date → Date
next_day d =
    if nat_lt d.day (days_in_month d.year d.month)
    then record { year = d.year; month = d.month; day = d.day + 1 }
    else (if nat_lt d.month 12 then record { year = d.year; month = d.month + 1; day = 1 }
    else record { year = d.year + 1; month = 1; day = 1 })

-- Returns the day that is `n` days after `d`.
unfoldable pub days_later : ℕ → Date → Date
days_later zero d = d
days_later (suc n) d = next_day (days_later n d)

-- Returns the day that is `n` days after `d`, or `OutOfRange` if it is after 31 December 9999.
abbrev pub day_after : ℕ → Date → Result Date DayFault
day_after n d =
    let later = days_later n d in
    if nat_le later.year 9999 then Ok later else Err OutOfRange

-- Returns the last decimal digit of `n`, in ASCII.
abbrev pub last_digit : ℕ → ℕ
last_digit n = 48 + n % 10

-- Returns the date text of a day: eight digits, YYYYMMDD (ISO 8601-1, basic format).
abbrev pub date_text : Date → List ℕ
date_text d =
    last_digit (d.year / 1000) ∷ last_digit (d.year / 100) ∷ last_digit (d.year / 10) ∷ last_digit d.year
    ∷ last_digit (d.month / 10) ∷ last_digit d.month ∷ last_digit (d.day / 10) ∷ last_digit d.day ∷ []

-- Returns the text of a day with hyphens, YYYY-MM-DD (ISO 8601-1, extended format).
abbrev pub iso_text : Date → List ℕ
iso_text d =
    last_digit (d.year / 1000) ∷ last_digit (d.year / 100) ∷ last_digit (d.year / 10) ∷ last_digit d.year
    ∷ 0x2D ∷ last_digit (d.month / 10) ∷ last_digit d.month
    ∷ 0x2D ∷ last_digit (d.day / 10) ∷ last_digit d.day ∷ []

-- Returns true if `text` is eight ASCII digits.
abbrev pub eight_digits : List ℕ → Bool
eight_digits text = (length text == 8) && list_all is_ascii_digit text

-- Returns the value of the digit at index `place`.
abbrev pub digit_at : List ℕ → ℕ → ℕ
digit_at text place = slice_index text place - 48

-- Returns the value of the two digits from index `place` on.
abbrev pub two_digits_at : List ℕ → ℕ → ℕ
two_digits_at text place = 10 * digit_at text place + digit_at text (place + 1)

-- Returns the day with date text `text`, or the first fault of `text`.
abbrev pub read_date : List ℕ → Result Date DayFault
read_date text =
    if eight_digits text
    then date_of (two_digits_at text 0 * 100 + two_digits_at text 2)
    (two_digits_at text 4) (two_digits_at text 6)
    else Err NotDigits

-- `a` is before `b`: by year, then by month, then by day of the month.
abbrev pub IsBefore : Date → Date → Type 0
IsBefore a b =
    (a.year < b.year)
    ⊎ ((a.year ≡ b.year) × ((a.month < b.month) ⊎ ((a.month ≡ b.month) × (a.day < b.day))))
