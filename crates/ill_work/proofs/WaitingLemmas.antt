-- Proves that a date that is past stays past, and that a due date that is soon stays soon. So no work becomes less
-- pressing because days pass.
use Rattle.std.proofs.Common.{rules, arith, ◌≡◌, ◌≤◌, ◌+◌, ℕ, zero, suc, Bool, true, false, cond, Option, None, Some, Ok, Err}
use Rattle.std.proofs.Common.{refl}
use Rattle.std.specs.Prelude.{if◌then◌else◌, nat_lt, nat_le}
use Rattle.std.proofs.lemmas.Bool.{ltb-true}
use Rattle.std.proofs.lemmas.Bool.Decides.{nat_tests}
use Rattle.ill_values.specs.Day.{Date, IsDate, days_in_month, next_day, days_later}
use Rattle.ill_values.specs.declared.fault.DayFault.TheVariants.{OutOfRange}
use Rattle.ill_core.specs.declared.state.State.{State}
use Rattle.ill_core.specs.Dates.{is_before, is_after_due}
use Rattle.ill_core.specs.Requester.{is_declined, is_received_by}
use Rattle.ill_record.specs.declared.side.Side.{Side}
use Rattle.ill_record.specs.declared.side.Side.TheVariants as sides
use Rattle.ill_record.specs.Side.{due_date_of}
use Rattle.ill_words.specs.Possible.{request_of}
use Rattle.ill_core.specs.ResponderActions.{expiry_of}
use Rattle.ill_work.specs.declared.dates.Dates.{Dates}
use Rattle.ill_work.specs.Work.{urgency_of}
use Rattle.ill_work.specs.Table.{requester_work_in, responder_work_in, dates_on}
use Rattle.ill_work.specs.Order.{urgency_on}
use Rattle.ill_work.specs.Dates.{is_by, is_due_within}

-- ---- a day later

-- Returns the day after `d`, whose month has `length` days.
abbrev next_by : ℕ → Date → Date
next_by length d =
    if nat_lt d.day length
    then record { year = d.year; month = d.month; day = d.day + 1 }
    else (if nat_lt d.month 12 then record { year = d.year; month = d.month + 1; day = 1 }
    else record { year = d.year + 1; month = 1; day = 1 })

-- If `b` is not before `a`, the day after `b` is not before the day after `a`. The months of `a` and `b` have `of_a`
-- and `of_b` days.
next_keeps_by : (a b : Date) (of_a of_b : ℕ) → (a.year ≡ b.year → a.month ≡ b.month → of_a ≡ of_b) → a.day ≤ of_a → b.day ≤ of_b
    → a.month ≤ 12 → b.month ≤ 12 → 1 ≤ a.month → 1 ≤ b.month → 1 ≤ a.day → 1 ≤ b.day → is_before b a ≡ false
    → is_before (next_by of_b b) (next_by of_a a) ≡ false
next_keeps_by a b of_a of_b same a_day b_day a_month b_month a_first b_first a_one b_one not_before = grind (arith, nat_tests)

-- The month of `d` is from 1 to 12, and its day is one of this month.
record IsInMonth (d : Date) : Type 0 where
  month_first : 1 ≤ d.month
  month_last : d.month ≤ 12
  day_first : 1 ≤ d.day
  day_last : d.day ≤ days_in_month d.year d.month

-- Each month has a first day.
one_day : (year month : ℕ) → 1 ≤ days_in_month year month
one_day year month = grind (arith, nat_tests)

-- If `d` is a day of its month, so is the day after `d`. `in_month` says that the day after `d` is in the same month.
-- `in_year` says that the next month is in the same year.
next_in : (d : Date) (in_month in_year : Bool) → IsInMonth d → nat_lt d.day (days_in_month d.year d.month) ≡ in_month
    → nat_lt d.month 12 ≡ in_year
    → IsInMonth (cond in_month (record { year = d.year; month = d.month; day = d.day + 1 })
    (cond in_year (record { year = d.year; month = d.month + 1; day = 1 })
    (record { year = d.year + 1; month = 1; day = 1 })))
next_in d true in_year is e f = record {
  month_first = is.month_first;
  month_last = is.month_last;
  day_first = omega arith;
  day_last = omega (arith, ltb-true d.day (days_in_month d.year d.month) e);
}
next_in d false true is e f = record {
  month_first = omega arith;
  month_last = omega (arith, ltb-true d.month 12 f);
  day_first = omega arith;
  day_last = one_day d.year (d.month + 1);
}
next_in d false false is e f = record {
  month_first = omega arith;
  month_last = omega arith;
  day_first = omega arith;
  day_last = one_day (d.year + 1) 1;
}

-- ---- some days later, and due dates that are soon

-- `a` and `b` are days of their months, and `b` is not before `a`.
record IsNotBefore (a b : Date) : Type 0 where
  first : IsInMonth a
  second : IsInMonth b
  order : is_before b a ≡ false

-- If `b` is not before `a`, the day after `b` is not before the day after `a`.
next_keeps : (a b : Date) → IsNotBefore a b → IsNotBefore (next_day a) (next_day b)
next_keeps a b h = record {
  first = next_in a (nat_lt a.day (days_in_month a.year a.month)) (nat_lt a.month 12) h.first refl refl;
  second = next_in b (nat_lt b.day (days_in_month b.year b.month)) (nat_lt b.month 12) h.second refl refl;
  order = next_keeps_by a b (days_in_month a.year a.month) (days_in_month b.year b.month)
      (λ year month i. days_in_month (year i) (month i)) h.first.day_last h.second.day_last h.first.month_last
      h.second.month_last h.first.month_first h.second.month_first h.first.day_first h.second.day_first h.order;
}

-- If `b` is not before `a`, their order stays `n` days later.
later_keeps : (n : ℕ) (a b : Date) → IsNotBefore a b → IsNotBefore (days_later n a) (days_later n b)
unfolding days_later
later_keeps zero a b h = h
later_keeps (suc n) a b h = next_keeps (days_later n a) (days_later n b) (later_keeps n a b h)

-- If `b` is not before `a`, and `due` is by `a`, `due` is by `b`. `has_a` and `has_b` say that `a` and `b` are in the
-- calendar.
by_keeps : (a b due : Date) (has_a has_b : Bool) → nat_le a.year 9999 ≡ has_a → nat_le b.year 9999 ≡ has_b
    → is_before b a ≡ false → is_by (cond has_a (Ok a) (Err OutOfRange)) due ≡ true
    → is_by (cond has_b (Ok b) (Err OutOfRange)) due ≡ true
by_keeps a b due has_a false in_a in_b order is = refl
by_keeps a b due true true in_a in_b order is = grind (arith, nat_tests)
by_keeps a b due false true in_a in_b order is = grind (arith, nat_tests)

-- A day of the calendar is a day of its month.
in_month : (d : Date) → IsDate d → IsInMonth d
in_month d is = record {
  month_first = is.from_january;
  month_last = is.to_december;
  day_first = is.from_first;
  day_last = is.to_last;
}

-- A due date that is soon on a day is soon on each later day.
stays_soon : (today later : Date) (ahead : ℕ) (due : Option Date) → IsDate today → IsDate later
    → is_before later today ≡ false → is_due_within today ahead due ≡ true → is_due_within later ahead due ≡ true
stays_soon today later ahead None from until order is = search rules
stays_soon today later ahead (Some due) from until order is =
    let ends = later_keeps ahead today later
    (record { first = in_month today from; second = in_month later until; order = order }) in
    by_keeps (days_later ahead today) (days_later ahead later) due _ _ refl refl ends.order is

-- ---- dates that are past, and work

-- A date that is past on a day is past on each later day.
stays_past : (today later : Date) (limit : Option Date) → is_before later today ≡ false → is_after_due today limit ≡ true
    → is_after_due later limit ≡ true
stays_past today later None order is = search rules
stays_past today later (Some limit) order is = grind (arith, nat_tests)

-- Each date of a loan that is past, or soon, by `on` is so by `later`. Both say how the dates of the loan stand to a
-- day.
pub record AreLater (on later : Dates) : Type 0 where
  pub expired : on.has_expired ≡ true → later.has_expired ≡ true
  pub overdue : on.is_overdue ≡ true → later.is_overdue ≡ true
  pub soon : on.is_due_soon ≡ true → later.is_due_soon ≡ true

-- Let each date that is past or soon by `on` be so by `later`. Then a requester's work is at least as pressing by
-- `later`.
pub requester_waits : (s : State) (declined received checked_in : Bool) (on later : Dates) → AreLater on later
    → urgency_of (requester_work_in s declined received checked_in later)
    ≤ urgency_of (requester_work_in s declined received checked_in on)
requester_waits s declined received checked_in on later h = search (rules, h.expired, h.overdue, h.soon)

-- Let each date that is past or soon by `on` be so by `later`. Then a responder's work is at least as pressing by
-- `later`.
pub responder_waits : (s : State) (received : Bool) (on later : Dates) → AreLater on later
    → urgency_of (responder_work_in s received later) ≤ urgency_of (responder_work_in s received on)
responder_waits s received on later h = search (rules, h.expired, h.overdue)

-- The work with a side is at least as pressing on a later day.
pub less_pressing_never : (today later : Date) (ahead : ℕ) (side : Side) → IsDate today → IsDate later
    → is_before later today ≡ false → urgency_on later ahead side ≤ urgency_on today ahead side
less_pressing_never today later ahead side from until order =
    go side (record {
      expired = stays_past today later (expiry_of (request_of side)) order;
      overdue = stays_past today later (due_date_of side) order;
      soon = stays_soon today later ahead (due_date_of side) from until order;
    })
  where
    -- By cases of the role of `side`.
    go : (side : Side) → AreLater (dates_on today ahead side) (dates_on later ahead side)
        → urgency_on later ahead side ≤ urgency_on today ahead side
    go (sides.Requester x) h = requester_waits x.state (is_declined x) (is_received_by x) x.checked_in _ _ h
    go (sides.Responder y) h = responder_waits y.state y.received _ _ h
