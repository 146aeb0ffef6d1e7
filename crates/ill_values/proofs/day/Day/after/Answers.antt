-- Proves the contract of `Day::after`: the result is the day `days` days later, or `OutOfRange`. It holds because
-- `days` days later the number of the day in jiff's calendar is higher by `days`.
use Rattle.std.proofs.Common.{◌≡◌, ℕ, ◌∙◌, ◌≤◌, false, true, ℤ, pos, arith, FitsSigned, w64, to_z, of_z}
use Rattle.std.proofs.lemmas.Int.{to_z-of_z}
use Rattle.jiff_core.specs.declared.span.Span.{Span}
use Rattle.jiff_core.specs.declared.unit.Unit.TheVariants.{Day}
use Rattle.jiff.specs.Words.{IsOnly}
use Rattle.jiff.proofs.SpanFacts.{date_add-days, can_add-days, signed_arith}
use Rattle.ill_values.proofs.DaysLater.{refused_beyond, refused_too_many, reached_year, reached}
use Rattle.ill_values.proofs.day.Day.after.Goals as goal

-- Let `given` be the integer `n`, and `s` the span that jiff makes of `given` days, as a 64-bit integer. If `n` is at
-- most 7,304,484, `s` has `n` days and no other unit.
span_of_days : (n : ℕ) (given : ℤ) (s : Span) → n ≤ 7_304_484 → given ≡ pos n → IsOnly Day (to_z w64 (of_z w64 given)) s
    → IsOnly Day (pos n) s
span_of_days n given s few e only =
    let fits : FitsSigned w64 given = rw e (omega (arith, signed_arith)) in
    rw e at (simp to_z-of_z at only)

-- More than `MAX_DAYS` days lead past 31 December 9999, so the result is `OutOfRange`.
pub returns-then-days-gt-MAX_DAYS-clause-value : goal.returns-then-days-gt-MAX_DAYS-clause-value
returns-then-days-gt-MAX_DAYS-clause-value c =
    refused_too_many c.args.days c.args.self.now c.to_civil-date.ensures.valid c.if-days-gt-MAX_DAYS.true

-- If jiff gives a later date, its year is not negative, as `from_civil` asks.
pub from_civil-requires : goal.from_civil-requires
from_civil-requires c =
    let date = c.to_civil-date in
    let span = span_of_days c.args.days c.from.result c.days.result c.if-days-gt-MAX_DAYS.false c.from.ensures c.days.ensures in
    let number = c.in-Ok.ensures.value ∙ date_add-days date.result (pos c.args.days) c.days.result span in
    reached_year c.args.days c.args.self.now date.result c.in-Ok.later date.ensures.valid date.ensures.value number

-- If jiff gives a later date, `from_civil` returns the day `days` days later, or `OutOfRange`.
pub returns-in-Ok-clause-value : goal.returns-in-Ok-clause-value
returns-in-Ok-clause-value c =
    let date = c.to_civil-date in
    let span = span_of_days c.args.days c.from.result c.days.result c.if-days-gt-MAX_DAYS.false c.from.ensures c.days.ensures in
    let number = c.in-Ok.ensures.value ∙ date_add-days date.result (pos c.args.days) c.days.result span in
    c.from_civil.ensures ∙ reached c.args.days c.args.self.now date.result c.in-Ok.later date.ensures.valid date.ensures.value
    number

-- If jiff refuses, the later day is outside its calendar, so `OutOfRange` is right.
pub returns-in-Err-clause-value : goal.returns-in-Err-clause-value
returns-in-Err-clause-value c =
    let date = c.to_civil-date in
    let span = span_of_days c.args.days c.from.result c.days.result c.if-days-gt-MAX_DAYS.false c.from.ensures c.days.ensures in
    let can = can_add-days date.result (pos c.args.days) c.days.result span in
    refused_beyond c.args.days c.args.self.now date.result date.ensures.valid date.ensures.value
    (λ day. let none : false ≡ true = c.in-Err.ensures.succeeds.1 (can.1 day) in cc)
