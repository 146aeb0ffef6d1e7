-- The figures of a desk over a span of days: what the loans that were asked in the span came to, and how long they
-- took.
use Rattle.std.specs.Prelude.{ℕ, zero, suc, ◌+◌, ◌*◌, ◌/◌, Bool, true, false, List, [], ◌∷◌, map, filter, Option, None, Some}
use Rattle.std.specs.Prelude.{is_none}
use Rattle.std.specs.Prelude.{is_some}
use Rattle.std.specs.List.{count_by, sum_by}
use Rattle.ill_values.specs.declared.apdu.Apdu.{Apdu}
use Rattle.ill_record.specs.declared.side.Side.{Side}
use Rattle.ill_figures.specs.declared.count.Count.{Count}
use Rattle.ill_figures.specs.declared.count.Count.TheVariants as counts
use Rattle.ill_figures.specs.declared.days.Span.{Span}
use Rattle.ill_figures.specs.declared.count.Gathered.{Gathered}
use Rattle.ill_figures.specs.declared.loan_figures.End.{End}
use Rattle.ill_figures.specs.declared.loan_figures.End.TheVariants as ends
use Rattle.ill_figures.specs.declared.loan_figures.Loan.{Loan}
use Rattle.ill_figures.specs.declared.means.Wait.{Wait}
use Rattle.ill_figures.specs.declared.means.Wait.TheVariants as waits
use Rattle.ill_figures.specs.Days.{is_in}
use Rattle.ill_figures.specs.LoanFigures.{Mentioned, loan_of, mentions_in}

-- ---- the loans

-- Returns the figures of each loan of `sides`, by the mentions in the diary and by the messages `came`.
abbrev pub loans_of : List Mentioned → (came : List Apdu) → List Side → List Loan
loans_of mentions came sides = map (loan_of mentions came) sides

-- Returns the loans that were asked in the span.
abbrev pub asked_in : Span → List Loan → List Loan
asked_in span loans = filter (λ loan. is_in span loan.asked) loans

-- Returns the number of loans of which no line of the diary says when they were asked. They are in no span.
abbrev pub undated : List Loan → ℕ
undated loans = count_by (λ loan. is_none loan.asked) loans

-- ---- the counts

-- Returns true if the loan was refused, for any reason.
abbrev pub is_refused : End → Bool
is_refused ends.Filled = false
is_refused ends.Open = false
is_refused ends.Cancelled = false
is_refused reason = true

-- Returns true if the count is of the loans that were refused for any reason, and a loan with this end is one of them.
abbrev pub is_all_refused : Count → End → Bool
is_all_refused counts.Refused end = is_refused end
is_all_refused count end = false

-- Returns true if the count is of loans with this end.
abbrev pub is_of : Count → End → Bool
is_of counts.Asked end = true
is_of counts.Filled ends.Filled = true
is_of counts.Open ends.Open = true
is_of counts.Cancelled ends.Cancelled = true
is_of counts.Unfilled ends.Unfilled = true
is_of counts.Retry ends.Retry = true
is_of counts.Estimate ends.Estimate = true
is_of counts.LocationsProvided ends.LocationsProvided = true
is_of counts.Expired ends.Expired = true
is_of counts.Unknown ends.Unknown = true
is_of count end = is_all_refused count end

-- The outcomes: each loan that was asked is in exactly one of these counts.
abbrev pub outcomes : List Count
outcomes = counts.Filled ∷ counts.Open ∷ counts.Cancelled ∷ counts.Refused ∷ []

-- The reasons: each loan that was refused is in exactly one of these counts, and no other loan is in any.
abbrev pub reasons : List Count
reasons =
    counts.Unfilled ∷ counts.Retry ∷ counts.Estimate ∷ counts.LocationsProvided ∷ counts.Expired ∷ counts.Unknown ∷ []

-- Returns the number of those loans of `asked` that `count` counts.
abbrev pub counted : (asked : List Loan) → Count → ℕ
counted asked count = count_by (λ loan. is_of count loan.end) asked

-- ---- the means

-- Returns the days of a wait in a loan, if they are known.
abbrev pub wait_of : Wait → Loan → Option ℕ
wait_of waits.Answer loan = loan.answer
wait_of waits.Arrive loan = loan.arrive
wait_of waits.Out loan = loan.out

-- Returns the number of loans whose days of a wait are known.
abbrev pub waited : (asked : List Loan) → Wait → ℕ
waited asked wait = count_by (λ loan. is_some (wait_of wait loan)) asked

-- Returns the number of days, or 0 if it is not known.
abbrev pub or_zero : Option ℕ → ℕ
or_zero None = 0
or_zero (Some days) = days

-- Returns the sum of the days of a wait that are known.
abbrev pub days_waited : (asked : List Loan) → Wait → ℕ
days_waited asked wait = sum_by (λ loan. or_zero (wait_of wait loan)) asked

-- Returns the mean of the sum `days` over `of` loans, in tenths of a day. A half is rounded up. Without a loan there
-- is none.
abbrev pub tenths : (days of : ℕ) → Option ℕ
tenths days zero = None
tenths days (suc n) = Some ((20 * days + suc n) / (2 * suc n))

-- Returns the mean of the known days of a wait, in tenths of a day. If no loan has any, there is none.
abbrev pub mean : (asked : List Loan) → Wait → Option ℕ
mean asked wait = tenths (days_waited asked wait) (waited asked wait)

-- ---- the figures of a desk

-- The figures of a desk: the loans that were asked in the span, and the number of those without a day of asking.
pub record Figures : Type 0 where
  pub asked : List Loan
  pub undated : ℕ

-- Returns the figures that were gathered.
abbrev pub gathered : Gathered → Figures
gathered figures = record { asked = figures.asked.items; undated = figures.undated }

-- Returns the figures of `sides`, by the lines of the diary and by the messages that came.
abbrev pub figures_of : Span → (lines : List (List ℕ)) → List Side → (came : List Apdu) → Figures
figures_of span lines sides came =
    let loans = loans_of (mentions_in lines) came sides in
    record { asked = asked_in span loans; undated = undated loans }
