-- Proves that each loan that was asked is counted once, and that a mean is right to half a tenth.
use Rattle.std.proofs.Common.{◌≡◌, ℕ, zero, suc, ◌+◌, ◌*◌, ◌/◌, ◌<◌, ◌≤◌, Bool, true, List, [], ◌∷◌, length}
use Rattle.std.proofs.Common.{Some, None, refl, sym, ap, arith}
use Rattle.std.specs.Prelude.{cond}
use Rattle.std.specs.List.{sum_by}
use Rattle.std.proofs.lemmas.List.Sums.{sum_by-cons}
use Rattle.std.proofs.lemmas.Option.{same_Some}
use Rattle.std.proofs.Math.Nat.{mod-add-div, mod-lt}
use Rattle.ill_figures.specs.Bad.{CountsBadly}
use Rattle.ill_figures.specs.Figures.{counted, is_of, is_refused, mean, outcomes, reasons, tenths}
use Rattle.ill_figures.specs.declared.count.Count.{Count}
use Rattle.ill_figures.specs.declared.count.Count.TheVariants as counts
use Rattle.ill_figures.specs.declared.loan_figures.End.{End}
use Rattle.ill_figures.specs.declared.loan_figures.End.TheVariants as ends
use Rattle.ill_figures.specs.declared.loan_figures.Loan.{Loan}
use Rattle.ill_figures.specs.declared.means.Wait.{Wait}

-- ---- counts

-- Returns 1 if the count is of loans with this end, and 0 else.
abbrev one_of : End → Count → ℕ
one_of end count = cond (is_of count end) 1 0

-- With one `loan` more, a count is higher by one if it is of loans with the end of `loan`.
one_more : (asked : List Loan) (loan : Loan) (count : Count)
    → counted (loan ∷ asked) count ≡ one_of loan.end count + counted asked count
one_more asked loan count = sum_by-cons (λ (loan : Loan). one_of loan.end count) loan asked

-- All loans that were asked are counted.
pub all_counted : (asked : List Loan) → counted asked counts.Asked ≡ length asked
all_counted [] = refl
all_counted (loan ∷ asked) = omega (arith, one_more asked loan counts.Asked, all_counted asked)

-- If `first` and `second` are equal for each count, their sums over `parts` are equal.
same_summed : (first second : Count → ℕ) → ((part : Count) → first part ≡ second part) → (parts : List Count)
    → sum_by first parts ≡ sum_by second parts
same_summed first second same [] = refl
same_summed first second same (part ∷ parts) =
    omega (arith, sum_by-cons first part parts, sum_by-cons second part parts, same part, same_summed first second same parts)

-- The sum of `first part + second part` over `parts` is the sum of `first` plus the sum of `second`.
both_summed : (first second : Count → ℕ) (parts : List Count)
    → sum_by (λ part. first part + second part) parts ≡ sum_by first parts + sum_by second parts
both_summed first second [] = refl
both_summed first second (part ∷ parts) =
    omega (
      arith,
      sum_by-cons (λ part. first part + second part) part parts,
      sum_by-cons first part parts,
      sum_by-cons second part parts,
      both_summed first second parts,
    )

-- The counts of an empty list of loans add up to 0.
none_summed : (parts : List Count) → sum_by (counted []) parts ≡ 0
none_summed [] = refl
none_summed (part ∷ parts) = omega (arith, sum_by-cons (counted []) part parts, none_summed parts)

-- If `parts` count each end as often as `whole` does, their counts of `asked` add up to the count of `whole`.
parts_summed : (whole : Count) (parts : List Count)
    → ((end : End) → sum_by (one_of end) parts ≡ one_of end whole)
    → (asked : List Loan) → sum_by (counted asked) parts ≡ counted asked whole
parts_summed whole parts each [] = none_summed parts
parts_summed whole parts each (loan ∷ asked) =
    omega (
      arith,
      same_summed (counted (loan ∷ asked)) (λ part. one_of loan.end part + counted asked part) (one_more asked loan) parts,
      both_summed (one_of loan.end) (counted asked) parts,
      one_more asked loan whole,
      each loan.end,
      parts_summed whole parts each asked,
    )

-- Each end is counted in exactly one of `outcomes`.
end_is_outcome : (end : End) → sum_by (one_of end) outcomes ≡ one_of end counts.Asked
end_is_outcome ends.Filled = refl
end_is_outcome ends.Open = refl
end_is_outcome ends.Cancelled = refl
end_is_outcome ends.Unfilled = refl
end_is_outcome ends.Retry = refl
end_is_outcome ends.Estimate = refl
end_is_outcome ends.LocationsProvided = refl
end_is_outcome ends.Expired = refl
end_is_outcome ends.Unknown = refl

-- Each refusal is counted in exactly one of `reasons`, and any other end in none.
end_has_reason : (end : End) → sum_by (one_of end) reasons ≡ one_of end counts.Refused
end_has_reason ends.Filled = refl
end_has_reason ends.Open = refl
end_has_reason ends.Cancelled = refl
end_has_reason ends.Unfilled = refl
end_has_reason ends.Retry = refl
end_has_reason ends.Estimate = refl
end_has_reason ends.LocationsProvided = refl
end_has_reason ends.Expired = refl
end_has_reason ends.Unknown = refl

-- Each loan has one outcome.
pub one_outcome : (asked : List Loan) → sum_by (counted asked) outcomes ≡ counted asked counts.Asked
one_outcome = parts_summed counts.Asked outcomes end_is_outcome

-- Each loan that was refused has one reason.
pub one_reason : (asked : List Loan) → sum_by (counted asked) reasons ≡ counted asked counts.Refused
one_reason = parts_summed counts.Refused reasons end_has_reason

-- A loan that was refused is counted as refused.
refused_counts : (end : End) → is_refused end ≡ true → one_of end counts.Refused ≡ 1
refused_counts end is = ap (λ (b : Bool). cond b 1 0) is

-- A loan that was filled is not counted as refused.
filled_not_refused : (end : End) → end ≡ ends.Filled → one_of end counts.Refused ≡ 0
filled_not_refused end is = ap (λ (e : End). one_of e counts.Refused) is

-- The counts with one more loan are none of the wrong ones.
pub not_bad : (asked : List Loan) (loan : Loan) → CountsBadly asked loan (counted (loan ∷ asked)) → ⊥
not_bad asked loan (CountsBadly.left_out is) = omega (arith, one_more asked loan counts.Asked, is)
not_bad asked loan (CountsBadly.filled_and_refused filled is) =
    omega (arith, one_more asked loan counts.Refused, filled_not_refused loan.end filled, is)
not_bad asked loan (CountsBadly.no_outcome is) =
    omega (arith, one_more asked loan counts.Asked, one_outcome asked, one_outcome (loan ∷ asked), is)
not_bad asked loan (CountsBadly.no_reason refused is) =
    omega (
      arith,
      one_more asked loan counts.Refused,
      one_reason asked,
      one_reason (loan ∷ asked),
      refused_counts loan.end refused,
      is,
    )

-- ---- an empty span

-- Without a loan each count is 0.
pub no_count : (count : Count) → counted [] count ≡ 0
no_count count = refl

-- Without a loan there is no mean.
pub no_mean : (wait : Wait) → mean [] wait ≡ None
no_mean wait = refl

-- ---- means

-- Let `quotient` be `n` divided by `2 * suc of`. Then `n` is at least `quotient` times this divisor, and below the
-- next multiple.
near_half : (n of quotient : ℕ) → quotient ≡ n / (2 * suc of)
    → (2 * (suc of * quotient) ≤ n) × (n < 2 * (suc of * quotient) + 2 * suc of)
near_half n of quotient is =
    let whole = mod-add-div n (2 * suc of) in
    let small = mod-lt n {m = 2 * suc of} (omega arith) in
    rw is (omega (arith, whole, small))

-- If `mean` is the mean of `days` over `of` loans in tenths, it is right to half a tenth.
pub mean_is_near : (days of mean : ℕ) → tenths days of ≡ Some mean
    → (2 * (of * mean) ≤ 20 * days + of) × (20 * days < 2 * (of * mean) + of)
mean_is_near days zero mean is = cc
mean_is_near days (suc n) mean is =
    let near = near_half (20 * days + suc n) n mean (sym (same_Some _ mean is)) in
    (near.0, omega (arith, near.1))
