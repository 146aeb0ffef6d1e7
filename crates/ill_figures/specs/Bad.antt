-- Wrong counts of loans, after one more loan was asked.
use Rattle.std.specs.Prelude.{◌≡◌, ℕ, suc, true, List}
use Rattle.std.specs.List.{sum_by}
use Rattle.ill_figures.specs.declared.count.Count.{Count}
use Rattle.ill_figures.specs.declared.count.Count.TheVariants.{Asked, Refused}
use Rattle.ill_figures.specs.declared.loan_figures.End.TheVariants.{Filled}
use Rattle.ill_figures.specs.declared.loan_figures.Loan.{Loan}
use Rattle.ill_figures.specs.Figures.{counted, is_refused, outcomes, reasons}

-- `number` has wrong counts, after `loan` was asked beside the loans `asked`.
pub data CountsBadly (asked : List Loan) (loan : Loan) (number : Count → ℕ) : Type 0
  where
    -- The loan is not counted.
    left_out : number Asked ≡ counted asked Asked → CountsBadly asked loan number
    -- The loan was filled. But it is counted as refused.
    filled_and_refused : loan.end ≡ Filled → number Refused ≡ suc (counted asked Refused) → CountsBadly asked loan number
    -- No outcome counts the loan.
    no_outcome : sum_by number outcomes ≡ sum_by (counted asked) outcomes → CountsBadly asked loan number
    -- The loan was refused. But no reason counts it.
    no_reason : is_refused loan.end ≡ true → sum_by number reasons ≡ sum_by (counted asked) reasons →
        CountsBadly asked loan number
