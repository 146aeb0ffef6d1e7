-- Proves that the loans that were asked in a span are few.
use Rattle.std.proofs.Common.{◌≡◌, ℕ, ◌≤◌, List, length, map, Bor, subst, sym, ◌∙◌, arith}
use Rattle.std.proofs.lemmas.List.{length-map}
use Rattle.std.proofs.lemmas.List.Sums.{count_by-le-length, length-filter}
use Rattle.ill_record.specs.declared.side.Side.{Side}
use Rattle.ill_values.specs.declared.apdu.Apdu.{Apdu}
use Rattle.ill_figures.specs.Days.{is_in}
use Rattle.ill_figures.specs.Figures.{asked_in, loans_of}
use Rattle.ill_figures.specs.LoanFigures.{Mentioned, loan_of}
use Rattle.ill_figures.specs.declared.days.Span.{Span}
use Rattle.ill_figures.specs.declared.loan_figures.Loan.{Loan}

-- If `loans` are at most 1,000, those of them that were asked in `span` are at most 1,000.
pub few_asked : (span : Span) (loans : List Loan) → length loans ≤ 1000 → length (asked_in span loans) ≤ 1000
few_asked span loans few =
    omega (
      arith,
      few,
      length-filter (λ (loan : Loan). is_in span loan.asked) loans,
      count_by-le-length (λ (loan : Loan). is_in span loan.asked) loans,
    )

-- If `sides` are at most 1,000, the figures of their loans are at most 1,000.
pub few_loans : (mentions : List Mentioned) (came : List Apdu) (sides : List Side) (loans : List Loan)
    → loans ≡ loans_of mentions came sides → length sides ≤ 1000 → length loans ≤ 1000
few_loans mentions came sides loans is few =
    subst (λ (all : List Loan). length all ≤ 1000) (sym is) (omega (arith, few, length-map sides (loan_of mentions came)))
