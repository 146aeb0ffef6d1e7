-- Proves that the numbers of loans of all kinds of work add up to the number of loans.
use Rattle.std.proofs.Common.{rules, arith, ◌≡◌, ℕ, ◌+◌, cond, List, [], ◌∷◌, length, refl, ap, ◌∙◌}
use Rattle.std.specs.Prelude.{sum_by}
use Rattle.std.proofs.lemmas.List.Sums.{sum_by-cons}
use Rattle.ill_values.specs.Day.{Date}
use Rattle.ill_record.specs.declared.side.Side.{Side}
use Rattle.ill_work.specs.declared.work.Work.{Work}
use Rattle.ill_work.specs.Work.{all_work, is_work_among}
use Rattle.ill_work.specs.Table.{kind_of_work}
use Rattle.ill_work.specs.Order.{has_work, count_of}

-- The sum of `f x + g x` over a list is the sum of `f` plus the sum of `g`.
sum_of_both : {X : Type 0} (f g : X → ℕ) (xs : List X) → sum_by (λ x. f x + g x) xs ≡ sum_by f xs + sum_by g xs
sum_of_both f g [] = refl
sum_of_both f g (x ∷ xs) =
    omega (arith, sum_by-cons (λ x. f x + g x) x xs, sum_by-cons f x xs, sum_by-cons g x xs, sum_of_both f g xs)

-- If `f` and `g` are equal at each element, their sums over a list are equal.
sum_alike : {X : Type 0} (f g : X → ℕ) → ((x : X) → f x ≡ g x) → (xs : List X) → sum_by f xs ≡ sum_by g xs
sum_alike f g same xs = ap (λ (h : _ → ℕ). sum_by h xs) (λ i x. same x i)

-- Each work is exactly one of the kinds in `all_work`.
once : (work : Work) → sum_by (λ kind. cond (is_work_among (kind ∷ []) work) 1 0) all_work ≡ 1
once work = search rules

-- The sum of 0 over a list is 0. So without loans the numbers of all kinds of work add up to 0.
none : (works : List Work) → sum_by (λ (work : Work). 0) works ≡ 0
none [] = refl
none (work ∷ works) = omega (arith, sum_by-cons (λ (w : Work). 0) work works, none works)

-- The numbers of loans of all kinds of work on a day add up to the number of loans.
pub counts_add_up : (today : Date) (ahead : ℕ) (sides : List Side)
    → sum_by (λ work. count_of today ahead work sides) all_work ≡ length sides
counts_add_up today ahead [] = none all_work
counts_add_up today ahead (side ∷ sides) =
    let here : Work → ℕ = λ work. cond (has_work today ahead work side) 1 0 in
    let others : Work → ℕ = λ work. count_of today ahead work sides in
    sum_alike (λ work. count_of today ahead work (side ∷ sides)) (λ work. here work + others work)
    (λ work. sum_by-cons (λ (s : Side). cond (has_work today ahead work s) 1 0) side sides) all_work
    ∙ omega (arith, sum_of_both here others all_work, once (kind_of_work today ahead side), counts_add_up today ahead sides)
