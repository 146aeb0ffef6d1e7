-- Proves that the kind of work with a side is none of the wrong answers of `MisjudgesWork`.
use Rattle.std.proofs.Common.{refl, rules, arith, ◌≡◌, ℕ, false}
use Rattle.std.proofs.lemmas.Bool.Decides.{nat_tests}
use Rattle.ill_values.specs.Day.{Date}
use Rattle.ill_core.specs.Dates.{is_before}
use Rattle.ill_record.specs.declared.side.Side.{Side}
use Rattle.ill_work.specs.declared.work.Work.{Work}
use Rattle.ill_work.specs.BadWork.{MisjudgesWork, disturbs_reader, misses_due, takes_today_for_past, keeps_overdue}
use Rattle.ill_work.specs.BadWork.{keeps_recalled, returns_unreceived, forgets_parcel, forgets_conditions, declines_again}
use Rattle.ill_work.specs.BadWork.{hurries, misses_expiry, forgets_request, forgets_cancel, forgets_renewal, forgets_return}
use Rattle.ill_work.specs.BadWork.{notifies_early, misses_overdue, notifies_twice, expires_early, loses_sight, reopens, closes}
use Rattle.ill_work.specs.Table.{kind_of_work}

-- No day is before itself.
not_before_itself : (d : Date) → is_before d d ≡ false
not_before_itself d = grind (arith, nat_tests)

-- A wrong answer is not the kind of work with the side. In each case the table gives another kind.
is_no_kind : (today : Date) (ahead : ℕ) (side : Side) (work : Work) → MisjudgesWork today ahead side work
    → work ≡ kind_of_work today ahead side → ⊥
is_no_kind today ahead _ _ (disturbs_reader x work due last at is_due not_past calendar is_later is) e = search rules
is_no_kind today ahead _ _ (misses_due x due at is_due calendar) e = search (rules, not_before_itself)
is_no_kind today ahead _ _ (takes_today_for_past x at is_due) e = search (rules, not_before_itself)
is_no_kind today ahead _ _ (keeps_overdue x work due at is_due past is) e = search rules
is_no_kind today ahead _ _ (keeps_recalled x work at here is) e = search rules
is_no_kind today ahead _ _ (returns_unreceived x work at never is) e = search rules
is_no_kind today ahead _ _ (forgets_parcel x work at is) e = search rules
is_no_kind today ahead _ _ (forgets_conditions x work at undeclined is) e = search rules
is_no_kind today ahead _ _ (declines_again x work at declined is) e = search rules
is_no_kind today ahead _ _ (hurries x work at none is) e = search rules
is_no_kind today ahead _ _ (misses_expiry x work expiry at is_expiry past is) e = search rules
is_no_kind today ahead _ _ (forgets_request y work at is) e = search rules
is_no_kind today ahead _ _ (forgets_cancel y work at is) e = search rules
is_no_kind today ahead _ _ (forgets_renewal y work at is) e = search rules
is_no_kind today ahead _ _ (forgets_return y work at is) e = search rules
is_no_kind today ahead _ _ (notifies_early y work due at is_due not_past is) e = search rules
is_no_kind today ahead _ _ (misses_overdue y work due at is_due past is) e = search rules
is_no_kind today ahead _ _ (notifies_twice y at) e = search rules
is_no_kind today ahead _ _ (expires_early y is_expiry) e = search (rules, not_before_itself)
is_no_kind today ahead _ _ (loses_sight y marked) e = search rules
is_no_kind today ahead side work (reopens _ _ over is) e = search rules
is_no_kind today ahead side _ (closes _ still_open) e = search rules

-- The kind of work with a side is no wrong answer.
pub not_misjudged : (today : Date) (ahead : ℕ) (side : Side) → MisjudgesWork today ahead side (kind_of_work today ahead side) → ⊥
not_misjudged today ahead side misjudges = is_no_kind today ahead side (kind_of_work today ahead side) misjudges refl
