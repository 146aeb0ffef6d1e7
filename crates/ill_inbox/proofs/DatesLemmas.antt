-- Proves how the list of the deeds that a day makes due is split at a loan.
use Rattle.std.proofs.Common.{◌≡◌, ℕ, zero, suc, ◌++◌, List, [], ◌∷◌, drop, Option, Some, None, refl}
use Rattle.std.specs.Prelude.{slice_get}
use Rattle.std.specs.Option.{option_to_list}
use Rattle.std.specs.List.{cons_option, filter_map}
use Rattle.ill_values.specs.Day.{Date}
use Rattle.ill_record.specs.declared.side.Side.{Side}
use Rattle.ill_night.specs.declared.night.Dates.{Dates}
use Rattle.ill_inbox.specs.Dates.{all_due, due_at, due_in}

-- `cons_option found more` is the list of the optional item `found`, and then `more`.
one_before : {X : Type 0} (found : Option X) (more : List X) → cons_option found more ≡ option_to_list found ++ more
one_before (Some item) more = refl
one_before None more = refl

-- The deeds from `place` on begin with the deed of the loan at `place`, if it has one. Those of the later loans follow.
pub deeds_split_at : (which : Dates) (today : Date) (sides : List Side) (place : ℕ)
    → all_due which today (drop place sides)
    ≡ option_to_list (due_at which today (slice_get sides place)) ++ all_due which today (drop (suc place) sides)
deeds_split_at which today [] zero = refl
deeds_split_at which today [] (suc place) = refl
deeds_split_at which today (side ∷ sides) zero = one_before (due_in which today side) (filter_map (due_in which today) sides)
deeds_split_at which today (side ∷ sides) (suc place) = deeds_split_at which today sides place
