-- Proves that the lines at the places of a key give the days of all lines that name its message.
use Rattle.std.proofs.Common.{◌≡◌, ℕ, Bool, false, if◌then◌else◌, List, [], ◌∷◌, ◌++◌, fold, map, Vec, Global}
use Rattle.std.proofs.Common.{Option, Some, None, option_map, append_assoc, append-nil, refl, sym, ap, ◌∙◌}
use Rattle.ill_values.specs.Day.{Date}
use Rattle.ill_beside.specs.Diary.{Said, said_by}
use Rattle.ill_beside.specs.KeyedDiary.{day_if, days_named, key_said, looks_days, with_day}
use Rattle.ill_beside.specs.Places.{ArePlaces, ByKey, has_key, looked_up, places_of}
use Rattle.ill_beside.proofs.PlacesLemmas.{kept_enough, uncounted}

-- If what a line `says` names no message with this `key`, the line gives no day.
no_day : (key : List ℕ) (says : Option Said) → has_key key (option_map (λ s. s.message) says) ≡ false → day_if key says ≡ []
no_day key None other = refl
no_day key (Some says) other = ap (λ (same : Bool). if same then says.day ∷ [] else []) other

-- If `line` names no message with this `key`, `days` stay as they are.
of_another : (key : List ℕ) (days : List Date) (place : ℕ) (line : Vec ℕ Global) → has_key key (key_said line) ≡ false
    → looks_days key days place (Some line) ≡ days
of_another key days place line other =
    ap (λ (more : List Date). days ++ more) (no_day key (said_by line.items) other) ∙ append-nil days

-- A walk over `lines` appends to `days` the days of those that name the message with this `key`.
days_from : (key : List ℕ) (days : List Date) (lines : List (Vec ℕ Global))
    → fold (λ found line. with_day key found (Some line)) days lines ≡ days ++ days_named key (map (λ line. line.items) lines)
days_from key days [] = sym (append-nil days)
days_from key days (line ∷ lines) =
    days_from key (days ++ day_if key (said_by line.items)) lines
    ∙ append_assoc days (day_if key (said_by line.items)) (days_named key (map (λ line. line.items) lines))

-- Let `by_key` have the places of `lines`. The lines at the places of `key` give the days of all lines that name its
-- message.
pub days_kept : (by_key : ByKey) (lines : List (Vec ℕ Global)) → ArePlaces key_said by_key lines → (key : Vec ℕ Global)
    → looked_up (looks_days key.items) lines [] (places_of by_key key) ≡ days_named key.items (map (λ line. line.items) lines)
days_kept by_key lines are key =
    kept_enough key_said by_key lines are key (looks_days key.items) (of_another key.items) []
    ∙ uncounted (with_day key.items) 0 [] lines
    ∙ days_from key.items [] lines
