-- Lemmas on a message file none of whose paths is touched: it stays at its place, and no crash loses it.
use Rattle.std.proofs.Common.{◌≡◌, sym, ◌∙◌, ap, ℕ, List, Option}
use Rattle.ill_disk.specs.Disk.{Name, Disk, found_at}
use Rattle.ill_disk.specs.Calls.{DiskState}
use Rattle.ill_disk.proofs.Moments.{holds_too}
use Rattle.ill_message_disk.specs.Touches.{IsNoneOf, DiffersAt, TouchesOnly, Touches}
use Rattle.ill_message_disk.specs.MessageFileCalls.{is_file}
use Rattle.ill_message_disk.specs.Spots.{SpotOf, place_by, place_in, Outlasts, Survives}

-- If what is found at each of the three paths of a message file stays, the place that `place_by` gives stays.
pub place_at : (spot : SpotOf) (quarantined quarantined' waiting waiting' claimed claimed' : Option ℕ)
    → quarantined' ≡ quarantined →
    waiting' ≡ waiting → claimed' ≡ claimed →
    place_by (is_file spot.file quarantined') (is_file spot.file waiting') (is_file spot.file claimed')
    ≡ place_by (is_file spot.file quarantined) (is_file spot.file waiting) (is_file spot.file claimed)
place_at spot quarantined quarantined' waiting waiting' claimed claimed' one two three =
    ap (λ (o : Option ℕ). place_by (is_file spot.file o) (is_file spot.file waiting') (is_file spot.file claimed')) one
    ∙ ap (λ (o : Option ℕ). place_by (is_file spot.file quarantined) (is_file spot.file o) (is_file spot.file claimed')) two
    ∙ ap (λ (o : Option ℕ). place_by (is_file spot.file quarantined) (is_file spot.file waiting) (is_file spot.file o)) three

-- No path of the message file is one of `paths`.
pub record IsSpared (paths : List (List ℕ)) (spot : SpotOf) : Type 0 where
  pub claimed : IsNoneOf paths spot.claimed
  pub waiting : IsNoneOf paths spot.waiting
  pub quarantined : IsNoneOf paths spot.quarantined

-- A message file stays at its place if no path of it is touched.
pub place_stays : (paths : List (List ℕ)) (spot : SpotOf) (old new : List Name) → IsSpared paths spot →
    DiffersAt paths old new → place_in new spot ≡ place_in old spot
place_stays paths spot old new spared differs =
    place_at spot (found_at spot.quarantined old) (found_at spot.quarantined new) (found_at spot.waiting old)
    (found_at spot.waiting new)
    (found_at spot.claimed old) (found_at spot.claimed new) (differs spot.quarantined spared.quarantined)
    (differs spot.waiting spared.waiting) (differs spot.claimed spared.claimed)

-- If each crash of `old` leaves the message file, and only `paths`, which spare it, are touched, each crash of `new`
-- leaves it.
pub outlasts_touch : (paths : List (List ℕ)) (spot : SpotOf) (old new : Disk) → IsSpared paths spot →
    TouchesOnly paths old new → Outlasts spot old → Outlasts spot new
outlasts_touch paths spot old new spared touches outlasts names stands gone =
    let from = touches.left names stands in
    outlasts from.0 from.1 (sym (place_stays paths spot from.0 names spared from.2) ∙ gone)

-- A message file survives calls that touch only `paths`, if these spare it.
pub survives_touch : (paths : List (List ℕ)) (spot : SpotOf) (old new : DiskState) → IsSpared paths spot →
    Touches paths old new → Survives spot old new
survives_touch paths spot old new spared touches h outlasts =
    holds_too (λ d touched. outlasts_touch paths spot old.now d spared touched outlasts) (touches.moments h)
