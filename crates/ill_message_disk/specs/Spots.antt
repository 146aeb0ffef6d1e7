-- A message file that a run has claimed: its paths, its file, and where that file is.
use Rattle.std.specs.Prelude.{◌≡◌, ◌⊎◌, ℕ, Bool, true, not, ◌&&◌, if◌then◌else◌, List, [], ◌∷◌, bytes_eq, Some, Result, Ok, Err}
use Rattle.std.specs.Prelude.{OnOk}
use Rattle.ill_disk.specs.Disk.{In, Name, Disk, found_at}
use Rattle.ill_disk.specs.Calls.{DiskState, Throughout}
use Rattle.ill_message_disk.specs.MessageFileCalls.{is_file}
use Rattle.ill_message_disk.specs.Touches.{Touches}

-- A message file has a path among the claimed message files, one in the folder from which it was claimed (`waiting`),
-- and one in quarantine. The path of the reason is beside the one in quarantine. `file` is the number of the file that
-- was claimed.
pub record SpotOf : Type 0 where
  pub claimed : List ℕ
  pub waiting : List ℕ
  pub quarantined : List ℕ
  pub reason : List ℕ
  pub file : ℕ

-- Returns the three paths at which the file of a message file may stand.
abbrev pub paths_of : SpotOf → List (List ℕ)
paths_of spot = spot.claimed ∷ spot.waiting ∷ spot.quarantined ∷ []

-- Returns true if `path` is none of these paths.
abbrev pub is_none_of : List (List ℕ) → List ℕ → Bool
is_none_of [] path = true
is_none_of (other ∷ paths) path = not (bytes_eq other path) && is_none_of paths path

-- Returns true if the four paths of a message file differ.
abbrev pub are_apart : SpotOf → Bool
are_apart spot = is_none_of (spot.waiting ∷ spot.quarantined ∷ spot.reason ∷ []) spot.claimed
    && is_none_of (spot.quarantined ∷ spot.reason ∷ []) spot.waiting && is_none_of (spot.reason ∷ []) spot.quarantined

-- The place of a message file: in the folder from which it was claimed, among the claimed message files, in quarantine,
-- or at none of its paths.
pub data Place : Type 0 where
  Waiting : Place
  Claimed : Place
  Quarantined : Place
  Gone : Place

-- Returns the place of a message file. `quarantined`, `waiting` and `claimed` are true if its file stands at that path.
-- If several are true, `quarantined` counts first, and then `waiting`.
abbrev pub place_by : Bool → Bool → Bool → Place
place_by quarantined waiting claimed = if quarantined then Quarantined else if waiting then Waiting else if claimed then
    Claimed else Gone

-- Returns the place of a message file: where its file has a name. It is gone if its file has none of the three.
abbrev pub place_in : List Name → SpotOf → Place
place_in names spot = place_by (is_file spot.file (found_at spot.quarantined names))
    (is_file spot.file (found_at spot.waiting names)) (is_file spot.file (found_at spot.claimed names))

-- Each crash leaves the file of the message file at one of its paths.
abbrev pub Outlasts : SpotOf → Disk → Type 0
Outlasts spot d = (names : List Name) → In d.may_stand names → place_in names spot ≡ Gone → ⊥

-- The message file is gone, or each crash leaves it at one of its paths.
abbrev pub IsKept : SpotOf → Disk → Type 0
IsKept spot d = (place_in d.names spot ≡ Gone) ⊎ Outlasts spot d

-- On a correct disk a message file that is kept at first is kept in the end.
abbrev pub StaysKept : SpotOf → DiskState → DiskState → Type 0
StaysKept spot old new = old.is_correct ≡ true → IsKept spot old.now → IsKept spot new.now

-- If each crash leaves the message file at first, each crash leaves it at each moment up to the state `new`.
abbrev pub Survives : SpotOf → DiskState → DiskState → Type 0
Survives spot old new = old.is_correct ≡ true → Outlasts spot old.now → Throughout (Outlasts spot) old new

-- ---- moves

-- Returns the place of a message file after it was to be moved to the place `to`. Only a claimed message file moves.
abbrev pub moved : Place → Place → Place
moved to Claimed = to
moved to other = other

-- A message file stays at its place `before`, or moves to `to`.
abbrev pub MayCome : Place → Place → Place → Type 0
MayCome to before after = (after ≡ before) ⊎ (after ≡ moved to before)

-- A call moves a message file to the place `to`. If it failed, the message file moves there or stays.
abbrev pub Comes : {A E : Type 0} → Place → Place → Result A E → Place → Type 0
Comes to before (Ok done) after = after ≡ moved to before
Comes to before (Err fault) after = MayCome to before after

-- On a correct disk a message file stays at its place while these paths are touched, and so does what stands at its
-- name in the folder. No crash loses it.
pub record StaysThere (paths : List (List ℕ)) (spot : SpotOf) (old new : DiskState) : Type 0 where
  pub touches : Touches paths old new
  pub waiting : old.is_correct ≡ true → found_at spot.waiting new.now.names ≡ found_at spot.waiting old.now.names
  pub place : old.is_correct ≡ true → place_in new.now.names spot ≡ place_in old.now.names spot
  pub survives : Survives spot old new

-- A call removes a claimed message file on a correct disk. If it failed, the message file is gone or stays. A message
-- file that was kept at first is kept in the end: it is gone, or each crash leaves it.
pub record RemovesMessageFile {A E : Type 0} (spot : SpotOf) (old : DiskState) (answer : Result A E) (new : DiskState) : Type 0
  where
    pub touches : Touches (spot.claimed ∷ []) old new
    pub comes : old.is_correct ≡ true → Comes Gone (place_in old.now.names spot) answer (place_in new.now.names spot)
    pub kept : StaysKept spot old new

-- Returns the paths that are touched when a message file is quarantined.
abbrev pub quarantined_paths : SpotOf → List (List ℕ)
quarantined_paths spot = spot.reason ∷ spot.claimed ∷ spot.quarantined ∷ []

-- A call quarantines a claimed message file on a correct disk. If it failed, the message file stands in quarantine or
-- stays. No crash during the call loses the message file.
pub record QuarantinesMessageFile {A E : Type 0} (spot : SpotOf) (old : DiskState) (answer : Result A E) (new : DiskState) : Type
    0
  where
    pub touches : Touches (quarantined_paths spot) old new
    pub comes : old.is_correct ≡ true → Comes Quarantined (place_in old.now.names spot) answer (place_in new.now.names spot)
    pub survives : Survives spot old new

-- On a correct disk a claimed message file was given back, or it stays. No crash loses it. What stands at its name in
-- the folder stays there.
pub record GivesMessageFileBack (spot : SpotOf) (old new : DiskState) : Type 0 where
  pub touches : Touches (spot.claimed ∷ spot.waiting ∷ []) old new
  pub stays : old.is_correct ≡ true → (file : ℕ) → found_at spot.waiting old.now.names ≡ Some file →
      found_at spot.waiting new.now.names ≡ Some file
  pub comes : old.is_correct ≡ true → MayCome Waiting (place_in old.now.names spot) (place_in new.now.names spot)
  pub survives : Survives spot old new

-- The claimed name of a message file was flushed. If that is done, each crash leaves the message file.
pub record FlushesClaim {A E : Type 0} (spot : SpotOf) (old : DiskState) (answer : Result A E) (new : DiskState) : Type 0
  where
    pub touches : Touches (spot.claimed ∷ []) old new
    pub lasts : OnOk answer (new.is_correct ≡ true → Outlasts spot new.now)

-- On a correct disk the file of the message file stands at a path.
abbrev pub HasFileAt : List ℕ → SpotOf → DiskState → Type 0
HasFileAt path spot state = state.is_correct ≡ true → found_at path state.now.names ≡ Some spot.file
