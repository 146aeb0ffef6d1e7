-- The message files of a run on a disk, and the messages that ask.
use Rattle.std.specs.Prelude.{◌≡◌, ◌⊎◌, ℕ, Bool, true, false, not, ◌&&◌, if◌then◌else◌, List, [], ◌∷◌, ◌++◌, map, bytes_eq}
use Rattle.std.specs.Prelude.{slice_get, Option, Some, None, option_map, Result, Ok, Err, IfOk, zero}
use Rattle.ill_disk.specs.Disk.{Name, Disk, content, found_at}
use Rattle.ill_disk.specs.Calls.{DiskState}
use Rattle.ill_message_disk.specs.Keeping.{KeeperOf}
use Rattle.ill_message_disk.specs.Spots.{SpotOf, Place, Waiting, IsKept, StaysKept, Survives, are_apart, is_none_of, moved}
use Rattle.ill_message_disk.specs.Spots.{paths_of}
use Rattle.ill_message_disk.specs.Spots.{place_in}

-- A run has its disk and its message files. A message file of which it takes no care is `None`. It has the file of the
-- messages that ask, and the folder of the message files that are quarantined.
pub record MessageRunOf (D : Type 0) : Type 0 where
  pub disk : D
  pub spots : List (Option SpotOf)
  pub asked : KeeperOf
  pub folder : List ℕ

-- The state of a run: the place of each message file, and the messages that ask. `is_correct` is true if its disk is
-- correct.
pub record RunState : Type 0 where
  pub places : List Place
  pub asked : List ℕ
  pub is_correct : Bool

-- Returns the place of a message file. One of which the run takes no care waits for the next run.
abbrev pub place_of : List Name → Option SpotOf → Place
place_of names None = Waiting
place_of names (Some spot) = place_in names spot

-- Returns the bytes that were read, or none.
abbrev pub bytes_in : Option (List ℕ) → List ℕ
bytes_in None = []
bytes_in (Some bytes) = bytes

-- Returns the state of a run, by what stands on its disk now.
abbrev pub run_state : {D : Type 0} → (D → DiskState) → MessageRunOf D → RunState
run_state state run = record {
  places = map (place_of (state run.disk).now.names) run.spots;
  asked = bytes_in (content run.asked.path (state run.disk).now);
  is_correct = (state run.disk).is_correct;
}

-- ---- paths that differ

-- Returns true if the path is none of those at which the file of a message file may stand.
abbrev pub misses : List ℕ → SpotOf → Bool
misses path spot = is_none_of (paths_of spot) path

-- Returns true if the file of `other` may stand at no path that `spot` leaves or takes: `reason`, `claimed` and
-- `quarantined`. Both may have come under one name, so `waiting` is not compared.
abbrev pub spares : SpotOf → SpotOf → Bool
spares spot other = misses spot.reason other && misses spot.claimed other && misses spot.quarantined other

-- Returns true if neither of two message files takes a path of the other.
abbrev pub are_spread : SpotOf → SpotOf → Bool
are_spread spot other = spares spot other && spares other spot

-- Returns true if the file of a message file may stand at neither path of the keeper of the messages that ask. Its
-- reason may not be at the keeper's `path`.
abbrev pub keeps_off : KeeperOf → SpotOf → Bool
keeps_off keeper spot =
    misses keeper.path spot && misses keeper.temporary spot && not (bytes_eq spot.reason keeper.path)

-- Returns true if neither a message file nor another one takes a path of the other, if there is another.
abbrev pub is_spread_from : SpotOf → Option SpotOf → Bool
is_spread_from spot None = true
is_spread_from spot (Some other) = are_spread spot other

-- Returns true if a message file takes no path of any of these, and none of these takes a path of it.
abbrev pub is_spread_from_all : SpotOf → List (Option SpotOf) → Bool
is_spread_from_all spot [] = true
is_spread_from_all spot (other ∷ others) = is_spread_from spot other && is_spread_from_all spot others

-- No message file of these takes a path of another.
abbrev pub AreSpread : List (Option SpotOf) → Type 0
AreSpread spots = (number other : ℕ) (spot second : SpotOf) → slice_get spots number ≡ Some (Some spot) →
    slice_get spots other ≡ Some (Some second) → (number ≡ other → ⊥) → are_spread spot second ≡ true

-- No message file of a run takes a path of another, and none takes the file of the messages that ask.
pub record IsSpread (keeper : KeeperOf) (spots : List (Option SpotOf)) : Type 0 where
  pub message_files : AreSpread spots
  pub asked : (number : ℕ) (spot : SpotOf) → slice_get spots number ≡ Some (Some spot) → keeps_off keeper spot ≡ true

-- Returns true if the message file has come under this name.
abbrev pub has_come_as : List ℕ → Option SpotOf → Bool
has_come_as path None = false
has_come_as path (Some spot) = bytes_eq path spot.waiting

-- Each message file of `spots` but `number` has come under another name than `path`.
abbrev pub HasComeAlone : List (Option SpotOf) → ℕ → List ℕ → Type 0
HasComeAlone spots number path =
    (other : ℕ) (spot : Option SpotOf) → (other ≡ number → ⊥) → slice_get spots other ≡ Some spot
    → has_come_as path spot ≡ false

-- ---- a message file that is added

-- Returns true if a message file takes no path of the messages that ask or of other message files. None of the others
-- may take one of it.
abbrev pub is_admitted : KeeperOf → List (Option SpotOf) → SpotOf → Bool
is_admitted asked spots spot = keeps_off asked spot && is_spread_from_all spot spots

-- Returns the message file if the run takes care of it: its four paths differ, and it is admitted.
abbrev pub admitted : KeeperOf → List (Option SpotOf) → SpotOf → Option SpotOf
admitted asked spots spot = if are_apart spot && is_admitted asked spots spot then Some spot else None

-- Returns the message file with this file, if there is a file and the run takes care of the message file. `spot_of`
-- gives the message file for a file.
abbrev pub cared_for : KeeperOf → List (Option SpotOf) → (ℕ → SpotOf) → Option ℕ → Option SpotOf
cared_for asked spots spot_of None = None
cared_for asked spots spot_of (Some file) = admitted asked spots (spot_of file)

-- A look at the claimed path of a message file gives the message file, if a file stands there and the run takes care of
-- the message file. `spot_of` gives the message file for the file that is found. The look changes nothing.
pub record LooksFor {E : Type 0} (asked : KeeperOf) (spots : List (Option SpotOf)) (spot_of : ℕ → SpotOf) (old : Disk)
    (answer : Result (Option SpotOf) E) (new : Disk) : Type 0 where
  pub spot : IfOk answer (λ spot. spot ≡ cared_for asked spots spot_of (found_at (spot_of zero).claimed old.names))
  pub same : new ≡ old

-- A call appends `spot` to the message files of a run. On a correct disk that is the message file at the claimed path,
-- if the run takes care of it. Else it is None.
pub record AddsMessageFile {D : Type 0} (state : D → DiskState) (spot_of : ℕ → SpotOf) (old new : MessageRunOf D) : Type 0 where
  pub spot : Option SpotOf
  pub added : new.spots ≡ old.spots ++ spot ∷ []
  pub is : (state old.disk).is_correct ≡ true →
      spot ≡ cared_for old.asked old.spots spot_of (found_at (spot_of zero).claimed (state old.disk).now.names)

-- ---- calls

-- If the message file that was found is one of which the run takes care, `does` holds of it. Else `nothing` holds.
abbrev pub DoesAt : (SpotOf → Type 0) → Type 0 → Option (Option SpotOf) → Type 0
DoesAt does nothing None = nothing
DoesAt does nothing (Some None) = nothing
DoesAt does nothing (Some (Some spot)) = does spot

-- A call is done, and the disk is left as it was.
pub record DoesNothing {E : Type 0} (old : DiskState) (answer : Result (Unit {0}) E) (new : DiskState) : Type 0 where
  pub done : (done : Unit {0}) × (answer ≡ Ok done)
  pub same : new ≡ old

-- A message file stays at its place `before`, or moves to `to`.
abbrev pub MayComeAt : Place → Option Place → Option Place → Type 0
MayComeAt to before after = (after ≡ before) ⊎ (after ≡ option_map (moved to) before)

-- A call moves a message file to the place `to`. If it failed, the message file moves there or stays.
abbrev pub ComesAt : {A E : Type 0} → Place → Option Place → Result A E → Option Place → Type 0
ComesAt to before (Ok done) after = after ≡ option_map (moved to) before
ComesAt to before (Err fault) after = MayComeAt to before after

-- Each other message file stays at its place, and the messages that ask stay.
pub record IsElseSame (number : ℕ) (old new : RunState) : Type 0 where
  pub others : (other : ℕ) → (other ≡ number → ⊥) → slice_get new.places other ≡ slice_get old.places other
  pub asked : new.asked ≡ old.asked

-- A call moves message file `number` of a run with a correct disk to the place `to`. If it failed, the
-- message file moves there or stays (`ComesAt`). All else stays.
pub record MovesInRun {A E : Type 0} (to : Place) (number : ℕ) (old : RunState) (answer : Result A E) (new : RunState)
    : Type 0 where
  pub here : old.is_correct ≡ true → ComesAt to (slice_get old.places number) answer (slice_get new.places number)
  pub else_same : old.is_correct ≡ true → IsElseSame number old new
  pub correct : new.is_correct ≡ old.is_correct

-- A call gives message file `number` of a run with a correct disk back, or it stays. All else stays.
pub record GivesBackInRun (number : ℕ) (old new : RunState) : Type 0 where
  pub here : old.is_correct ≡ true → MayComeAt Waiting (slice_get old.places number) (slice_get new.places number)
  pub else_same : old.is_correct ≡ true → IsElseSame number old new
  pub correct : new.is_correct ≡ old.is_correct

-- A call keeps `asked` as the messages that ask, in place of `before`, and `after` are kept in the end. If it failed,
-- `after` is `before` or `asked`.
abbrev pub KeepsAsked : {A E : Type 0} → List ℕ → List ℕ → Result A E → List ℕ → Type 0
KeepsAsked asked before (Ok done) after = after ≡ asked
KeepsAsked asked before (Err fault) after = (after ≡ before) ⊎ (after ≡ asked)

-- A call keeps `asked` as the messages that ask, in a run with a correct disk. If it failed, they are `asked` or those
-- before. Each message file stays at its place.
pub record KeepsInRun {A E : Type 0} (asked : List ℕ) (old : RunState) (answer : Result A E) (new : RunState) : Type 0
  where
    pub here : old.is_correct ≡ true → KeepsAsked asked old.asked answer new.asked
    pub places : old.is_correct ≡ true → new.places ≡ old.places
    pub correct : new.is_correct ≡ old.is_correct

-- Each message file whose number fulfils `which`, and of which the run takes care, survives a call from `old` to `new`.
-- If each crash leaves its file under one of its names at first, each crash does so at each moment of the call.
abbrev pub MessageFilesSurvive : {D : Type 0} → (D → DiskState) → (ℕ → Type 0) → MessageRunOf D → MessageRunOf D → Type 0
MessageFilesSurvive state which old new =
    (number : ℕ) (spot : SpotOf) → which number → slice_get old.spots number ≡ Some (Some spot) →
    Survives spot (state old.disk) (state new.disk)

-- On a correct disk each message file of these is gone, or each crash leaves it.
abbrev pub AllKept : List (Option SpotOf) → DiskState → Type 0
AllKept spots state = state.is_correct ≡ true → (number : ℕ) (spot : SpotOf)
    → slice_get spots number ≡ Some (Some spot) →
    IsKept spot state.now

-- On a correct disk each message file of which a run takes care is gone, or each crash leaves it.
abbrev pub AreKept : {D : Type 0} → (D → DiskState) → MessageRunOf D → Type 0
AreKept state run = AllKept run.spots (state run.disk)

-- On a correct disk each message file of these that is kept at first is kept in the end.
abbrev pub AllStayKept : List (Option SpotOf) → DiskState → DiskState → Type 0
AllStayKept spots old new = (number : ℕ) (spot : SpotOf) → slice_get spots number ≡ Some (Some spot)
    → StaysKept spot old new

-- Holds of each message file, by its number.
abbrev pub AnyMessageFile : ℕ → Type 0
AnyMessageFile number = Unit {0}
