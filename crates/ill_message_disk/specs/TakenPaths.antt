-- The paths of the message files of a run, in three sets.
use Rattle.std.specs.Prelude.{◌≡◌, ℕ, Bool, true, ◌&&◌, List, [], ◌∷◌, Option, Some, None, IfSome, Vec, bytes_eq}
use Rattle.std.specs.Prelude.{slice_get}
use Rattle.std.specs.declared.alloc.Global.{Global}
use Rattle.ill_message_disk.specs.Spots.{SpotOf, quarantined_paths, is_none_of, paths_of}
use Rattle.ill_message_disk.specs.Keeping.{KeeperOf}
use Rattle.ill_message_disk.specs.Runs.{IsSpread}

-- Sets of paths of message files. `places` are the paths at which their files may stand, and `moves` those that they
-- leave or take. `shared` are the paths at which two message files or more would wait if they were given back.
pub record TakenOf : Type 0 where
  pub places : List (List ℕ)
  pub moves : List (List ℕ)
  pub shared : List (List ℕ)

-- Returns true if both paths have the same bytes.
abbrev pub is_same_path : Vec ℕ Global → Vec ℕ Global → Bool
is_same_path one other = bytes_eq one.items other.items

-- A set has got one path.
abbrev pub GetsPath : List ℕ → List (List ℕ) → List (List ℕ) → Type 0
GetsPath path old new = (other : List ℕ) → is_none_of new other ≡ is_none_of (path ∷ old) other

-- A set has got these three paths.
abbrev pub GetsThree : List ℕ → List ℕ → List ℕ → List (List ℕ) → List (List ℕ) → Type 0
GetsThree one two three old new = (path : List ℕ) → is_none_of new path ≡ is_none_of (one ∷ two ∷ three ∷ old) path

-- A set has lost no path from `old` to `new`. If `path`, at which a message file waits, is among `places`, the set has
-- `path` too.
abbrev pub Shares : List ℕ → List (List ℕ) → List (List ℕ) → List (List ℕ) → Type 0
Shares path places old new = (other : List ℕ) → is_none_of new other ≡ true →
    (is_none_of old other ≡ true) × (path ≡ other → is_none_of places path ≡ true)

-- The sets `new` are the sets `old` with the paths of `spot`. Its waiting path is shared if it was among the places.
pub record GetsPaths (spot : SpotOf) (old new : TakenOf) : Type 0 where
  pub places : GetsThree spot.claimed spot.waiting spot.quarantined old.places new.places
  pub moves : GetsThree spot.reason spot.claimed spot.quarantined old.moves new.moves
  pub shared : Shares spot.waiting old.places old.shared new.shared

-- Returns true if `path` is none of the paths that `of` gives of a message file, or if there is no message file.
abbrev pub misses_message_file : (SpotOf → List (List ℕ)) → List ℕ → Option SpotOf → Bool
misses_message_file of path None = true
misses_message_file of path (Some spot) = is_none_of (of spot) path

-- Returns true if `path` is none of the paths that `of` gives of any of these message files.
abbrev pub misses_message_files : (SpotOf → List (List ℕ)) → List (Option SpotOf) → List ℕ → Bool
misses_message_files of [] path = true
misses_message_files of (spot ∷ spots) path = misses_message_file of path spot && misses_message_files of spots path

-- One message file at most has come under this name.
abbrev pub IsOnce : List ℕ → List (Option SpotOf) → Type 0
IsOnce path spots = (number other : ℕ) (spot second : SpotOf) → slice_get spots number ≡ Some (Some spot) →
    slice_get spots other ≡ Some (Some second) → spot.waiting ≡ path → second.waiting ≡ path → number ≡ other

-- The sets have the paths of these message files, and no others. A name that is not shared is that of one message file
-- at most.
pub record AreTaken (taken : TakenOf) (spots : List (Option SpotOf)) : Type 0 where
  pub places : (path : List ℕ) → is_none_of taken.places path ≡ misses_message_files paths_of spots path
  pub moves : (path : List ℕ) → is_none_of taken.moves path ≡ misses_message_files quarantined_paths spots path
  pub shared : (path : List ℕ) → is_none_of taken.shared path ≡ true → IsOnce path spots

-- Returns true if no path that `spot` leaves or takes is one of `places`, at which files of other message files may
-- stand.
abbrev pub leaves_places : List (List ℕ) → SpotOf → Bool
leaves_places places spot = is_none_of places spot.reason && is_none_of places spot.claimed && is_none_of places spot.quarantined

-- Returns true if none of `moves`, the paths that other message files leave or take, is one at which the file of `spot`
-- may stand.
abbrev pub is_left : List (List ℕ) → SpotOf → Bool
is_left moves spot = is_none_of moves spot.claimed && is_none_of moves spot.waiting && is_none_of moves spot.quarantined

-- Returns true if `spot` takes no path of a message file of `taken`, and no message file of `taken` takes a path of
-- `spot`.
abbrev pub is_free : TakenOf → SpotOf → Bool
is_free taken spot = leaves_places taken.places spot && is_left taken.moves spot

-- The sets have the paths of these message files, if there are sets.
abbrev pub AreKnown : Option TakenOf → List (Option SpotOf) → Type 0
AreKnown taken spots = IfSome taken (λ sets. AreTaken sets spots)

-- No message file of a run takes a path of another or of the messages that ask, and its sets have the paths of its
-- message files.
pub record IsInOrder (keeper : KeeperOf) (taken : Option TakenOf) (spots : List (Option SpotOf)) : Type 0 where
  pub spread : IsSpread keeper spots
  pub known : AreKnown taken spots
