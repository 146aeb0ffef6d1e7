-- What a call leaves alone: each name but those of some paths, and the bytes of each file.
use Rattle.std.specs.Prelude.{◌≡◌, ℕ, true, List, [], ◌∷◌, slice_get, Some}
use Rattle.ill_disk.specs.Disk.{In, File, Name, Disk, IsWhole, found_at}
use Rattle.ill_disk.specs.Calls.{DiskState, Throughout}

-- `path` is none of these paths.
abbrev pub IsNoneOf : List (List ℕ) → List ℕ → Type 0
IsNoneOf [] path = Unit {0}
IsNoneOf (other ∷ paths) path = (other ≡ path → ⊥) × IsNoneOf paths path

-- The names `new` differ from the names `old` at these paths alone.
abbrev pub DiffersAt : List (List ℕ) → List Name → List Name → Type 0
DiffersAt paths old new = (path : List ℕ) → IsNoneOf paths path → found_at path new ≡ found_at path old

-- The file `after` has the bytes of the file `before`. If that was flushed, it is flushed.
pub record IsStill (before after : File) : Type 0 where
  pub bytes : after.bytes ≡ before.bytes
  pub flushed : before.is_flushed ≡ true → after.is_flushed ≡ true

-- Each file that was made has its bytes.
abbrev pub KeepsFiles : List File → List File → Type 0
KeepsFiles old new = (file : ℕ) (before : File) → slice_get old file ≡ Some before →
    (after : File) × (slice_get new file ≡ Some after) × IsStill before after

-- The disk `new` differs from the disk `old` in names at these paths alone, now and after each crash. Each file has its
-- bytes.
pub record TouchesOnly (paths : List (List ℕ)) (old new : Disk) : Type 0 where
  pub now : DiffersAt paths old.names new.names
  pub left : (names : List Name) → In new.may_stand names →
      (before : List Name) × In old.may_stand before × DiffersAt paths before names
  pub files : KeepsFiles old.files new.files

-- At each moment between these states a correct disk differs from the first one in names at these paths alone.
pub record Touches (paths : List (List ℕ)) (old new : DiskState) : Type 0 where
  pub whole : old.is_correct ≡ true → IsWhole old.now
  pub moments : old.is_correct ≡ true → Throughout (TouchesOnly paths old.now) old new
  pub correct : new.is_correct ≡ old.is_correct
