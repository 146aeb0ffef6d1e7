-- These are crashes that no disk may have, half renames, and changes that lose names which may stand. Each case has its
-- own fault. By the laws the definitions of `Disk` exclude them all.
use Rattle.std.specs.Prelude.{◌≡◌, ℕ, true, false, List, length, slice_get, Some, None}
use Rattle.ill_disk.specs.Disk.{In, File, Name, Disk, found_at}

-- A crash of the disk `before` cannot leave the disk `after`. The cases are: names that may not stand, other bytes in a
-- flushed file, other names that may stand, a file that is not flushed, and another number of files.
pub data IsBadCrash (before after : Disk) : Type 0 where
  other_names : (In before.may_stand after.names → ⊥) → IsBadCrash before after
  other_bytes : (file : ℕ) (f g : File) → slice_get before.files file ≡ Some f → slice_get after.files file ≡ Some g →
      f.is_flushed ≡ true → (g.bytes ≡ f.bytes → ⊥) → IsBadCrash before after
  more_names : (names : List Name) → In after.may_stand names → (names ≡ after.names → ⊥) → IsBadCrash before after
  not_flushed : (file : ℕ) (g : File) → slice_get after.files file ≡ Some g → g.is_flushed ≡ false →
      IsBadCrash before after
  other_count : (length after.files ≡ length before.files → ⊥) → IsBadCrash before after

-- `names` are not the names after a rename of `file` from `from` to `to`. The cases are: `from` still gives a file,
-- `to` gives none, and `to` gives another file.
pub data IsHalfRenamed (from to : List ℕ) (file : ℕ) (names : List Name) : Type 0 where
  still_there : (other : ℕ) → found_at from names ≡ Some other → IsHalfRenamed from to file names
  not_there : found_at to names ≡ None → IsHalfRenamed from to file names
  other_file : (other : ℕ) → found_at to names ≡ Some other → (other ≡ file → ⊥) → IsHalfRenamed from to file names

-- A list of names that may stand on the disk `old` may not stand on the disk `new`. The cases are: the list without
-- `change`, and the list with it.
pub data LosesNames (change : List Name → List Name) (old new : Disk) : Type 0 where
  without_change : (names : List Name) → In old.may_stand names → (In new.may_stand names → ⊥) →
      LosesNames change old new
  with_change : (names : List Name) → In old.may_stand names → (In new.may_stand (change names) → ⊥) →
      LosesNames change old new
