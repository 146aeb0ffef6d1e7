-- A disk that may lose its power: its files, its names, and what a crash may leave of them.
use Rattle.std.specs.Prelude.{◌≡◌, ◌⊎◌, ℕ, zero, suc, ◌<◌, Bool, true, false, if◌then◌else◌, List, [], ◌∷◌, ◌++◌, length, map}
use Rattle.std.specs.Prelude.{slice_get, bytes_eq, Option, Some, None, option_map}

-- The element `x` stands in the list.
abbrev pub In : {X : Type 0} → List X → X → Type 0
In [] x = ⊥
In (y ∷ ys) x = (x ≡ y) ⊎ In ys x

-- A file has its bytes. If it is flushed, a crash leaves them.
pub record File : Type 0 where
  pub bytes : List ℕ
  pub is_flushed : Bool

-- A name gives the file that stands at a path. A file is known by its place in the list of all files ever made.
pub record Name : Type 0 where
  pub path : List ℕ
  pub file : ℕ

-- A disk has its files, its names now, and the lists of names that a crash may leave.
pub record Disk : Type 0 where
  pub files : List File
  pub names : List Name
  pub may_stand : List (List Name)

-- Returns the file that stands at `path`, if there is one, as a place in the list of all files.
abbrev pub found_at : List ℕ → List Name → Option ℕ
found_at path [] = None
found_at path (name ∷ names) = if bytes_eq path name.path then Some name.file else found_at path names

-- Returns the names without the one of a path.
abbrev pub without : List ℕ → List Name → List Name
without path [] = []
without path (name ∷ names) = if bytes_eq path name.path then without path names else name ∷ without path names

-- Returns the names after a file is put at a path, in place of what stood there.
abbrev pub with_name : List ℕ → ℕ → List Name → List Name
with_name path file names = record { path = path; file = file } ∷ without path names

-- Returns the bytes of the file at a place of `files`, if there is one.
abbrev pub bytes_of : List File → Option ℕ → Option (List ℕ)
bytes_of files None = None
bytes_of files (Some file) = option_map (λ f. f.bytes) (slice_get files file)

-- Returns the bytes that a read of a path gives.
abbrev pub content : List ℕ → Disk → Option (List ℕ)
content path d = bytes_of d.files (found_at path d.names)

-- ---- the calls

-- Returns the disk after a change of names. A crash may leave each list of names with the change, or without it.
abbrev pub after_change : (List Name → List Name) → Disk → Disk
after_change change d = record d { names = change d.names; may_stand = d.may_stand ++ map change d.may_stand }

-- Returns the disk after a new file is made at a path, with these bytes. They are not flushed.
abbrev pub after_create : List ℕ → List ℕ → Disk → Disk
after_create path bytes d = after_change (with_name path (length d.files))
    (record d { files = d.files ++ record { bytes = bytes; is_flushed = false } ∷ [] })

-- Returns the disk after a path is removed.
abbrev pub after_remove : List ℕ → Disk → Disk
after_remove path d = after_change (without path) d

-- Returns the names after the file found at `from`, if any, is put at `to`. This is one change.
abbrev pub with_rename : List ℕ → List ℕ → Option ℕ → List Name → List Name
with_rename from to None names = names
with_rename from to (Some file) names = with_name to file (without from names)

-- Returns the disk after a file is renamed, over what stood at the new path.
abbrev pub after_rename : List ℕ → List ℕ → Disk → Disk
after_rename from to d = after_change (with_rename from to (found_at from d.names)) d

-- Returns `files` after the one at place `file` is flushed, if there is one.
abbrev pub flush_file : List File → ℕ → List File
flush_file [] file = []
flush_file (f ∷ files) zero = record f { is_flushed = true } ∷ files
flush_file (f ∷ files) (suc file) = f ∷ flush_file files file

-- Returns `files` after the one that was found, if any, is flushed.
abbrev pub flush_found : List File → Option ℕ → List File
flush_found files None = files
flush_found files (Some file) = flush_file files file

-- Returns the disk after the file at a path is flushed.
abbrev pub after_flush : List ℕ → Disk → Disk
after_flush path d = record d { files = flush_found d.files (found_at path d.names) }

-- Returns the disk after its names are flushed. A disk is one folder, so this is the flush of that folder.
abbrev pub after_flush_names : Disk → Disk
after_flush_names d = record d { may_stand = d.names ∷ [] }

-- ---- crashes

-- A crash may leave the file `after` of the file `before`. If `before` was flushed, `after` has its bytes. Else it may
-- have any. All that a crash leaves is flushed.
pub record IsLeft (before after : File) : Type 0 where
  pub bytes : before.is_flushed ≡ true → after.bytes ≡ before.bytes
  pub flushed : after.is_flushed ≡ true

-- A crash leaves these files, one for each file before.
abbrev pub AreLeft : List File → List File → Type 0
AreLeft [] [] = Unit {0}
AreLeft [] (g ∷ after) = ⊥
AreLeft (f ∷ before) [] = ⊥
AreLeft (f ∷ before) (g ∷ after) = IsLeft f g × AreLeft before after

-- A crash of the disk `before` may leave the disk `after`. The names of `after` are one of the lists that may stand on
-- `before`. No other list may stand on `after`. Each file of `after` is one that a crash may leave.
pub record Crash (before after : Disk) : Type 0 where
  pub names : In before.may_stand after.names
  pub only : after.may_stand ≡ after.names ∷ []
  pub files : AreLeft before.files after.files

-- A crash of `d` may leave the content `found` at `path`.
abbrev pub Leaves : Disk → List ℕ → Option (List ℕ) → Type 0
Leaves d path found = (after : Disk) × Crash d after × (content path after ≡ found)

-- ---- whole disks

-- Each name gives one of the first `count` files.
abbrev pub AreMade : ℕ → List Name → Type 0
AreMade count [] = Unit {0}
AreMade count (name ∷ names) = (name.file < count) × AreMade count names

-- In each list that may stand, each name gives a file that was made. The names now are one of these lists.
pub record IsWhole (d : Disk) : Type 0 where
  pub made : (names : List Name) → In d.may_stand names → AreMade (length d.files) names
  pub now : In d.may_stand d.names

-- The disk on which no file was ever made.
abbrev pub empty_disk : Disk
empty_disk = record { files = []; names = []; may_stand = [] ∷ [] }

-- ---- a save

-- Returns the five disks on the way of a save. A new file is made at `temporary`, flushed, and renamed over the record.
-- Then the names are flushed.
abbrev pub on_the_way : List ℕ → List ℕ → List ℕ → Disk → List Disk
on_the_way temporary path bytes d =
    let created = after_create temporary bytes d in
    let flushed = after_flush temporary created in
    let replaced = after_rename temporary path flushed in
    d ∷ created ∷ flushed ∷ replaced ∷ after_flush_names replaced ∷ []

-- Returns the disk after a save.
abbrev pub after_save : List ℕ → List ℕ → List ℕ → Disk → Disk
after_save temporary path bytes d =
    after_flush_names (after_rename temporary path (after_flush temporary (after_create temporary bytes d)))

-- The content `found` is one that a crash of `d` may leave at `path`, or it is `bytes`.
abbrev pub IsOldOr : List ℕ → Disk → List ℕ → Option (List ℕ) → Type 0
IsOldOr path d bytes found = Leaves d path found ⊎ (found ≡ Some bytes)
