-- Bytes that are kept in a file of a disk.
use Rattle.std.specs.Prelude.{◌≡◌, ◌⊎◌, ℕ, ◌++◌, true, List, [], ◌∷◌, codes, Option, Result, OnOk}
use Rattle.ill_disk.specs.Disk.{content}
use Rattle.ill_disk.specs.Calls.{DiskState}
use Rattle.ill_message_disk.specs.Touches.{Touches}

-- The path of a file, and the path beside it, at which a new file is made first.
pub record KeeperOf : Type 0 where
  pub path : List ℕ
  pub temporary : List ℕ

-- Returns the keeper of the file at a path. The path beside it ends with `.new`.
abbrev pub keeper_at : List ℕ → KeeperOf
keeper_at path = record { path = path; temporary = path ++ codes ".new" }

-- Returns the paths that a keeper touches.
abbrev pub kept_paths : KeeperOf → List (List ℕ)
kept_paths keeper = keeper.temporary ∷ keeper.path ∷ []

-- A call touches at most the paths of the keeper. On a correct disk a read of its file gives what it gave before.
pub record LeavesFile (keeper : KeeperOf) (old new : DiskState) : Type 0 where
  pub touches : Touches (kept_paths keeper) old new
  pub same : old.is_correct ≡ true → content keeper.path new.now ≡ content keeper.path old.now

-- A call puts `bytes` in the place of the file, or removes it if they are None. If it is done, a read gives them. If it
-- failed, a read gives them, or what it gave.
pub record PutsFile {A E : Type 0} (keeper : KeeperOf) (bytes : Option (List ℕ)) (old : DiskState) (answer : Result A E)
    (new : DiskState) : Type 0 where
  pub touches : Touches (kept_paths keeper) old new
  pub done : old.is_correct ≡ true → OnOk answer (content keeper.path new.now ≡ bytes)
  pub either : old.is_correct ≡ true →
      (content keeper.path new.now ≡ content keeper.path old.now) ⊎ (content keeper.path new.now ≡ bytes)
