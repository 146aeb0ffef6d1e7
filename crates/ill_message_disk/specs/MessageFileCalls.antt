-- The calls that a message file needs of a disk, besides those of `Disk`.
use Rattle.std.specs.Prelude.{◌≡◌, ◌⊎◌, ℕ, ◌==◌, Bool, false, List, length, map, Option, Some, None, option_map, Result, Ok}
use Rattle.std.specs.Prelude.{Err, IfOk, OnOk}
use Rattle.ill_disk.specs.Disk.{Name, Disk, after_change, after_remove, after_rename, content, found_at, with_name, without}
use Rattle.ill_message_disk.specs.declared.message_disk.Found.{Found}

-- A look at a path gives the file there, if there is one: its number and its size. It changes nothing.
pub record Finds {E : Type 0} (path : List ℕ) (old : Disk) (answer : Result (Option Found) E) (new : Disk) : Type 0 where
  pub file : IfOk answer (λ found. option_map (λ f. f.file) found ≡ found_at path old.names)
  pub size : IfOk answer (λ found. option_map (λ f. f.size) found ≡ option_map length (content path old))
  pub same : new ≡ old

-- The file at `from` has got a second name `to`, at which no file stood.
pub record GivesName (from to : List ℕ) (old new : Disk) : Type 0 where
  pub file : ℕ
  pub found : found_at from old.names ≡ Some file
  pub free : found_at to old.names ≡ None
  pub done : new ≡ after_change (with_name to file) old

-- A call that is done has given the file at `from` a second name. One that failed has done so, or has changed nothing.
abbrev pub Links : {A E : Type 0} → List ℕ → List ℕ → Disk → Result A E → Disk → Type 0
Links from to old (Ok done) new = GivesName from to old new
Links from to old (Err fault) new = (new ≡ old) ⊎ GivesName from to old new

-- Returns `names` after they change at `path` alone: the given file stands at `path`, or no file does if none is given.
abbrev pub with_found : List ℕ → Option ℕ → List Name → List Name
with_found path None names = without path names
with_found path (Some file) names = with_name path file names

-- Returns the disk after one of its names is flushed. A crash then leaves at this path what stands there now. Of other
-- names this says nothing, so no folder is known here.
abbrev pub after_flush_name : List ℕ → Disk → Disk
after_flush_name path d =
    let settle : List Name → List Name = with_found path (found_at path d.names) in
    record d { names = settle d.names; may_stand = map settle d.may_stand }

-- ---- functions that are made of calls of a disk: a test for a file, a removal and a rename that need no file

-- Returns true if a file was found and it is `file`.
abbrev pub is_file : ℕ → Option ℕ → Bool
is_file file None = false
is_file file (Some found) = found == file

-- A call answers true if `file` stands at `path`, and false if another file or none does. It changes nothing.
pub record Tells {E : Type 0} (path : List ℕ) (file : ℕ) (old : Disk) (answer : Result Bool E) (new : Disk) : Type 0 where
  pub stands : IfOk answer (λ stands. stands ≡ is_file file (found_at path old.names))
  pub same : new ≡ old

-- A call that is done leaves no file at `path`. A call, done or failed, has removed `path` or changed nothing.
pub record Clears {A E : Type 0} (path : List ℕ) (old : Disk) (answer : Result A E) (new : Disk) : Type 0 where
  pub gone : OnOk answer (found_at path new.names ≡ None)
  pub either : (new ≡ old) ⊎ (new ≡ after_remove path old)

-- A call that is done has renamed the file at `from` to `to`, if a file stood at `from`. A call, done or failed, has
-- renamed it or changed nothing.
pub record Brings {A E : Type 0} (from to : List ℕ) (old : Disk) (answer : Result A E) (new : Disk) : Type 0 where
  pub done : OnOk answer ((found_at from old.names ≡ None) ⊎ (new ≡ after_rename from to old))
  pub either : (new ≡ old) ⊎ (new ≡ after_rename from to old)
