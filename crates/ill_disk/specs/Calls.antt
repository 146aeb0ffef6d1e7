-- The state of a disk, and the answers of its calls.
use Rattle.std.specs.Prelude.{◌≡◌, ◌⊎◌, ◌<◌, ℕ, Bool, true, List, [], ◌∷◌, ◌++◌, length, Option, Some, None, is_some}
use Rattle.std.specs.Prelude.{option_map, Result, Ok, Err, IfOk, OnOk, IsErrOf}
use Rattle.ill_disk.specs.declared.disk.DiskFault.{DiskFault}
use Rattle.ill_disk.specs.declared.disk.DiskFault.TheVariants.{NotFound, TooLarge}
use Rattle.ill_disk.specs.Disk.{In, Disk, IsWhole, content, found_at, after_create}

-- The state of a disk: its files and names now, and the disks that it was, the first one first. A disk may keep no
-- past. `is_correct` is true if the disk does as it answers.
pub record DiskState : Type 0 where
  pub now : Disk
  pub past : Option (List Disk)
  pub is_correct : Bool

-- Returns the past, followed by these disks.
abbrev pub followed_by : Option (List Disk) → List Disk → Option (List Disk)
followed_by past during = option_map (λ disks. disks ++ during) past

-- A read that is done gives the bytes at `path`, which `bytes_of` takes from its answer. It changes nothing, done or
-- failed.
pub record Reads {X E : Type 0} (bytes_of : X → List ℕ) (path : List ℕ) (old : Disk) (answer : Result (Option X) E)
    (new : Disk) : Type 0 where
  pub bytes : IfOk answer (λ found. option_map bytes_of found ≡ content path old)
  pub same : new ≡ old

-- A call that is done has made this change of the disk. A call that failed has made it, or has not.
abbrev pub Changes : {E : Type 0} → (Disk → Disk) → Disk → Result (Unit {0}) E → Disk → Type 0
Changes change old (Ok done) new = new ≡ change old
Changes change old (Err fault) new = (new ≡ old) ⊎ (new ≡ change old)

-- Returns the disk itself, for a call that changes nothing.
abbrev pub unchanged : Disk → Disk
unchanged d = d

-- If the call succeeds, `path` has a new file with `bytes`. If it fails, there is none, or one with any bytes.
abbrev pub Creates : {E : Type 0} → List ℕ → List ℕ → Disk → Result (Unit {0}) E → Disk → Type 0
Creates path bytes old (Ok done) new = new ≡ after_create path bytes old
Creates path bytes old (Err fault) new = (new ≡ old) ⊎ ((some : List ℕ) × (new ≡ after_create path some old))

-- The past has gained the disk of the state `old`. A call that changes nothing may add nothing to the past.
abbrev pub Passes : DiskState → DiskState → Type 0
Passes old new = (new.past ≡ followed_by old.past (old.now ∷ [])) ⊎ ((new.past ≡ old.past) × (new.now ≡ old.now))

-- The disk answers a call in the state `old`, and is in the state `new` after it. A correct disk is whole, changes as
-- `does` says, and keeps its past. Each disk stays as correct as it was.
pub record Answers {A E : Type 0} (does : Disk → Result A E → Disk → Type 0) (old : DiskState) (answer : Result A E)
    (new : DiskState) : Type 0 where
  pub whole : old.is_correct ≡ true → IsWhole old.now
  pub done : old.is_correct ≡ true → does old.now answer new.now
  pub past : old.is_correct ≡ true → Passes old new
  pub correct : new.is_correct ≡ old.is_correct

-- On a correct disk the call is done only if a file stands at the path. It answers `NotFound` only if none does.
pub record WantsFile {A : Type 0} (path : List ℕ) (old : DiskState) (answer : Result A DiskFault) : Type 0 where
  pub found : old.is_correct ≡ true → OnOk answer (is_some (found_at path old.now.names) ≡ true)
  pub none : old.is_correct ≡ true → IsErrOf answer NotFound → found_at path old.now.names ≡ None

-- On a correct disk the call is done only if no file stands at the path.
abbrev pub WantsNoFile : {A E : Type 0} → List ℕ → DiskState → Result A E → Type 0
WantsNoFile path old answer = old.is_correct ≡ true → OnOk answer (found_at path old.now.names ≡ None)

-- A file was found, and it has more than `limit` bytes.
abbrev pub IsLonger : ℕ → Option (List ℕ) → Type 0
IsLonger limit None = ⊥
IsLonger limit (Some bytes) = limit < length bytes

-- On a correct disk a read answers `TooLarge` only if the file has more bytes than the limit.
abbrev pub IsLargeOnlyIf : {A : Type 0} → ℕ → List ℕ → DiskState → Result A DiskFault → Type 0
IsLargeOnlyIf limit path old answer =
    old.is_correct ≡ true → IsErrOf answer TooLarge → IsLonger limit (content path old.now)

-- ---- moments

-- Each disk from `old` to `new` has P: those that the past has gained meanwhile, and the last one.
pub record Throughout (P : Disk → Type 0) (old new : DiskState) : Type 0 where
  pub during : List Disk
  pub past : new.past ≡ followed_by old.past during
  pub each : (d : Disk) → In during d → P d
  pub last : P new.now

-- The disk was `d` between `old` and `new`, or is `d` at the end.
pub data IsMoment (old new : DiskState) (d : Disk) : Type 0 where
  at_the_end : d ≡ new.now → IsMoment old new d
  meanwhile : (before during : List Disk) → old.past ≡ Some before → new.past ≡ Some (before ++ during) → In during d →
      IsMoment old new d
