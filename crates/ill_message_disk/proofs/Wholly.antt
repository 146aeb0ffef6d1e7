-- Lemmas on `put_whole`, call by call: at each moment the path has what it had, or all of the new bytes.
use Rattle.std.proofs.Common.{◌≡◌, inl, inr, ⊎_elim, refl, ◌∙◌, ℕ, List, [], ◌∷◌, Some, Result, Ok, Err}
use Rattle.ill_disk.specs.Disk.{Disk, after_remove, content}
use Rattle.ill_disk.specs.Calls.{DiskState, Answers, Changes}
use Rattle.ill_disk.proofs.Moments.{throughout_nothing, holds_too, joins}
use Rattle.ill_disk.proofs.Saves.{remove_elsewhere}
use Rattle.ill_store.specs.DiskStore.{DiskPlaces, IsOld, IsOldOrNew}
use Rattle.ill_store.proofs.DiskSaves.{HasKept, old_left, remove_has_kept, save_fails}
use Rattle.ill_message_disk.specs.Keeping.{KeeperOf, LeavesFile, PutsFile}
use Rattle.ill_message_disk.specs.Whole.{PutsWhole}
use Rattle.ill_message_disk.proofs.Kept.{puts_after, puts_failed}
use Rattle.ill_message_disk.proofs.Steps.{change_fits, either_way, one_touches, touches_more}
use Rattle.ill_message_disk.proofs.Touching.{remove_touches}

-- Before the first call the path has what it had (`HasKept`).
kept_first : (path : List ℕ) (old : DiskState) → HasKept path old old
kept_first path old = record { moments = λ h. throughout_nothing (refl, old_left path old.now); correct = refl }

-- If `d` has at the path what `old` had (`IsOld`), it has that or all of `bytes` (`IsOldOrNew`).
old_is_fine : (path bytes : List ℕ) (old d : Disk) → IsOld path old d → IsOldOrNew path bytes old d
old_is_fine path bytes old d kept = (inl kept.0, λ found left. inl (kept.1 found left))

-- Let `d` have at the path what `old` had. If `x` has there what `d` had, or all of `bytes`, it has what `old` had, or
-- all of `bytes`.
fine_again : (path bytes : List ℕ) (old d : Disk) → IsOld path old d → (x : Disk) → IsOldOrNew path bytes d x →
    IsOldOrNew path bytes old x
fine_again path bytes old d kept x fine = (
  ⊎_elim (λ same. inl (same ∙ kept.0)) inr fine.0,
  λ found left. ⊎_elim (λ was. inl (kept.1 found was)) inr (fine.1 found left),
)

-- A removal at `temporary`, done or not, leads from `old` to `cleared`.
module _ {E : Type 0} {temporary path : List ℕ} {old cleared : DiskState} {removal : Result (Unit {0}) E}
    (differ : temporary ≡ path → ⊥) (removes : Answers (Changes (after_remove temporary)) old removal cleared) where
  -- The removal at `temporary` leaves the file at the path, whether it succeeds or fails.
  pub removed_leaves : LeavesFile (record { path = path; temporary = temporary }) old cleared
  removed_leaves = record {
    touches = touches_more (temporary ∷ []) (temporary ∷ path ∷ []) (λ p none. (none.0, tt)) old cleared
        (one_touches (Changes (after_remove temporary)) (temporary ∷ []) old removal cleared removes
        (change_fits (temporary ∷ []) (after_remove temporary) (remove_touches temporary) removal));
    same = λ h. either_way (λ (d : Disk). content path d ≡ content path old.now) (after_remove temporary) old.now cleared.now
        removal (removes.done h) refl (remove_elsewhere temporary path old.now differ);
  }

  -- Until the removal ends, the path has what it had.
  removed_keeps : HasKept path old cleared
  removed_keeps = remove_has_kept differ (kept_first path old) removes

-- If a file is placed after the removal at `temporary`, done or not, it is put whole (`PutsWhole`).
pub placed_whole : {E F : Type 0} {temporary path bytes : List ℕ} {old cleared placed : DiskState}
    {removal : Result (Unit {0}) E} {one two : Unit {0}} → (temporary ≡ path → ⊥) →
    Answers (Changes (after_remove temporary)) old removal cleared →
    DiskPlaces {E = F} temporary path bytes cleared (Ok one) placed →
    PutsFile {E = F} (record { path = path; temporary = temporary }) (Some bytes) cleared (Ok one) placed →
    PutsWhole {E = F} temporary path bytes old (Ok two) placed
placed_whole {F = F} {temporary = temporary} {path = path} {bytes = bytes} {old = old} {cleared = cleared} {placed = placed}
    {one = one} differ removes places puts =
    let kept : HasKept path old cleared = removed_keeps differ removes in
    let all : PutsFile {E = F} (record { path = path; temporary = temporary }) (Some bytes) old (Ok one) placed =
    puts_after (removed_leaves differ removes) puts in record {
      touches = all.touches;
      put = all.done;
      moments = λ h. joins (holds_too (old_is_fine path bytes old.now) (kept.moments h))
          (holds_too (fine_again path bytes old.now cleared.now (kept.moments h).last)
          (places.moments (removes.correct ∙ h)));
    }

-- Let a file not be placed, and `temporary` be removed again, done or not. Then a call that fails answers as
-- `PutsWhole` says.
pub unplaced_whole : {E F G : Type 0} {temporary path bytes : List ℕ} {old cleared placed last : DiskState}
    {removal : Result (Unit {0}) E} {fault other : F} {again : Result (Unit {0}) G} → (temporary ≡ path → ⊥) →
    Answers (Changes (after_remove temporary)) old removal cleared →
    DiskPlaces {E = F} temporary path bytes cleared (Err fault) placed →
    PutsFile {A = Unit {0}} (record { path = path; temporary = temporary }) (Some bytes) cleared (Err fault) placed →
    Answers (Changes (after_remove temporary)) placed again last →
    PutsWhole {A = Unit {0}} temporary path bytes old (Err other) last
unplaced_whole {F = F} {temporary = temporary} {path = path} {bytes = bytes} {old = old} {placed = placed} {last = last}
    {fault = fault} {other = other} differ removes places puts removes_again =
    let first : PutsFile {A = Unit {0}} (record { path = path; temporary = temporary }) (Some bytes) old (Err fault) placed =
    puts_after (removed_leaves differ removes) puts in
    let all : PutsFile {A = Unit {0}} (record { path = path; temporary = temporary }) (Some bytes) old (Err other) last =
    puts_failed first (removed_leaves differ removes_again) in record {
      touches = all.touches;
      put = λ h. tt;
      moments = (save_fails differ (removed_keeps differ removes) places removes_again).moments;
    }
