-- Proves how a load and a save change a disk, call by call. The contracts of `load`, `save` and `place`
-- (`src/lasting.rt`) follow from it.
use Rattle.std.proofs.Common.{◌≡◌, inl, inr, ⊎_elim, refl, sym, ◌∙◌, ap, subst, arith, ℕ, zero, suc, ◌<◌, List, [], ◌∷◌}
use Rattle.std.proofs.Common.{length}
use Rattle.std.proofs.Common.{Option, Some, None, Result, Ok, Err, OnOk, IsErr, option_map, true}
use Rattle.std.proofs.lemmas.Bool.{true≢false}
use Rattle.std.proofs.lemmas.Option.{none-some}
use Rattle.ill_disk.specs.Disk.{In, File, Name, Disk, Leaves, IsWhole, content, found_at, bytes_of}
use Rattle.ill_disk.specs.Disk.{without, on_the_way, after_create, after_remove, after_rename, after_flush}
use Rattle.ill_disk.specs.Disk.{after_flush_names}
use Rattle.ill_disk.specs.Calls.{DiskState, Reads, Changes, Creates, Answers, Throughout, unchanged}
use Rattle.ill_disk.proofs.Names.{found_without_other, made_found}
use Rattle.ill_disk.proofs.Crashes.{change_left, flush_left, flushes_last, names_left, flush_is_not_read}
use Rattle.ill_disk.proofs.Moments.{throughout_nothing, one_more_call, holds_too, joins}
use Rattle.ill_disk.proofs.Saves.{created_left, create_elsewhere, remove_elsewhere, save_moments, save_is_read, save_lasts}
use Rattle.ill_store.specs.DiskStore.{Lasts, LeavesOld, LeavesOldOr, ReadsOldOr, IsOld, IsOldOrNew, DiskLoads}
use Rattle.ill_store.specs.DiskStore.{DiskPlaces, DiskSaves, after_placing}
use Rattle.ill_store.specs.Store.{LoadLasts, SaveLasts}
use Rattle.ill_store.specs.declared.store.StoreFault.{StoreFault}

-- If `P` holds of `old` and of `change old`, it holds of the disk after the call, done or failed.
pub after_call : {E : Type 0} (P : Disk → Type 0) (change : Disk → Disk) (old new : Disk) (result : Result (Unit {0}) E) →
    Changes change old result new → P old → P (change old) → P new
after_call P change old new (Ok done) is without_it with_it = subst P (sym is) with_it
after_call P change old new (Err fault) is without_it with_it =
    ⊎_elim (λ same. subst P (sym same) without_it) (λ changed. subst P (sym changed) with_it) is

-- If `P` holds of `change old`, it holds of the disk after a call that is done.
pub after_done_call : {E : Type 0} (P : Disk → Type 0) (change : Disk → Disk) (old new : Disk) (result : Result (Unit {0}) E) →
    Changes change old result new → P (change old) → OnOk result (P new)
after_done_call P change old new (Ok done) is with_it = subst P (sym is) with_it
after_done_call P change old new (Err fault) is with_it = tt

-- If `k` is the index of a file in `files`, `bytes_of` gives the bytes of this file.
made_has_bytes : (files : List File) (k : ℕ) → k < length files → bytes_of files (Some k) ≡ None → ⊥
made_has_bytes [] k lt none = omega (arith, lt)
made_has_bytes (f ∷ files) zero lt none = none-some f.bytes (sym none)
made_has_bytes (f ∷ files) (suc k) lt none = made_has_bytes files k (omega (arith, lt)) none

-- A crash after a flush of names leaves no record, if a read gave none.
pub none_lasts : (path : List ℕ) (d : Disk) → IsWhole d → content path d ≡ None → Lasts path (after_flush_names d) None
none_lasts path d whole none found left = go (found_at path d.names) refl where
  -- `at` is the file that `path` names. If there were one, a read would have given its bytes.
  go : (at : Option ℕ) → found_at path d.names ≡ at → found ≡ None
  go None is = sym left.2 ∙ ap (λ (n : List Name). bytes_of left.0.files (found_at path n)) (names_left d left.0 left.1)
      ∙ ap (bytes_of left.0.files) is
  go (Some k) is = absurd (made_has_bytes d.files k
      (made_found (length d.files) path d.names k (whole.made d.names whole.now) is) (sym (ap (bytes_of d.files) is) ∙ none))

-- The disk `d` satisfies `LeavesOld` with itself.
pub old_left : (path : List ℕ) (d : Disk) → LeavesOld path d d
old_left path d found left = left

-- Let each crash of `d` leave what a crash of `old` might have left. So does each crash after a flush of a file of `d`.
pub flush_leaves : (path flushed : List ℕ) (old d : Disk) → LeavesOld path old d → LeavesOld path old (after_flush flushed d)
flush_leaves path flushed old d lefts found left = lefts found (left.0, flush_left flushed d left.0 left.1, left.2)

-- Let each crash of the whole disk `d` leave what a crash of `old` might have left. So does each crash after a flush of
-- the names of `d`.
pub names_leave : (path : List ℕ) (old d : Disk) → IsWhole d → LeavesOld path old d → LeavesOld path old (after_flush_names d)
names_leave path old d whole lefts found left = lefts found (
  left.0,
  record {
    names = subst (λ (n : List Name). In d.may_stand n) (sym (names_left d left.0 left.1)) whole.now;
    only = left.1.only;
    files = left.1.files;
  },
  left.2,
)

-- After `temporary` is removed, each crash leaves at `path`, another path, what a crash of `d` might have left.
pub remove_leaves : (temporary path : List ℕ) (d : Disk) → (temporary ≡ path → ⊥) → LeavesOld path d (after_remove temporary d)
remove_leaves temporary path d differ found left = ⊎_elim
    (λ stands. (left.0, record { names = stands; only = left.1.only; files = left.1.files }, left.2))
    (λ changed. (
      record { files = left.0.files; names = changed.0; may_stand = changed.0 ∷ [] },
      record { names = changed.1; only = refl; files = left.1.files },
      ap (bytes_of left.0.files) (sym (ap (found_at path) changed.2 ∙ found_without_other path temporary changed.0 differ))
          ∙ left.2,
    ))
    (change_left (without temporary) d left.0 left.1)

-- ---- a load

-- If the disk `read` satisfies `IsOld`, so does the disk after a flush of the record's file, done or failed.
pub flush_keeps : {E : Type 0} (path : List ℕ) (old read flushed : Disk) (result : Result (Unit {0}) E) →
    IsOld path old read → Changes (after_flush path) read result flushed → IsOld path old flushed
flush_keeps path old read flushed result kept changes =
    after_call (IsOld path old) (after_flush path) read flushed result changes kept
    (flush_is_not_read path path read ∙ kept.0, flush_leaves path path old read kept.1)

-- If the whole disk `flushed` satisfies `IsOld`, so does the disk after a flush of the names, done or failed.
pub names_keep : {E : Type 0} (path : List ℕ) (old flushed last : Disk) (result : Result (Unit {0}) E) → IsWhole flushed →
    IsOld path old flushed → Changes after_flush_names flushed result last → IsOld path old last
names_keep path old flushed last result whole kept changes =
    after_call (IsOld path old) after_flush_names flushed last result changes kept
    (kept.0, names_leave path old flushed whole kept.1)

-- A record that was read lasts after its file and the names were flushed.
pub load_lasts : (path : List ℕ) (old read flushed last : Disk) → read ≡ old → flushed ≡ after_flush path read →
    last ≡ after_flush_names flushed → Lasts path last (content path old)
load_lasts path old read flushed last same flush names =
    subst (λ (d : Disk). Lasts path d (content path old)) (sym (names ∙ ap after_flush_names flush))
    (λ found left. flushes_last path read found left ∙ ap (content path) same)

-- If there is no record, each crash after a flush of the names leaves none.
pub no_load_lasts : (path : List ℕ) (old read last : Disk) → read ≡ old → IsWhole read → content path old ≡ None →
    last ≡ after_flush_names read → Lasts path last (content path old)
no_load_lasts path old read last same whole none names =
    subst (λ (d : Disk). Lasts path d (content path old)) (sym names)
    (λ found left. none_lasts path read whole (ap (content path) same ∙ none) found left ∙ sym none)

-- ---- a load that ends at a call

-- On a correct disk, at each moment from `old` to `new`, a read and each crash give the old record.
pub record HasKept (path : List ℕ) (old new : DiskState) : Type 0 where
  pub moments : old.is_correct ≡ true → Throughout (IsOld path old.now) old new
  pub correct : new.is_correct ≡ old.is_correct

-- A read satisfies `HasKept`, done or failed.
pub read_has_kept : {X E : Type 0} {bytes_of : X → List ℕ} {path : List ℕ} {old read : DiskState}
    {answer : Result (Option X) E} → Answers (Reads bytes_of path) old answer read → HasKept path old read
read_has_kept {path = path} {old = old} reads = record {
  moments = λ h. one_more_call (throughout_nothing (refl, old_left path old.now)) (reads.past h) (
    ap (content path) (reads.done h).same,
    subst (LeavesOld path old.now) (sym (reads.done h).same) (old_left path old.now),
  );
  correct = reads.correct;
}

-- If `HasKept` holds, it holds after a flush of the file of the record, done or failed.
pub flush_has_kept : {E : Type 0} {path : List ℕ} {old read flushed : DiskState} {answer : Result (Unit {0}) E} →
    HasKept path old read → Answers (Changes (after_flush path)) read answer flushed → HasKept path old flushed
flush_has_kept {path = path} {old = old} {read = read} {flushed = flushed} {answer = answer} so_far flushes = record {
  moments = λ h. one_more_call (so_far.moments h) (flushes.past (so_far.correct ∙ h))
      (flush_keeps path old.now read.now flushed.now
      answer (so_far.moments h).last (flushes.done (so_far.correct ∙ h)));
  correct = flushes.correct ∙ so_far.correct;
}

-- If `HasKept` holds, it holds after a flush of the names, done or failed.
pub names_have_kept : {E : Type 0} {path : List ℕ} {old flushed last : DiskState} {answer : Result (Unit {0}) E} →
    HasKept path old flushed → Answers (Changes after_flush_names) flushed answer last → HasKept path old last
names_have_kept {path = path} {old = old} {flushed = flushed} {last = last} {answer = answer} so_far flushes = record {
  moments = λ h. one_more_call (so_far.moments h) (flushes.past (so_far.correct ∙ h))
      (names_keep path old.now flushed.now last.now
      answer (flushes.whole (so_far.correct ∙ h)) (so_far.moments h).last (flushes.done (so_far.correct ∙ h)));
  correct = flushes.correct ∙ so_far.correct;
}

-- If `HasKept` holds up to the end of a load that answers `Err`, the load satisfies `DiskLoads`.
pub load_fails : {X E : Type 0} {bytes_of : X → List ℕ} {path : List ℕ} {old last : DiskState}
    {answer : Result (Option X) E} → IsErr answer → HasKept path old last → DiskLoads bytes_of path old answer last
load_fails {answer = Ok found} is so_far = absurd (true≢false (sym is))
load_fails {answer = Err fault} is so_far = record {
  loaded = λ h. tt;
  lasts = λ h. tt;
  moments = so_far.moments;
  correct = so_far.correct;
}

-- If a read gives no record, and the names are flushed, the load that answers `None` satisfies `DiskLoads`.
pub no_record_loads : {X E : Type 0} {bytes_of : X → List ℕ} {path : List ℕ} {old read last : DiskState}
    {found : Option X} {done : Unit {0}} → found ≡ None → Answers {E = E} (Reads bytes_of path) old (Ok found) read →
    Answers {E = E} (Changes after_flush_names) read (Ok done) last → DiskLoads {E = E} bytes_of path old (Ok None) last
no_record_loads {bytes_of = bytes_of} {path = path} {old = old} {read = read} {last = last} is reads flushes =
    let so_far = names_have_kept (read_has_kept reads) flushes in
    let gives : old.is_correct ≡ true → None ≡ content path old.now =
    λ h. sym (ap (option_map bytes_of) is) ∙ (reads.done h).bytes in record {
      loaded = gives;
      lasts = λ h. no_load_lasts path old.now read.now last.now (reads.done h).same (flushes.whole (reads.correct ∙ h))
          (sym (gives h)) (flushes.done (reads.correct ∙ h));
      moments = so_far.moments;
      correct = so_far.correct;
    }

-- If a read gives `saved`, and its file and the names are flushed, the load that answers `saved` satisfies `DiskLoads`.
pub record_loads : {X E : Type 0} {bytes_of : X → List ℕ} {path : List ℕ} {old read flushed last : DiskState}
    {found : Option X} {saved : X} {one two : Unit {0}} → found ≡ Some saved →
    Answers {E = E} (Reads bytes_of path) old (Ok found) read →
    Answers {E = E} (Changes (after_flush path)) read (Ok one) flushed →
    Answers {E = E} (Changes after_flush_names) flushed (Ok two) last →
    DiskLoads {E = E} bytes_of path old (Ok (Some saved)) last
record_loads {bytes_of = bytes_of} {path = path} {old = old} {read = read} {flushed = flushed} {last = last} is reads
    flushes names =
    let so_far = names_have_kept (flush_has_kept (read_has_kept reads) flushes) names in record {
      loaded = λ h. sym (ap (option_map bytes_of) is) ∙ (reads.done h).bytes;
      lasts = λ h. load_lasts path old.now read.now flushed.now last.now (reads.done h).same
          (flushes.done (reads.correct ∙ h)) (names.done (flushes.correct ∙ reads.correct ∙ h));
      moments = so_far.moments;
      correct = so_far.correct;
    }

-- ---- a save, after an older new file was removed

-- The disk `d` is whole, and has the old record. A read gives what a read of the disk `first` gave. A crash leaves what
-- a crash of `first` might have left.
module _ (temporary path bytes : List ℕ) (first d : Disk) (whole : IsWhole d) (differ : temporary ≡ path → ⊥)
    (reads : content path d ≡ content path first) (lefts : LeavesOld path first d) where
  -- A read of the disk gives the old record or the new one, and so does each crash.
  abbrev pub IsFine : Disk → Type 0
  IsFine = IsOldOrNew path bytes first

  -- A disk whose reads and crashes give an old record is fine.
  old_fine : (x : Disk) → content path x ≡ content path d → LeavesOld path d x → IsFine x
  old_fine x same left = (inl (same ∙ reads), λ found gives. inl (lefts found (left found gives)))

  -- A crash after a new file of any bytes is made leaves an old record.
  create_leaves : (some : List ℕ) → LeavesOld path d (after_create temporary some d)
  create_leaves some found left = subst (Leaves d path) left.2 (created_left temporary path some d whole differ left.0 left.1)

  -- A disk with a new file of any bytes is fine.
  created_fine : (some : List ℕ) → IsFine (after_create temporary some d)
  created_fine some = old_fine (after_create temporary some d) (create_elsewhere temporary path some d whole differ)
      (create_leaves some)

  -- Each disk on the way leaves an old record or the new one.
  way_left : (x : Disk) → In (on_the_way temporary path bytes d) x → LeavesOldOr path bytes first x
  way_left x on_way found left = ⊎_elim (λ old. inl (lefts found old)) inr
      (save_moments temporary path bytes d whole differ x on_way found left)

  -- A read of each disk on the way gives the old record or the new one. The cases are `d`, and the disk after each
  -- call: making, flush and rename of the new file, flush of the names.
  way_read : (x : Disk) → In (on_the_way temporary path bytes d) x → ReadsOldOr path bytes first x
  way_read x (inl is) = inl (ap (content path) is ∙ reads)
  way_read x (inr (inl is)) = inl (ap (content path) is ∙ create_elsewhere temporary path bytes d whole differ ∙ reads)
  way_read x (inr (inr (inl is))) = inl (ap (content path) is
      ∙ flush_is_not_read path temporary (after_create temporary bytes d) ∙ create_elsewhere temporary path bytes d whole differ
      ∙ reads)
  way_read x (inr (inr (inr (inl is)))) = inr (ap (content path) is ∙ save_is_read temporary path bytes d whole differ)
  way_read x (inr (inr (inr (inr (inl is))))) = inr (ap (content path) is ∙ save_is_read temporary path bytes d whole differ)
  way_read x (inr (inr (inr (inr (inr none))))) = absurd none

  -- Each disk on the way is fine.
  pub way_fine : (x : Disk) → In (on_the_way temporary path bytes d) x → IsFine x
  way_fine x on_way = (way_read x on_way, way_left x on_way)

  -- The disk after a new file is made, or was not, is fine.
  pub creates_fine : {E : Type 0} (x : Disk) (result : Result (Unit {0}) E) → Creates temporary bytes d result x → IsFine x
  creates_fine x (Ok done) is = subst IsFine (sym is) (created_fine bytes)
  creates_fine x (Err fault) is = ⊎_elim
      (λ same. subst IsFine (sym same) (old_fine d refl (old_left path d)))
      (λ made. subst IsFine (sym made.1) (created_fine made.0)) is

-- ---- a new record is placed

-- On a whole disk `d` the new record `bytes` is placed: a file is made at `temporary`, flushed, and renamed to `path`.
module _ (temporary path bytes : List ℕ) (d : Disk) (differ : temporary ≡ path → ⊥) (whole : IsWhole d) where
  -- Each disk on the way of a save has the old record or the new one.
  on_way : (last : Disk) → In (on_the_way temporary path bytes d) last → IsOldOrNew path bytes d last
  on_way last is = way_fine temporary path bytes d d whole differ refl (old_left path d) last is

  -- The disk after the new file was made, or was not, has the old record or the new one.
  pub after_making : {E : Type 0} (made : Disk) (result : Result (Unit {0}) E) → Creates temporary bytes d result made
      → IsOldOrNew path bytes d made
  after_making made result is = creates_fine temporary path bytes d d whole differ refl (old_left path d) made result is

  -- The disk after the new file was flushed, or was not, has the old record or the new one.
  pub after_flushing : {E : Type 0} (made flushed : Disk) (result : Result (Unit {0}) E) →
      made ≡ after_create temporary bytes d → Changes (after_flush temporary) made result flushed
      → IsOldOrNew path bytes d flushed
  after_flushing made flushed result is changes =
      on_way flushed (after_call (In (on_the_way temporary path bytes d)) (after_flush temporary) made flushed result changes
      (inr (inl is)) (inr (inr (inl (ap (after_flush temporary) is)))))

  -- The disk after the new file was renamed, or was not, has the old record or the new one. By `here` the disk
  -- `flushed` is the third on the way.
  pub after_renaming : {E : Type 0} (made flushed renamed : Disk) (result : Result (Unit {0}) E) →
      made ≡ after_create temporary bytes d → flushed ≡ after_flush temporary made →
      Changes (after_rename temporary path) flushed result renamed → IsOldOrNew path bytes d renamed
  after_renaming made flushed renamed result is flush changes =
      let here = flush ∙ ap (after_flush temporary) is in
      on_way renamed (after_call (In (on_the_way temporary path bytes d)) (after_rename temporary path) flushed renamed result
      changes (inr (inr (inl here))) (inr (inr (inr (inl (ap (after_rename temporary path) here))))))

  -- The disk after the names were flushed, or were not, has the old record or the new one.
  pub after_flushing_names : {E : Type 0} (placed last : Disk) (result : Result (Unit {0}) E) →
      placed ≡ after_placing temporary path bytes d → Changes after_flush_names placed result last →
      IsOldOrNew path bytes d last
  after_flushing_names placed last result is changes =
      on_way last (after_call (In (on_the_way temporary path bytes d)) after_flush_names placed last result changes
      (inr (inr (inr (inl is)))) (inr (inr (inr (inr (inl (ap after_flush_names is)))))))

-- The bytes of a save last after the new record was placed, and the names were flushed.
pub save_is_done : {E : Type 0} (temporary path bytes : List ℕ) (d placed last : Disk) (result : Result (Unit {0}) E) →
    IsWhole d → (temporary ≡ path → ⊥) → placed ≡ after_placing temporary path bytes d →
    Changes after_flush_names placed result last → OnOk result (Lasts path last (Some bytes))
save_is_done temporary path bytes d placed last result whole differ is names =
    after_done_call (λ (x : Disk). Lasts path x (Some bytes)) after_flush_names placed last result names
    (subst (λ (x : Disk). Lasts path (after_flush_names x) (Some bytes)) (sym is)
    (save_lasts temporary path bytes d whole differ))

-- A read gives the bytes of a save after the new record was placed, and the names were flushed.
pub save_is_seen : {E : Type 0} (temporary path bytes : List ℕ) (d placed last : Disk) (result : Result (Unit {0}) E) →
    IsWhole d → (temporary ≡ path → ⊥) → placed ≡ after_placing temporary path bytes d →
    Changes after_flush_names placed result last → OnOk result (content path last ≡ Some bytes)
save_is_seen temporary path bytes d placed last result whole differ is names =
    after_done_call (λ (x : Disk). content path x ≡ Some bytes) after_flush_names placed last result names
    (subst (λ (x : Disk). content path (after_flush_names x) ≡ Some bytes) (sym is)
    (save_is_read temporary path bytes d whole differ))

-- ---- the calls of a placing

-- On a correct disk, at each moment from `old` to `new`, a read and each crash give the old record or `bytes`.
pub record HasSaved (path bytes : List ℕ) (old new : DiskState) : Type 0 where
  pub moments : old.is_correct ≡ true → Throughout (IsOldOrNew path bytes old.now) old new
  pub correct : new.is_correct ≡ old.is_correct

-- A new file was made, or was not.
module _ {E : Type 0} {temporary path bytes : List ℕ} {old made : DiskState} {making : Result (Unit {0}) E}
    (differ : temporary ≡ path → ⊥) (creates : Answers (Creates temporary bytes) old making made) where
  -- `HasSaved` holds up to the making of the new file, done or failed.
  so_made : HasSaved path bytes old made
  so_made = record {
    moments = λ h. one_more_call {now = old} (throughout_nothing {old = old} (inl refl, λ found left. inl left)) (creates.past h)
        (after_making temporary path bytes old.now differ (creates.whole h) made.now making (creates.done h));
    correct = creates.correct;
  }

  -- A placing that ends because the making of the new file failed satisfies `DiskPlaces`.
  pub making_fails : {answer : Result (Unit {0}) E} → IsErr answer → DiskPlaces temporary path bytes old answer made
  making_fails {answer = Ok done} is = absurd (true≢false (sym is))
  making_fails {answer = Err fault} is = record {
    placed = λ h. tt;
    moments = so_made.moments;
    whole = creates.whole;
    correct = so_made.correct;
  }

-- The new file was made. It was flushed, or was not.
module _ {E : Type 0} {temporary path bytes : List ℕ} {old made flushed : DiskState} {flushing : Result (Unit {0}) E}
    {one : Unit {0}} (differ : temporary ≡ path → ⊥) (creates : Answers {E = E} (Creates temporary bytes) old (Ok one) made)
    (flushes : Answers (Changes (after_flush temporary)) made flushing flushed) where
  -- `HasSaved` holds up to the flush of the new file, done or failed.
  so_flushed : HasSaved path bytes old flushed
  so_flushed =
      let before : HasSaved path bytes old made = so_made differ creates in record {
        moments = λ h. one_more_call (before.moments h) (flushes.past (creates.correct ∙ h))
            (after_flushing temporary path bytes old.now differ (creates.whole h) made.now flushed.now flushing (creates.done h)
            (flushes.done (creates.correct ∙ h)));
        correct = flushes.correct ∙ creates.correct;
      }

  -- A placing that ends because the flush of the new file failed satisfies `DiskPlaces`.
  pub flushing_fails : {answer : Result (Unit {0}) E} → IsErr answer → DiskPlaces temporary path bytes old answer flushed
  flushing_fails {answer = Ok done} is = absurd (true≢false (sym is))
  flushing_fails {answer = Err fault} is = record {
    placed = λ h. tt;
    moments = so_flushed.moments;
    whole = creates.whole;
    correct = so_flushed.correct;
  }

-- The new file was made, and flushed. It was renamed, or was not.
module _ {E : Type 0} {temporary path bytes : List ℕ} {old made flushed renamed : DiskState} {renaming : Result (Unit {0}) E}
    {one two : Unit {0}} (differ : temporary ≡ path → ⊥)
    (creates : Answers {E = E} (Creates temporary bytes) old (Ok one) made)
    (flushes : Answers {E = E} (Changes (after_flush temporary)) made (Ok two) flushed)
    (renames : Answers (Changes (after_rename temporary path)) flushed renaming renamed) where
  -- If the disk `old` is correct, so is the disk after the new file was flushed.
  still_correct : old.is_correct ≡ true → flushed.is_correct ≡ true
  still_correct h = flushes.correct ∙ creates.correct ∙ h

  -- If the disk `old` is correct, the flush of the new file changed the disk `made` as it says.
  flushed_is : old.is_correct ≡ true → flushed.now ≡ after_flush temporary made.now
  flushed_is h = flushes.done (creates.correct ∙ h)

  -- A placing that ends with the answer of the rename, done or failed, satisfies `DiskPlaces`.
  pub placing_ends : DiskPlaces temporary path bytes old renaming renamed
  placing_ends =
      let before : HasSaved path bytes old flushed = so_flushed differ creates flushes in record {
        placed = λ h. after_done_call (λ (x : Disk). x ≡ after_placing temporary path bytes old.now) (after_rename temporary path)
            flushed.now renamed.now renaming (renames.done (still_correct h))
            (ap (after_rename temporary path) (flushed_is h ∙ ap (after_flush temporary) (creates.done h)));
        moments = λ h. one_more_call (before.moments h) (renames.past (still_correct h))
            (after_renaming temporary path bytes old.now differ (creates.whole h) made.now flushed.now renamed.now renaming
            (creates.done h) (flushed_is h) (renames.done (still_correct h)));
        whole = creates.whole;
        correct = renames.correct ∙ flushes.correct ∙ creates.correct;
      }

-- ---- the calls of a save

-- A look-up satisfies `HasKept`, done or failed.
pub look_up_has_kept : {E : Type 0} {path : List ℕ} {old looked : DiskState} {answer : Result (Unit {0}) E} →
    Answers (Changes unchanged) old answer looked → HasKept path old looked
look_up_has_kept {path = path} {old = old} {looked = looked} {answer = answer} looks = record {
  moments = λ h. one_more_call (throughout_nothing (refl, old_left path old.now)) (looks.past h)
      (after_call (IsOld path old.now) unchanged
      old.now looked.now answer (looks.done h) (refl, old_left path old.now) (refl, old_left path old.now));
  correct = looks.correct;
}

-- If `HasKept` holds, it holds after a removal at another path `temporary`, done or failed.
pub remove_has_kept : {E : Type 0} {temporary path : List ℕ} {old looked cleared : DiskState} {answer : Result (Unit {0}) E} →
    (temporary ≡ path → ⊥) → HasKept path old looked → Answers (Changes (after_remove temporary)) looked answer cleared →
    HasKept path old cleared
remove_has_kept {temporary = temporary} {path = path} {old = old} {looked = looked} {cleared = cleared} {answer = answer} differ
    so_far removes = record {
      moments = λ h. one_more_call (so_far.moments h) (removes.past (so_far.correct ∙ h)) (after_call (IsOld path old.now)
          (after_remove temporary) looked.now cleared.now answer (removes.done (so_far.correct ∙ h)) (so_far.moments h).last (
            remove_elsewhere temporary path looked.now differ ∙ (so_far.moments h).last.0,
            λ found left. (so_far.moments h).last.1 found (remove_leaves temporary path looked.now differ found left),
          ));
      correct = removes.correct ∙ so_far.correct;
    }

-- If the disk `d` satisfies `IsOld`, it satisfies `IsOldOrNew`.
old_is_fine : (path bytes : List ℕ) (old d : Disk) → IsOld path old d → IsOldOrNew path bytes old d
old_is_fine path bytes old d kept = (inl kept.0, λ found left. inl (kept.1 found left))

-- If `d` satisfies `IsOld`, and `x` has the record of `d` or the new one, `x` satisfies `IsOldOrNew`.
old_then_fine : (path bytes : List ℕ) (old d : Disk) → IsOld path old d → (x : Disk) → IsOldOrNew path bytes d x →
    IsOldOrNew path bytes old x
old_then_fine path bytes old d kept x fine = (
  ⊎_elim (λ same. inl (same ∙ kept.0)) inr fine.0,
  λ found left. ⊎_elim (λ was. inl (kept.1 found was)) inr (fine.1 found left),
)

-- If the disk `d` satisfies `IsOldOrNew`, so does the disk after another path `temporary` is removed.
fine_without : (temporary path bytes : List ℕ) (old d : Disk) → (temporary ≡ path → ⊥) → IsOldOrNew path bytes old d →
    IsOldOrNew path bytes old (after_remove temporary d)
fine_without temporary path bytes old d differ fine = (
  ⊎_elim (λ same. inl (remove_elsewhere temporary path d differ ∙ same))
      (λ is. inr (remove_elsewhere temporary path d differ ∙ is))
      fine.0,
  λ found left. fine.1 found (remove_leaves temporary path d differ found left),
)

-- If `HasKept` holds up to the end of a save that answers `Err`, the save satisfies `DiskSaves`.
pub early_save_fails : {E : Type 0} {path bytes : List ℕ} {old last : DiskState} {answer : Result (Unit {0}) E} →
    IsErr answer → HasKept path old last → DiskSaves path bytes old answer last
early_save_fails {answer = Ok done} is so_far = absurd (true≢false (sym is))
early_save_fails {path = path} {bytes = bytes} {old = old} {answer = Err fault} is so_far = record {
  saved = λ h. tt;
  lasts = λ h. tt;
  moments = λ h. holds_too (old_is_fine path bytes old.now) (so_far.moments h);
  correct = so_far.correct;
}

-- The old record was kept until a new one was placed, or was not.
module _ {E : Type 0} {temporary path bytes : List ℕ} {old cleared placed : DiskState} {placing : Result (Unit {0}) E}
    (so_far : HasKept path old cleared) (places : DiskPlaces temporary path bytes cleared placing placed) where
  -- If the disk `old` is correct, so is the disk after `temporary` was removed.
  was_correct : old.is_correct ≡ true → cleared.is_correct ≡ true
  was_correct h = so_far.correct ∙ h

  -- `HasSaved` holds up to the placing of the new record, done or failed.
  so_placed : HasSaved path bytes old placed
  so_placed = record {
    moments = λ h. joins (holds_too (old_is_fine path bytes old.now) (so_far.moments h))
        (holds_too (old_then_fine path bytes old.now cleared.now (so_far.moments h).last) (places.moments (was_correct h)));
    correct = places.correct ∙ so_far.correct;
  }

-- A save whose placing failed, and which then removes what stands at `temporary`, satisfies `DiskSaves`. The removal
-- may fail.
pub save_fails : {D E : Type 0} {temporary path bytes : List ℕ} {old cleared placed last : DiskState} {fault : E}
    {removal : Result (Unit {0}) D} → (temporary ≡ path → ⊥) → HasKept path old cleared →
    DiskPlaces {E = E} temporary path bytes cleared (Err fault) placed →
    Answers (Changes (after_remove temporary)) placed removal last → DiskSaves {E = E} path bytes old (Err fault) last
save_fails {temporary = temporary} {path = path} {bytes = bytes} {old = old} {placed = placed} {last = last} {removal = removal}
    differ so_far places removes =
    let before : HasSaved path bytes old placed = so_placed so_far places in record {
      saved = λ h. tt;
      lasts = λ h. tt;
      moments = λ h. one_more_call (before.moments h) (removes.past (before.correct ∙ h))
          (after_call (IsOldOrNew path bytes old.now) (after_remove temporary) placed.now last.now removal
          (removes.done (before.correct ∙ h)) (before.moments h).last
          (fine_without temporary path bytes old.now placed.now differ (before.moments h).last));
      correct = removes.correct ∙ before.correct;
    }

-- A save that has placed the new record, and answers as the flush of the names, satisfies `DiskSaves`.
pub save_ends : {E : Type 0} {temporary path bytes : List ℕ} {old cleared placed last : DiskState}
    {ending : Result (Unit {0}) E} {one : Unit {0}} → (temporary ≡ path → ⊥) → HasKept path old cleared →
    DiskPlaces {E = E} temporary path bytes cleared (Ok one) placed →
    Answers (Changes after_flush_names) placed ending last → DiskSaves path bytes old ending last
save_ends {temporary = temporary} {path = path} {bytes = bytes} {old = old} {cleared = cleared} {placed = placed} {last = last}
    {ending = ending} differ so_far places names =
    let before : HasSaved path bytes old placed = so_placed so_far places in record {
      saved = λ h. save_is_seen temporary path bytes cleared.now placed.now last.now ending (places.whole (so_far.correct ∙ h))
          differ (places.placed (so_far.correct ∙ h)) (names.done (before.correct ∙ h));
      lasts = λ h. save_is_done temporary path bytes cleared.now placed.now last.now ending (places.whole (so_far.correct ∙ h))
          differ (places.placed (so_far.correct ∙ h)) (names.done (before.correct ∙ h));
      moments = λ h. one_more_call (before.moments h) (names.past (before.correct ∙ h))
          (old_then_fine path bytes old.now cleared.now (so_far.moments h).last last.now
          (after_flushing_names temporary path bytes cleared.now differ (places.whole (so_far.correct ∙ h)) placed.now last.now
          ending (places.placed (so_far.correct ∙ h)) (names.done (before.correct ∙ h))));
      correct = names.correct ∙ before.correct;
    }

-- ---- a store that answers as its disk did

-- Let the paths `p` and `q`, the disks `a` and `b`, and the disks `d` and `e` be equal.
-- A load that is done at `p`, from `a` to `d`, is also one at `q`, from `b` to `e`. The type of the faults may differ.
pub done_load_at : {X E F : Type 0} {bytes_of : X → List ℕ} {p q : List ℕ} {a b d e : DiskState} {found : Option X} →
    p ≡ q → a ≡ b → d ≡ e → DiskLoads {E = E} bytes_of p a (Ok found) d → DiskLoads {E = F} bytes_of q b (Ok found) e
done_load_at {F = F} {bytes_of = bytes_of} {p = p} {a = a} {b = b} {e = e} {found = found} path old new loads =
    subst (λ (r : List ℕ). DiskLoads {E = F} bytes_of r b (Ok found) e) path
    (subst (λ (x : DiskState). DiskLoads {E = F} bytes_of p x (Ok found) e) old
    (subst (λ (x : DiskState). DiskLoads {E = F} bytes_of p a (Ok found) x) new (record {
      loaded = loads.loaded;
      lasts = loads.lasts;
      moments = loads.moments;
      correct = loads.correct;
    })))

-- Let the paths `p` and `q`, the disks `a` and `b`, and the disks `d` and `e` be equal.
-- A load that failed at `p`, from `a` to `d`, is also one at `q`, from `b` to `e`. The fault may be any (`other`).
pub failed_load_at : {X E F : Type 0} {bytes_of : X → List ℕ} {p q : List ℕ} {a b d e : DiskState} {fault : E}
    {other : F} → p ≡ q → a ≡ b → d ≡ e → DiskLoads bytes_of p a (Err fault) d → DiskLoads bytes_of q b (Err other) e
failed_load_at {bytes_of = bytes_of} {p = p} {a = a} {b = b} {e = e} {other = other} path old new loads =
    subst (λ (r : List ℕ). DiskLoads bytes_of r b (Err other) e) path
    (subst (λ (x : DiskState). DiskLoads bytes_of p x (Err other) e) old
    (subst (λ (x : DiskState). DiskLoads bytes_of p a (Err other) x) new (record {
      loaded = loads.loaded;
      lasts = loads.lasts;
      moments = loads.moments;
      correct = loads.correct;
    })))

-- Let the paths `p` and `q`, the disks `a` and `b`, and the disks `d` and `e` be equal.
-- A save that is done at `p`, from `a` to `d`, is also one at `q`, from `b` to `e`. The type of the faults may differ.
pub done_save_at : {E F : Type 0} {p q bytes : List ℕ} {a b d e : DiskState} {done : Unit {0}} → p ≡ q → a ≡ b → d ≡ e →
    DiskSaves {E = E} p bytes a (Ok done) d → DiskSaves {E = F} q bytes b (Ok done) e
done_save_at {F = F} {p = p} {bytes = bytes} {a = a} {b = b} {e = e} {done = done} path old new saves =
    subst (λ (r : List ℕ). DiskSaves {E = F} r bytes b (Ok done) e) path
    (subst (λ (x : DiskState). DiskSaves {E = F} p bytes x (Ok done) e) old
    (subst (λ (x : DiskState). DiskSaves {E = F} p bytes a (Ok done) x) new (record {
      saved = saves.saved;
      lasts = saves.lasts;
      moments = saves.moments;
      correct = saves.correct;
    })))

-- Let the paths `p` and `q`, the disks `a` and `b`, and the disks `d` and `e` be equal.
-- A save that failed at `p`, from `a` to `d`, is also one at `q`, from `b` to `e`. The fault may be any (`other`).
pub failed_save_at : {E F : Type 0} {p q bytes : List ℕ} {a b d e : DiskState} {fault : E} {other : F} → p ≡ q →
    a ≡ b → d ≡ e → DiskSaves p bytes a (Err fault) d → DiskSaves q bytes b (Err other) e
failed_save_at {p = p} {bytes = bytes} {a = a} {b = b} {e = e} {other = other} path old new saves =
    subst (λ (r : List ℕ). DiskSaves r bytes b (Err other) e) path
    (subst (λ (x : DiskState). DiskSaves p bytes x (Err other) e) old
    (subst (λ (x : DiskState). DiskSaves p bytes a (Err other) x) new (record {
      saved = saves.saved;
      lasts = saves.lasts;
      moments = saves.moments;
      correct = saves.correct;
    })))

-- A load that fails before its first call, and leaves the disk as it was, satisfies `DiskLoads`.
pub no_call_loads : {X E : Type 0} {bytes_of : X → List ℕ} {path : List ℕ} {old new : DiskState} {fault : E} → new ≡ old →
    DiskLoads bytes_of path old (Err fault) new
no_call_loads {bytes_of = bytes_of} {path = path} {old = old} {fault = fault} same =
    subst (λ (d : DiskState). DiskLoads bytes_of path old (Err fault) d) (sym same) (record {
      loaded = λ h. tt;
      lasts = λ h. tt;
      moments = λ h. throughout_nothing (refl, old_left path old.now);
      correct = refl;
    })

-- A save that fails before its first call, and leaves the disk as it was, satisfies `DiskSaves`.
pub no_call_saves : {E : Type 0} {path bytes : List ℕ} {old new : DiskState} {fault : E} → new ≡ old →
    DiskSaves path bytes old (Err fault) new
no_call_saves {path = path} {bytes = bytes} {old = old} {fault = fault} same =
    subst (λ (d : DiskState). DiskSaves path bytes old (Err fault) d) (sym same) (record {
      saved = λ h. tt;
      lasts = λ h. tt;
      moments = λ h. throughout_nothing (inl refl, λ found left. inl left);
      correct = refl;
    })

-- ---- what a loss of power leaves in a store

-- After a load on a correct disk, a loss of power leaves the record that was read. If the load failed, it leaves what
-- it might have left before.
pub load_leaves : {X : Type 0} {bytes_of : X → List ℕ} {p q : List ℕ} {old new : DiskState}
    {answer : Result (Option X) StoreFault} → q ≡ p → DiskLoads bytes_of p old answer new → old.is_correct ≡ true →
    LoadLasts (content p old.now) (Leaves old.now p) answer (Leaves new.now q)
load_leaves {new = new} {answer = Ok found} same loads h = λ left leaves.
    loads.lasts h left (subst (λ (r : List ℕ). Leaves new.now r left) same leaves)
load_leaves {new = new} {answer = Err fault} same loads h = λ left leaves.
    (loads.moments h).last.1 left (subst (λ (r : List ℕ). Leaves new.now r left) same leaves)

-- After a save on a correct disk, a loss of power leaves the new record. If the save failed, it leaves this or what it
-- might have left before.
pub save_leaves : {p q bytes : List ℕ} {old new : DiskState} {answer : Result (Unit {0}) StoreFault} → q ≡ p →
    DiskSaves p bytes old answer new → old.is_correct ≡ true →
    SaveLasts bytes (Leaves old.now p) answer (Leaves new.now q)
save_leaves {new = new} {answer = Ok done} same saves h = λ left leaves.
    saves.lasts h left (subst (λ (r : List ℕ). Leaves new.now r left) same leaves)
save_leaves {new = new} {answer = Err fault} same saves h = λ left leaves.
    (saves.moments h).last.1 left (subst (λ (r : List ℕ). Leaves new.now r left) same leaves)
