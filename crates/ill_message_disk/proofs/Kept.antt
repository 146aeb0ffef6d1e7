-- Lemmas on the calls that keep bytes in a file: those that leave the file, and those that put the bytes.
use Rattle.std.proofs.Common.{◌≡◌, ◌⊎◌, inl, inr, ⊎_elim, refl, sym, ◌∙◌, ap, ℕ, ◌+◌, true, List, [], ◌∷◌, ◌++◌}
use Rattle.std.proofs.Common.{length, arith, Option, Some, None, Result, Ok, Err, OnOk, IsErr, length-append}
use Rattle.std.specs.Prelude.{codes}
use Rattle.std.proofs.lemmas.Bool.{true≢false}
use Rattle.ill_disk.specs.Disk.{Disk, IsWhole, after_flush, after_rename, bytes_of, content, found_at}
use Rattle.ill_disk.specs.Calls.{DiskState, Answers, Changes, Creates, unchanged}
use Rattle.ill_disk.proofs.Crashes.{flush_is_not_read}
use Rattle.ill_disk.proofs.Saves.{create_elsewhere, remove_elsewhere, remove_is_read, save_is_read}
use Rattle.ill_message_disk.specs.MessageFileCalls.{Clears, after_flush_name}
use Rattle.ill_message_disk.specs.Touches.{IsNoneOf}
use Rattle.ill_message_disk.specs.Keeping.{KeeperOf, LeavesFile, PutsFile, keeper_at, kept_paths}
use Rattle.ill_message_disk.proofs.Calling.{clears_touches, creates_touches, flushes_touches}
use Rattle.ill_message_disk.proofs.Steps.{change_fits, done_gives, either_way, one_touches, touches_more, touches_then}
use Rattle.ill_message_disk.proofs.Touching.{flush_name_touches, found_settled, rename_touches, touch_more, touch_self}

-- The path beside a file, with `.new` at its end, is not the path of the file: it is longer.
longer : (path : List ℕ) → path ++ codes ".new" ≡ path → ⊥
longer path same =
    let long : length (path ++ codes ".new") ≡ length path + 4 = length-append path (codes ".new") in
    let equal : length (path ++ codes ".new") ≡ length path = ap length same in omega (arith, long, equal)

-- The path beside the file of a keeper is not the path of the file.
pub beside_differs : (keeper : KeeperOf) → keeper ≡ keeper_at keeper.path → keeper.temporary ≡ keeper.path → ⊥
beside_differs keeper is same = longer keeper.path (sym (ap (λ (k : KeeperOf). k.temporary) is) ∙ same)

module _ {keeper : KeeperOf} where
  -- A call that changes nothing, done or failed, leaves the file (`LeavesFile`).
  pub look_leaves : {E : Type 0} {old new : DiskState} {answer : Result (Unit {0}) E} →
      Answers (Changes unchanged) old answer new → LeavesFile keeper old new
  look_leaves {old = old} {new = new} {answer = answer} looks = record {
    touches = one_touches (Changes unchanged) (kept_paths keeper) old answer new looks
        (change_fits (kept_paths keeper) unchanged (touch_self (kept_paths keeper)) answer);
    same = λ h. either_way (λ (d : Disk). content keeper.path d ≡ content keeper.path old.now) unchanged old.now new.now
        answer (looks.done h) refl refl;
  }

  -- A flush of the name of the file, done or failed, leaves the file.
  pub name_leaves : {E : Type 0} {old new : DiskState} {answer : Result (Unit {0}) E} →
      Answers (Changes (after_flush_name keeper.path)) old answer new → LeavesFile keeper old new
  name_leaves {old = old} {new = new} {answer = answer} flushes = record {
    touches = one_touches (Changes (after_flush_name keeper.path)) (kept_paths keeper) old answer new flushes
        (change_fits (kept_paths keeper) (after_flush_name keeper.path)
        (λ d. touch_more (keeper.path ∷ []) (kept_paths keeper) (λ p none. none.1) d (after_flush_name keeper.path d)
        (flush_name_touches keeper.path d)) answer);
    same = λ h. either_way (λ (d : Disk). content keeper.path d ≡ content keeper.path old.now)
        (after_flush_name keeper.path) old.now new.now answer (flushes.done h) refl
        (ap (bytes_of old.now.files)
        (found_settled keeper.path (found_at keeper.path old.now.names) old.now.names));
  }

-- The path beside the file is not the path of the file (`differ`).
module _ {keeper : KeeperOf} (differ : keeper.temporary ≡ keeper.path → ⊥) where
  -- A path that is neither path of the keeper is not the path beside the file.
  temporary_fits : (p : List ℕ) → IsNoneOf (kept_paths keeper) p → IsNoneOf (keeper.temporary ∷ []) p
  temporary_fits p none = (none.0, tt)

  -- A call that removes what stands beside the file leaves the file.
  pub clear_leaves : {A E : Type 0} {old new : DiskState} {answer : Result A E} →
      Answers (Clears keeper.temporary) old answer new → LeavesFile keeper old new
  clear_leaves {old = old} {new = new} clears = record {
    touches = touches_more (keeper.temporary ∷ []) (kept_paths keeper) temporary_fits old new (clears_touches clears);
    same = λ h. ⊎_elim (λ same. ap (content keeper.path) same)
        (λ removed. ap (content keeper.path) removed ∙ remove_elsewhere keeper.temporary keeper.path old.now differ)
        (clears.done h).either;
  }

  -- A call that makes a new file beside the file, done or not, leaves the content of the file.
  create_same : {E : Type 0} (bytes : List ℕ) (d e : Disk) (answer : Result (Unit {0}) E) → IsWhole d →
      Creates keeper.temporary bytes d answer e → content keeper.path e ≡ content keeper.path d
  create_same bytes d e (Ok done) whole is =
      ap (content keeper.path) is ∙ create_elsewhere keeper.temporary keeper.path bytes d whole differ
  create_same bytes d e (Err fault) whole is = ⊎_elim (λ same. ap (content keeper.path) same)
      (λ some. ap (content keeper.path) some.1 ∙ create_elsewhere keeper.temporary keeper.path some.0 d whole differ) is

  -- A call that makes a new file beside the file leaves the file.
  pub create_leaves : {E : Type 0} (bytes : List ℕ) {old new : DiskState} {answer : Result (Unit {0}) E} →
      Answers (Creates keeper.temporary bytes) old answer new → LeavesFile keeper old new
  create_leaves bytes {old = old} {new = new} {answer = answer} creates = record {
    touches = touches_more (keeper.temporary ∷ []) (kept_paths keeper) temporary_fits old new
        (creates_touches keeper.temporary bytes creates);
    same = λ h. create_same bytes old.now new.now answer (creates.whole h) (creates.done h);
  }

  -- A flush of what stands beside the file leaves the file.
  pub flush_leaves : {E : Type 0} {old new : DiskState} {answer : Result (Unit {0}) E} →
      Answers (Changes (after_flush keeper.temporary)) old answer new → LeavesFile keeper old new
  flush_leaves {old = old} {new = new} {answer = answer} flushes = record {
    touches = flushes_touches keeper.temporary (kept_paths keeper) flushes;
    same = λ h. either_way (λ (d : Disk). content keeper.path d ≡ content keeper.path old.now) (after_flush keeper.temporary)
        old.now new.now answer (flushes.done h) refl (flush_is_not_read keeper.path keeper.temporary old.now);
  }

  -- Let a new file of `bytes` be made beside the file, and flushed. Then its rename over the file, done or not, puts
  -- `bytes`.
  pub rename_puts : {E : Type 0} {bytes : List ℕ} {old made flushed new : DiskState} {one two : Unit {0}}
      {answer : Result (Unit {0}) E} → Answers {E = E} (Creates keeper.temporary bytes) old (Ok one) made →
      Answers {E = E} (Changes (after_flush keeper.temporary)) made (Ok two) flushed →
      Answers (Changes (after_rename keeper.temporary keeper.path)) flushed answer new →
      PutsFile keeper (Some bytes) old answer new
  rename_puts {bytes = bytes} {old = old} {made = made} {flushed = flushed} {new = new} {answer = answer} creates flushes
      renames =
      let first : LeavesFile keeper old made = create_leaves bytes creates in
      let second : LeavesFile keeper made flushed = flush_leaves flushes in
      let is_made : old.is_correct ≡ true → made.is_correct ≡ true = λ h. creates.correct ∙ h in
      let is_flushed : old.is_correct ≡ true → flushed.is_correct ≡ true = λ h. flushes.correct ∙ creates.correct ∙ h in
      let reads : old.is_correct ≡ true →
      content keeper.path (after_rename keeper.temporary keeper.path flushed.now) ≡ Some bytes =
      λ h. ap (λ (d : Disk). content keeper.path (after_rename keeper.temporary keeper.path d))
      (flushes.done (is_made h) ∙ ap (after_flush keeper.temporary) (creates.done h))
      ∙ save_is_read keeper.temporary keeper.path bytes old.now (creates.whole h) differ in record {
        touches = touches_then (kept_paths keeper) old made new first.touches
            (touches_then (kept_paths keeper) made flushed new second.touches
            (one_touches (Changes (after_rename keeper.temporary keeper.path)) (kept_paths keeper) flushed answer new renames
            (change_fits (kept_paths keeper) (after_rename keeper.temporary keeper.path)
            (rename_touches keeper.temporary keeper.path) answer)));
        done = λ h. done_gives (λ (d : Disk). content keeper.path d ≡ Some bytes)
            (after_rename keeper.temporary keeper.path) flushed.now new.now answer (renames.done (is_flushed h)) (reads h);
        either = λ h. either_way (λ (d : Disk). (content keeper.path d ≡ content keeper.path old.now)
            ⊎ (content keeper.path d ≡ Some bytes)) (after_rename keeper.temporary keeper.path) flushed.now new.now answer
            (renames.done (is_flushed h)) (inl (second.same (is_made h) ∙ first.same h)) (inr (reads h));
      }

-- If two calls, one after the other, leave the file, both together do.
pub leaves_then : {keeper : KeeperOf} {a b c : DiskState} → LeavesFile keeper a b → LeavesFile keeper b c →
    LeavesFile keeper a c
leaves_then {keeper = keeper} {a = a} {b = b} {c = c} first second = record {
  touches = touches_then (kept_paths keeper) a b c first.touches second.touches;
  same = λ h. second.same (first.touches.correct ∙ h) ∙ first.same h;
}

-- If a call fails and leaves the file, it answers as `PutsFile` says.
pub puts_nothing : {A E : Type 0} {keeper : KeeperOf} {bytes : Option (List ℕ)} {old new : DiskState}
    {answer : Result A E} → IsErr answer → LeavesFile keeper old new → PutsFile keeper bytes old answer new
puts_nothing {answer = Ok done} is leaves = absurd (true≢false (sym is))
puts_nothing {answer = Err fault} is leaves = record {
  touches = leaves.touches;
  done = λ h. tt;
  either = λ h. inl (leaves.same h);
}

-- Let the file be left from `a` to `b`. Then a call that puts bytes from `b` to `c` puts them from `a` to `c`.
pub puts_after : {A E : Type 0} {keeper : KeeperOf} {bytes : Option (List ℕ)} {a b c : DiskState} {answer : Result A E} →
    LeavesFile keeper a b → PutsFile keeper bytes b answer c → PutsFile keeper bytes a answer c
puts_after {keeper = keeper} {bytes = bytes} {a = a} {b = b} {c = c} first second = record {
  touches = touches_then (kept_paths keeper) a b c first.touches second.touches;
  done = λ h. second.done (first.touches.correct ∙ h);
  either = λ h. ⊎_elim (λ same. inl (same ∙ first.same h)) (λ new. inr new) (second.either (first.touches.correct ∙ h));
}

-- If `P` holds, it holds when `answer` is Ok.
given_on : {A E : Type 0} {P : Type 0} (answer : Result A E) → P → OnOk answer P
given_on (Ok done) p = p
given_on (Err fault) p = tt

-- If bytes were put, and then the file is left, they are put, whatever the last call answers.
pub puts_before : {A B E F : Type 0} {keeper : KeeperOf} {bytes : Option (List ℕ)} {a b c : DiskState} {done : A}
    (answer : Result B F) → PutsFile {E = E} keeper bytes a (Ok done) b → LeavesFile keeper b c →
    PutsFile keeper bytes a answer c
puts_before {keeper = keeper} {bytes = bytes} {a = a} {b = b} {c = c} answer first second = record {
  touches = touches_then (kept_paths keeper) a b c first.touches second.touches;
  done = λ h. given_on answer (second.same (first.touches.correct ∙ h) ∙ first.done h);
  either = λ h. inr (second.same (first.touches.correct ∙ h) ∙ first.done h);
}

-- If bytes could not be put, and then the file is left, both calls together answer as `PutsFile` says.
pub puts_failed : {A B E F : Type 0} {keeper : KeeperOf} {bytes : Option (List ℕ)} {a b c : DiskState} {fault : E}
    {other : F} → PutsFile {A = A} keeper bytes a (Err fault) b → LeavesFile keeper b c →
    PutsFile {A = B} keeper bytes a (Err other) c
puts_failed {keeper = keeper} {a = a} {b = b} {c = c} first second = record {
  touches = touches_then (kept_paths keeper) a b c first.touches second.touches;
  done = λ h. tt;
  either = λ h. ⊎_elim (λ same. inl (second.same (first.touches.correct ∙ h) ∙ same))
      (λ new. inr (second.same (first.touches.correct ∙ h) ∙ new)) (first.either h);
}

-- If the path of the file is cleared, None is put in the place of the file (`PutsFile`).
pub clear_puts : {A E : Type 0} (keeper : KeeperOf) {old new : DiskState} {answer : Result A E} →
    Answers (Clears keeper.path) old answer new → PutsFile keeper None old answer new
clear_puts {A = A} {E = E} keeper {old = old} {new = new} {answer = answer} clears = record {
  touches = touches_more (keeper.path ∷ []) (kept_paths keeper) (λ p none. none.1) old new (clears_touches clears);
  done = λ h. cleared_on answer new.now (clears.done h).gone;
  either = λ h. ⊎_elim (λ same. inl (ap (content keeper.path) same))
      (λ removed. inr (ap (content keeper.path) removed ∙ remove_is_read keeper.path old.now)) (clears.done h).either;
} where
  -- If no file stands at the path after a call that is done, a read of it gives nothing.
  cleared_on : (a : Result A E) (d : Disk) → OnOk a (found_at keeper.path d.names ≡ None) →
      OnOk a (content keeper.path d ≡ None)
  cleared_on (Ok done) d gone = ap (bytes_of d.files) gone
  cleared_on (Err fault) d gone = tt
