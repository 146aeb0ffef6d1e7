-- Each call keeps a whole disk whole, and each crash does.
use Rattle.std.proofs.Common.{◌≡◌, inl, ⊎_elim, refl, sym, ap, subst, arith, ℕ, zero, suc, ◌+◌, ◌<◌, ◌≤◌, Bool, true, false}
use Rattle.std.proofs.Common.{if◌then◌else◌, List, [], ◌∷◌, ◌++◌, length, map, Option, Some, None, length-append}
use Rattle.std.specs.Str.{bytes_eq}
use Rattle.ill_disk.specs.Disk.{In, File, Name, Disk, Crash, AreMade, IsWhole, flush_file, flush_found, found_at, without}
use Rattle.ill_disk.specs.Disk.{with_name, with_rename, after_change, after_create, after_remove, after_rename, after_flush}
use Rattle.ill_disk.specs.Disk.{after_flush_names, empty_disk}
use Rattle.ill_disk.specs.MemoryDisk.{IsMadeBy, names_after}
use Rattle.ill_disk.specs.declared.memory_disk.Change.{Change}
use Rattle.ill_disk.specs.declared.memory_disk.Change.TheVariants.{Make, Remove, Rename}
use Rattle.ill_disk.proofs.Names.{IsBelow, below_found}
use Rattle.ill_disk.proofs.Crashes.{in_append, in_second, in_map, in_mapped, left_length}

-- Let `more` be at least `count`. If each of `names` gives one of the first `count` files, it gives one of the first
-- `more` files.
made_more : (count more : ℕ) (names : List Name) → count ≤ more → AreMade count names → AreMade more names
made_more count more [] le made = tt
made_more count more (name ∷ names) le made = (omega (arith, le, made.0), made_more count more names le made.1)

-- If the names of both lists give one of the first `count` files each, so do those that the test `b` chooses.
made_if : (count : ℕ) (b : Bool) (first second : List Name) → AreMade count first → AreMade count second →
    AreMade count (if b then first else second)
made_if count true first second one two = one
made_if count false first second one two = two

-- If each of `names` gives one of the first `count` files, so does each without the one of `path`.
pub made_without : (count : ℕ) (path : List ℕ) (names : List Name) → AreMade count names → AreMade count (without path names)
made_without count path [] made = tt
made_without count path (name ∷ names) made =
    let rest = made_without count path names made.1 in
    made_if count (bytes_eq path name.path) (without path names) (name ∷ without path names) rest (made.0, rest)

-- If `file` and the files of `names` are among the first `count` files, so are those of `names` with `file` at `path`.
pub made_with : (count : ℕ) (path : List ℕ) (file : ℕ) (names : List Name) → file < count → AreMade count names →
    AreMade count (with_name path file names)
made_with count path file names lt made = (lt, made_without count path names made)

-- If `found` and the files of `names` are among the first `count` files, so are those of `names` after a rename.
made_moved : (count : ℕ) (from to : List ℕ) (found : Option ℕ) (names : List Name) → IsBelow count found →
    AreMade count names → AreMade count (with_rename from to found names)
made_moved count from to None names below made = made
made_moved count from to (Some file) names below made =
    made_with count to file (without from names) below (made_without count from names made)

-- If `change` keeps all names to files that were made, a whole disk `d` is whole after `change`.
pub change_whole : (change : List Name → List Name) (d : Disk) →
    ((names : List Name) → AreMade (length d.files) names → AreMade (length d.files) (change names)) →
    IsWhole d → IsWhole (after_change change d)
change_whole change d keeps whole = record {
  made = λ names stands. ⊎_elim (λ before. whole.made names before)
      (λ changed. let from = in_map change d.may_stand names changed in
      subst (λ (n : List Name). AreMade (length d.files) n) (sym from.2) (keeps from.0 (whole.made from.0 from.1)))
      (in_append d.may_stand (map change d.may_stand) names stands);
  now = in_second d.may_stand (map change d.may_stand) (change d.names) (in_mapped change d.may_stand d.names whole.now);
}

-- A whole disk is whole after a file is made.
pub create_whole : (path bytes : List ℕ) (d : Disk) → IsWhole d → IsWhole (after_create path bytes d)
create_whole path bytes d whole =
    let new : File = record { bytes = bytes; is_flushed = false } in
    let more : Disk = record d { files = d.files ++ new ∷ [] } in
    let long : length (d.files ++ new ∷ []) ≡ length d.files + 1 = length-append d.files (new ∷ []) in
    change_whole (with_name path (length d.files)) more
    (λ names made. made_with (length more.files) path (length d.files) names (omega (arith, long)) made)
    (record {
      made = λ names stands. made_more (length d.files) (length more.files) names (omega (arith, long))
          (whole.made names stands);
      now = whole.now;
    })

-- A whole disk is whole after a path is removed.
pub remove_whole : (path : List ℕ) (d : Disk) → IsWhole d → IsWhole (after_remove path d)
remove_whole path d whole = change_whole (without path) d (made_without (length d.files) path) whole

-- A whole disk is whole after a rename.
pub rename_whole : (from to : List ℕ) (d : Disk) → IsWhole d → IsWhole (after_rename from to d)
rename_whole from to d whole = change_whole (with_rename from to (found_at from d.names)) d
    (λ names made. made_moved (length d.files) from to (found_at from d.names) names
    (below_found (length d.files) from d.names (whole.made d.names whole.now)) made) whole

-- A flush of the file at place `k` keeps the number of files.
flush_length : (files : List File) (k : ℕ) → length (flush_file files k) ≡ length files
flush_length [] k = refl
flush_length (f ∷ files) zero = refl
flush_length (f ∷ files) (suc k) = ap suc (flush_length files k)

-- A flush of the file `found`, if any, keeps the number of files.
flush_found_length : (files : List File) (found : Option ℕ) → length (flush_found files found) ≡ length files
flush_found_length files None = refl
flush_found_length files (Some k) = flush_length files k

-- A whole disk is whole after a flush of a file.
pub flush_whole : (path : List ℕ) (d : Disk) → IsWhole d → IsWhole (after_flush path d)
flush_whole path d whole = record {
  made = λ names stands. subst (λ (n : ℕ). AreMade n names) (sym (flush_found_length d.files (found_at path d.names)))
      (whole.made names stands);
  now = whole.now;
}

-- A whole disk is whole after a flush of names.
pub flush_names_whole : (d : Disk) → IsWhole d → IsWhole (after_flush_names d)
flush_names_whole d whole = record {
  made = λ names stands. ⊎_elim
      (λ is. subst (λ (n : List Name). AreMade (length d.files) n) (sym is) (whole.made d.names whole.now))
      (λ none. absurd none) stands;
  now = inl refl;
}

-- A crash of a whole disk leaves a whole disk.
pub crash_whole : (d after : Disk) → Crash d after → IsWhole d → IsWhole after
crash_whole d after crash whole = record {
  made = λ names stands. ⊎_elim
      (λ is. subst (λ (n : List Name). AreMade (length after.files) n) (sym is)
      (subst (λ (n : ℕ). AreMade n after.names) (sym (left_length d.files after.files crash.files))
      (whole.made after.names crash.names)))
      (λ none. absurd none) (subst (λ (l : List (List Name)). In l names) crash.only stands);
  now = subst (λ (l : List (List Name)). In l after.names) (sym crash.only) (inl refl);
}

-- The empty disk is whole.
pub empty_whole : IsWhole empty_disk
empty_whole = record {
  made = λ names stands. ⊎_elim (λ is. subst (λ (n : List Name). AreMade 0 n) (sym is) tt) (λ none. absurd none) stands;
  now = inl refl;
}

-- If `file` is found at `path` on a whole disk `d`, it is a place of the files of `d`.
pub found_made : (d : Disk) (path : List ℕ) (file : ℕ) → IsWhole d → found_at path d.names ≡ Some file →
    file < length d.files
found_made d path file whole found = subst (IsBelow (length d.files)) found
    (below_found (length d.files) path d.names (whole.made d.names whole.now))

-- If the file of a `change` in memory was made (`IsMadeBy`), a whole disk `d` is whole after `change`.
pub change_by_whole : (change : Change) (d : Disk) → IsMadeBy (length d.files) change → IsWhole d →
    IsWhole (after_change (names_after change) d)
change_by_whole (Make path file) d lt whole = change_whole (with_name path.now file) d
    (λ names made. made_with (length d.files) path.now file names lt made) whole
change_by_whole (Remove path) d lt whole = change_whole (without path.now) d (made_without (length d.files) path.now) whole
change_by_whole (Rename from to file) d lt whole = change_whole (λ names. with_name to.now file (without from.now names)) d
    (λ names made. made_with (length d.files) to.now file (without from.now names) lt
    (made_without (length d.files) from.now names made)) whole
