-- Lemmas on what each change of files, names or a disk leaves alone.
use Rattle.std.proofs.Common.{◌≡◌, ⊎_elim, refl, ◌∙◌, ap, ℕ, zero, suc, true, false, List, [], ◌∷◌, ◌++◌, length, map}
use Rattle.std.proofs.Common.{slice_get, Option, Some, None}
use Rattle.std.proofs.lemmas.Option.{none-some}
use Rattle.ill_disk.specs.Disk.{File, Name, Disk, found_at, with_name, with_rename, without, flush_file, flush_found}
use Rattle.ill_disk.specs.Disk.{after_change, after_create, after_flush, after_remove, after_rename}
use Rattle.ill_disk.proofs.Crashes.{in_append, in_map}
use Rattle.ill_disk.proofs.Memory.{value_or}
use Rattle.ill_disk.proofs.Names.{found_with_other, found_without_other, found_with, found_without}
use Rattle.ill_message_disk.specs.MessageFileCalls.{with_found, after_flush_name}
use Rattle.ill_message_disk.specs.Touches.{IsNoneOf, DiffersAt, KeepsFiles, TouchesOnly}

-- ---- files: each keeps its bytes when a file is made or flushed

-- If no file changes, each keeps its bytes.
pub files_stay : (files : List File) → KeepsFiles files files
files_stay files k f is = (f, is, record { bytes = refl; flushed = λ was. was })

-- An earlier file stays where it was, if files are added.
get_first : (files more : List File) (k : ℕ) (f : File) → slice_get files k ≡ Some f → slice_get (files ++ more) k ≡ Some f
get_first [] more k f is = absurd (none-some f is)
get_first (e ∷ files) more zero f is = is
get_first (e ∷ files) more (suc k) f is = get_first files more k f is

-- Each file keeps its bytes, if one is made.
pub files_with : (files more : List File) → KeepsFiles files (files ++ more)
files_with files more k f is = (f, get_first files more k f is, record { bytes = refl; flushed = λ was. was })

-- Each file keeps its bytes, if one is flushed.
pub files_flushed : (files : List File) (j : ℕ) → KeepsFiles files (flush_file files j)
files_flushed [] j k f is = absurd (none-some f is)
files_flushed (e ∷ files) zero zero f is = (
  record e { is_flushed = true },
  refl,
  record { bytes = ap (λ (x : File). x.bytes) (ap (value_or e) is); flushed = λ was. refl },
)
files_flushed (e ∷ files) zero (suc k) f is = (f, is, record { bytes = refl; flushed = λ was. was })
files_flushed (e ∷ files) (suc j) zero f is = (f, is, record { bytes = refl; flushed = λ was. was })
files_flushed (e ∷ files) (suc j) (suc k) f is = files_flushed files j k f is

-- Each file keeps its bytes, if the file `found` is flushed, or none if there is no file.
pub files_flush_found : (files : List File) (found : Option ℕ) → KeepsFiles files (flush_found files found)
files_flush_found files None = files_stay files
files_flush_found files (Some j) = files_flushed files j

-- ---- names: a change of names differs at its own paths alone

-- A file that is put at a path changes what stands at no other path.
pub put_differs : (path : List ℕ) (file : ℕ) (names : List Name) → DiffersAt (path ∷ []) names (with_name path file names)
put_differs path file names p none = found_with_other p path file names none.0

-- The removal of a path changes what stands at no other path.
pub without_differs : (path : List ℕ) (names : List Name) → DiffersAt (path ∷ []) names (without path names)
without_differs path names p none = found_without_other p path names none.0

-- A rename changes no third path.
pub rename_differs : (from to : List ℕ) (found : Option ℕ) (names : List Name) →
    DiffersAt (from ∷ to ∷ []) names (with_rename from to found names)
rename_differs from to None names p none = refl
rename_differs from to (Some file) names p none =
    found_with_other p to file (without from names) none.1.0 ∙ found_without_other p from names none.0

-- A file that is put at a path, or the removal of the path if there is none, changes what stands at no other path.
pub found_differs : (path : List ℕ) (found : Option ℕ) (names : List Name) →
    DiffersAt (path ∷ []) names (with_found path found names)
found_differs path None names = without_differs path names
found_differs path (Some file) names = put_differs path file names

-- After `found` is put at `path`, or its name removed if there is none, `found` is found there.
pub found_settled : (path : List ℕ) (found : Option ℕ) (names : List Name) →
    found_at path (with_found path found names) ≡ found
found_settled path None names = found_without path names
found_settled path (Some file) names = found_with path file names

-- ---- disks: which paths each change of a disk touches, and two changes together

-- A disk differs from itself at no path.
pub touch_self : (paths : List (List ℕ)) (d : Disk) → TouchesOnly paths d d
touch_self paths d = record {
  now = λ p none. refl;
  left = λ names stands. (names, stands, λ p none. refl);
  files = files_stay d.files;
}

-- If two changes, one after the other, touch only `paths`, both together do.
pub touch_then : (paths : List (List ℕ)) (a b c : Disk) → TouchesOnly paths a b → TouchesOnly paths b c →
    TouchesOnly paths a c
touch_then paths a b c first second = record {
  now = λ p none. second.now p none ∙ first.now p none;
  left = λ names stands.
      let two = second.left names stands in
      let one = first.left two.0 two.1 in (one.0, one.1, λ p none. two.2 p none ∙ one.2 p none);
  files = λ k f is.
      let one = first.files k f is in
      let two = second.files k one.0 one.1 in (
        two.0,
        two.1,
        record { bytes = two.2.bytes ∙ one.2.bytes; flushed = λ was. two.2.flushed (one.2.flushed was) },
      );
}

-- If a change touches only paths of `few`, and `many` has all of these, it touches only paths of `many`.
pub touch_more : (few many : List (List ℕ)) → ((p : List ℕ) → IsNoneOf many p → IsNoneOf few p) → (a b : Disk) →
    TouchesOnly few a b → TouchesOnly many a b
touch_more few many fits a b touches = record {
  now = λ p none. touches.now p (fits p none);
  left = λ names stands.
      let from = touches.left names stands in (from.0, from.1, λ p none. from.2 p (fits p none));
  files = touches.files;
}

-- If `change` changes names only at `paths`, the change of the disk by it touches only `paths`.
pub change_touches : (paths : List (List ℕ)) (change : List Name → List Name) (d : Disk) →
    ((names : List Name) → DiffersAt paths names (change names)) → TouchesOnly paths d (after_change change d)
change_touches paths change d differs = record {
  now = differs d.names;
  left = λ names stands. ⊎_elim (λ before. (names, before, λ p none. refl))
      (λ changed. let from = in_map change d.may_stand names changed in
      (from.0, from.1, λ p none. ap (found_at p) from.2 ∙ differs from.0 p none))
      (in_append d.may_stand (map change d.may_stand) names stands);
  files = files_stay d.files;
}

-- The making of a file at `path` touches `path` alone.
pub create_touches : (path bytes : List ℕ) (d : Disk) → TouchesOnly (path ∷ []) d (after_create path bytes d)
create_touches path bytes d =
    let new : File = record { bytes = bytes; is_flushed = false } in
    let more : Disk = record d { files = d.files ++ new ∷ [] } in
    let change : List Name → List Name = with_name path (length d.files) in
    touch_then (path ∷ []) d more (after_change change more) (record {
      now = λ p none. refl;
      left = λ names stands. (names, stands, λ p none. refl);
      files = files_with d.files (new ∷ []);
    }) (change_touches (path ∷ []) change more (put_differs path (length d.files)))

-- The removal of `path` touches `path` alone.
pub remove_touches : (path : List ℕ) (d : Disk) → TouchesOnly (path ∷ []) d (after_remove path d)
remove_touches path d = change_touches (path ∷ []) (without path) d (without_differs path)

-- A rename touches its two paths alone.
pub rename_touches : (from to : List ℕ) (d : Disk) → TouchesOnly (from ∷ to ∷ []) d (after_rename from to d)
rename_touches from to d =
    change_touches (from ∷ to ∷ []) (with_rename from to (found_at from d.names)) d
    (rename_differs from to (found_at from d.names))

-- A new name at `path` touches `path` alone.
pub name_touches : (path : List ℕ) (file : ℕ) (d : Disk) → TouchesOnly (path ∷ []) d (after_change (with_name path file) d)
name_touches path file d = change_touches (path ∷ []) (with_name path file) d (put_differs path file)

-- A flush of a file touches no path.
pub flush_touches : (path : List ℕ) (d : Disk) → TouchesOnly [] d (after_flush path d)
flush_touches path d = record {
  now = λ p none. refl;
  left = λ names stands. (names, stands, λ p none. refl);
  files = files_flush_found d.files (found_at path d.names);
}

-- A flush of the name `path` touches `path` alone.
pub flush_name_touches : (path : List ℕ) (d : Disk) → TouchesOnly (path ∷ []) d (after_flush_name path d)
flush_name_touches path d =
    let settle : List Name → List Name = with_found path (found_at path d.names) in record {
      now = found_differs path (found_at path d.names) d.names;
      left = λ names stands.
          let from = in_map settle d.may_stand names stands in (
            from.0,
            from.1,
            λ p none. ap (found_at p) from.2 ∙ found_differs path (found_at path d.names) from.0 p none,
          );
      files = files_stay d.files;
    }
