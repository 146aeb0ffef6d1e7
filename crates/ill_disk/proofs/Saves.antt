-- Lemmas on the record that a crash leaves at each of the five disks on the way of a save.
use Rattle.std.proofs.Common.{◌≡◌, inl, inr, ⊎_elim, refl, sym, ◌∙◌, ap, subst, ℕ, true, false, List, [], ◌∷◌, ◌++◌, length, map}
use Rattle.std.proofs.Common.{slice_get, Option, Some, None}
use Rattle.std.proofs.lemmas.Option.{none-some}
use Rattle.ill_disk.specs.Disk.{In, File, Name, Disk, AreLeft, Crash, Leaves, AreMade, IsWhole, IsOldOr, on_the_way, after_save}
use Rattle.ill_disk.specs.Disk.{flush_file, flush_found, found_at}
use Rattle.ill_disk.specs.Disk.{without, with_name, with_rename, bytes_of, content, after_create, after_remove, after_rename}
use Rattle.ill_disk.specs.Disk.{after_flush, after_flush_names, empty_disk}
use Rattle.ill_disk.proofs.Names.{found_with, found_with_other, found_without, found_without_other, found_moved, gone_moved}
use Rattle.ill_disk.proofs.Names.{made_found}
use Rattle.ill_disk.proofs.Crashes.{in_first, left_length, left_without_last, left_bytes, last_bytes, first_bytes, flushed_bytes}
use Rattle.ill_disk.proofs.Crashes.{change_left, flush_left, names_left, any_bytes_left}
use Rattle.ill_disk.proofs.Memory.{value_or}

-- Let each of `names` give one of `files`. A new file `f` does not change the bytes of the file `found` at `path`.
first_found : (files : List File) (f : File) (path : List ℕ) (names : List Name) (found : Option ℕ) →
    found_at path names ≡ found → AreMade (length files) names → bytes_of (files ++ f ∷ []) found ≡ bytes_of files found
first_found files f path names None is made = refl
first_found files f path names (Some k) is made = first_bytes files f k (made_found (length files) path names k made is)

-- A save of `bytes` on the whole disk `d`: a new file is made at `temporary`, flushed, and renamed to another path,
-- `path`. Then the names are flushed.
module _ (temporary path bytes : List ℕ) (d : Disk) (whole : IsWhole d) (differ : temporary ≡ path → ⊥) where
  -- The new file, before it is flushed.
  abbrev new_file : File
  new_file = record { bytes = bytes; is_flushed = false }

  -- The disk after the new file is made at `temporary`.
  abbrev created_disk : Disk
  created_disk = after_create temporary bytes d

  -- The disk after the new file is flushed.
  abbrev flushed_disk : Disk
  flushed_disk = after_flush temporary created_disk

  -- The disk after the new file is renamed to `path`.
  abbrev replaced_disk : Disk
  replaced_disk = after_rename temporary path flushed_disk

  -- Let `names` be a list that may stand on `d`, and let a crash leave the files of `after` once the new file is made.
  -- Let `path` give the same file in `names` and in `after`. Then a crash of `d` may leave the content of `after` at
  -- `path`.
  old_content : (after : Disk) (names : List Name) → In d.may_stand names →
      found_at path after.names ≡ found_at path names → AreLeft (d.files ++ new_file ∷ []) after.files →
      Leaves d path (content path after)
  old_content after names stands found left =
      let parts = left_without_last d.files new_file after.files left in
      let before : Disk = record { files = parts.first; names = names; may_stand = names ∷ [] } in
      let made : AreMade (length parts.first) names =
      subst (λ (n : ℕ). AreMade n names) (sym (left_length d.files parts.first parts.left)) (whole.made names stands) in (
        before,
        record { names = stands; only = refl; files = parts.left },
        sym (ap (λ (o : Option ℕ). bytes_of after.files o) found
            ∙ ap (λ (l : List File). bytes_of l (found_at path names)) parts.is
            ∙ first_found parts.first parts.last path names (found_at path names) refl made),
      )

  -- If a crash leaves `after` once the new file is made, its content at `path` is one that a crash of `d` may leave.
  pub created_left : (after : Disk) → Crash created_disk after → Leaves d path (content path after)
  created_left after crash = ⊎_elim
      (λ stands. old_content after after.names stands refl crash.files)
      (λ changed. old_content after changed.0 changed.1
      (ap (found_at path) changed.2 ∙ found_with_other path temporary (length d.files) changed.0 differ) crash.files)
      (change_left (with_name temporary (length d.files)) (record d { files = d.files ++ new_file ∷ [] }) after crash)

  -- The new file is found at `temporary`. It is the last file.
  found_temporary : found_at temporary flushed_disk.names ≡ Some (length d.files)
  found_temporary = found_with temporary (length d.files) d.names

  -- The flush of the file at `temporary` is the flush of the last file.
  is_flushed : flushed_disk.files ≡ flush_found created_disk.files (Some (length d.files))
  is_flushed = ap (flush_found created_disk.files) (found_with temporary (length d.files) d.names)

  -- If a crash leaves the files of `after` once the new file is flushed, and `path` gives this file in `after`, the
  -- content at `path` is `bytes`.
  new_content : (after : Disk) → found_at path after.names ≡ Some (length d.files) → AreLeft flushed_disk.files after.files →
      content path after ≡ Some bytes
  new_content after found left =
      ap (bytes_of after.files) found
      ∙ left_bytes created_disk.files (length d.files) after.files
      (subst (λ (l : List File). AreLeft l after.files) is_flushed left)
      ∙ last_bytes d.files new_file

  -- If a crash leaves `after` once the new file is renamed to `path`, its content at `path` is one that a crash of `d`
  -- may leave, or `bytes`.
  replaced_left : (after : Disk) → Crash replaced_disk after → IsOldOr path d bytes (content path after)
  replaced_left after crash = ⊎_elim
      (λ stands. inl (created_left after (flush_left temporary created_disk after
      (record { names = stands; only = crash.only; files = crash.files }))))
      (λ changed. inr (new_content after (ap (found_at path) changed.2
      ∙ found_moved temporary path (length d.files) changed.0 (found_at temporary flushed_disk.names) found_temporary)
      crash.files))
      (change_left (with_rename temporary path (found_at temporary flushed_disk.names)) flushed_disk after crash)

  -- If a crash leaves `after` once the names are flushed too, its content at `path` is `bytes`.
  saved_left : (after : Disk) → Crash (after_flush_names replaced_disk) after → content path after ≡ Some bytes
  saved_left after crash = new_content after (ap (found_at path) (names_left replaced_disk after crash)
      ∙ found_moved temporary path (length d.files) flushed_disk.names (found_at temporary flushed_disk.names) found_temporary)
      crash.files

  -- If P holds for the content at `path` of each disk that a crash of `x` may leave, it holds for each content `found`
  -- that a crash of `x` may leave at `path`.
  from_content : (P : Option (List ℕ) → Type 0) (x : Disk) → ((after : Disk) → Crash x after → P (content path after)) →
      (found : Option (List ℕ)) → Leaves x path found → P found
  from_content P x each found left = subst P left.2 (each left.0 left.1)

  -- If a crash of one of the five disks on the way of the save leaves `found` at `path`, a crash of `d` may leave it,
  -- or it is `bytes`. Each case is one of the five disks, in their order.
  pub save_moments : (x : Disk) → In (on_the_way temporary path bytes d) x → (found : Option (List ℕ)) →
      Leaves x path found → IsOldOr path d bytes found
  save_moments x (inl is) found left = inl (subst (λ (y : Disk). Leaves y path found) is left)
  save_moments x (inr (inl is)) found left =
      from_content (IsOldOr path d bytes) created_disk (λ after crash. inl (created_left after crash)) found
      (subst (λ (y : Disk). Leaves y path found) is left)
  save_moments x (inr (inr (inl is))) found left =
      from_content (IsOldOr path d bytes) flushed_disk
      (λ after crash. inl (created_left after (flush_left temporary created_disk after crash))) found
      (subst (λ (y : Disk). Leaves y path found) is left)
  save_moments x (inr (inr (inr (inl is)))) found left =
      from_content (IsOldOr path d bytes) replaced_disk replaced_left found
      (subst (λ (y : Disk). Leaves y path found) is left)
  save_moments x (inr (inr (inr (inr (inl is))))) found left =
      from_content (IsOldOr path d bytes) (after_flush_names replaced_disk) (λ after crash. inr (saved_left after crash)) found
      (subst (λ (y : Disk). Leaves y path found) is left)
  save_moments x (inr (inr (inr (inr (inr none))))) found left = absurd none

  -- If a crash after the save leaves `found` at `path`, it is `bytes`.
  pub save_lasts : (found : Option (List ℕ)) → Leaves (after_save temporary path bytes d) path found → found ≡ Some bytes
  save_lasts found left = from_content (λ f. f ≡ Some bytes) (after_flush_names replaced_disk) saved_left found left

  -- After the save the content at `path` is `bytes`.
  pub save_is_read : content path (after_save temporary path bytes d) ≡ Some bytes
  save_is_read =
      ap (bytes_of flushed_disk.files)
      (found_moved temporary path (length d.files) flushed_disk.names (found_at temporary flushed_disk.names) found_temporary)
      ∙ ap (λ (l : List File). bytes_of l (Some (length d.files))) is_flushed
      ∙ flushed_bytes created_disk.files (length d.files) (length d.files)
      ∙ last_bytes d.files new_file

-- ---- what the flushes of a save are for

-- The place of a new file `f` is the number of the files before it.
last_get : (files : List File) (f : File) → slice_get (files ++ f ∷ []) (length files) ≡ Some f
last_get [] f = refl
last_get (e ∷ files) f = last_get files f

-- If a crash may leave `after` of `files`, and a new file `f` is flushed, a crash may leave `after` and then `f`.
left_new : (files : List File) (f : File) (after : List File) → AreLeft files after →
    AreLeft (flush_file (files ++ f ∷ []) (length files)) (after ++ record { bytes = f.bytes; is_flushed = true } ∷ [])
left_new [] f [] left = (record { bytes = λ was. refl; flushed = refl }, tt)
left_new [] f (g ∷ after) left = absurd left
left_new (e ∷ files) f [] left = absurd left
left_new (e ∷ files) f (g ∷ after) left = (left.0, left_new files f after left.1)

-- Without the flush of the new file a crash may leave any bytes `other` at `path`, even after the flush of names.
pub unflushed_tears : (temporary path bytes other : List ℕ) (d : Disk) →
    Leaves (after_flush_names (after_rename temporary path (after_create temporary bytes d))) path (Some other)
unflushed_tears temporary path bytes other d =
    let created : Disk = after_create temporary bytes d in
    any_bytes_left path (after_flush_names (after_rename temporary path created)) (length d.files)
    (record { bytes = bytes; is_flushed = false }) other (inl refl)
    (found_moved temporary path (length d.files) created.names (found_at temporary created.names)
    (found_with temporary (length d.files) d.names))
    (last_get d.files (record { bytes = bytes; is_flushed = false })) refl

-- Let `d` be whole. Without the flush of names a crash after the rename may leave at `path` each content `found` that a
-- crash of `d` may leave. The names that the crash of `d` leaves still may stand.
pub unflushed_names_return : (temporary path bytes : List ℕ) (d : Disk) (found : Option (List ℕ)) → IsWhole d →
    Leaves d path found → Leaves (after_rename temporary path (after_flush temporary (after_create temporary bytes d))) path found
unflushed_names_return temporary path bytes d found whole left =
    let new_one : File = record { bytes = bytes; is_flushed = false } in
    let created : Disk = after_create temporary bytes d in
    let flushed : Disk = after_flush temporary created in
    let file : File = record { bytes = bytes; is_flushed = true } in
    let before : Disk = left.0 in
    let stands : In created.may_stand before.names =
    in_first d.may_stand (map (with_name temporary (length d.files)) d.may_stand) before.names left.1.names in (
      record { files = before.files ++ file ∷ []; names = before.names; may_stand = before.names ∷ [] },
      record {
        names = in_first created.may_stand (map (with_rename temporary path (found_at temporary flushed.names)) created.may_stand)
            before.names stands;
        only = refl;
        files = subst (λ (l : List File). AreLeft l (before.files ++ file ∷ []))
            (sym (ap (flush_found created.files) (found_with temporary (length d.files) d.names)))
            (left_new d.files new_one before.files left.1.files);
      },
      first_found before.files file path before.names (found_at path before.names) refl
          (subst (λ (n : ℕ). AreMade n before.names) (sym (left_length d.files before.files left.1.files))
          (whole.made before.names left.1.names))
          ∙ left.2,
    )

-- No crash of the empty disk leaves bytes `other` at `path`.
pub empty_leaves_none : (path other : List ℕ) → Leaves empty_disk path (Some other) → ⊥
empty_leaves_none path other left =
    none-some other (sym (ap (λ (n : List Name). bytes_of left.0.files (found_at path n))
    (⊎_elim (λ is. is) (λ none. absurd none) left.1.names)) ∙ left.2)

-- If `d` is the empty disk, bytes `other` that are old or new (`IsOldOr`) are the new ones, `bytes`.
pub empty_is_new : (path bytes other : List ℕ) → IsOldOr path empty_disk bytes (Some other) → other ≡ bytes
empty_is_new path bytes other (inl old) = absurd (empty_leaves_none path other old)
empty_is_new path bytes other (inr new) = ap (value_or other) new

-- ---- what reads give after each call

-- After a file of `bytes` is made at `path`, the content at `path` is `bytes`.
pub create_is_read : (path bytes : List ℕ) (d : Disk) → content path (after_create path bytes d) ≡ Some bytes
create_is_read path bytes d =
    ap (bytes_of (d.files ++ record { bytes = bytes; is_flushed = false } ∷ [])) (found_with path (length d.files) d.names)
    ∙ last_bytes d.files (record { bytes = bytes; is_flushed = false })

-- On a whole disk a new file at `path` does not change the content at another path, `other`.
pub create_elsewhere : (path other bytes : List ℕ) (d : Disk) → IsWhole d → (path ≡ other → ⊥) →
    content other (after_create path bytes d) ≡ content other d
create_elsewhere path other bytes d whole differ =
    let f : File = record { bytes = bytes; is_flushed = false } in
    ap (bytes_of (d.files ++ f ∷ [])) (found_with_other other path (length d.files) d.names differ)
    ∙ first_found d.files f other d.names (found_at other d.names) refl (whole.made d.names whole.now)

-- After `path` is removed, it has no content.
pub remove_is_read : (path : List ℕ) (d : Disk) → content path (after_remove path d) ≡ None
remove_is_read path d = ap (bytes_of d.files) (found_without path d.names)

-- Removing `path` does not change the content at another path, `other`.
pub remove_elsewhere : (path other : List ℕ) (d : Disk) → (path ≡ other → ⊥) →
    content other (after_remove path d) ≡ content other d
remove_elsewhere path other d differ = ap (bytes_of d.files) (found_without_other other path d.names differ)

-- If a file stands at `from`, the content at `to` after the rename is the content at `from` before it.
pub rename_is_read : (from to : List ℕ) (d : Disk) (file : ℕ) → found_at from d.names ≡ Some file →
    content to (after_rename from to d) ≡ content from d
rename_is_read from to d file found =
    ap (bytes_of d.files) (found_moved from to file d.names (found_at from d.names) found ∙ sym found)

-- If a file stands at `from`, and `to` is another path, `from` has no content after the rename.
pub rename_is_gone : (from to : List ℕ) (d : Disk) (file : ℕ) → found_at from d.names ≡ Some file →
    (from ≡ to → ⊥) → content from (after_rename from to d) ≡ None
rename_is_gone from to d file found differ =
    ap (bytes_of d.files) (gone_moved from to file d.names (found_at from d.names) found differ)

-- A rename from `from` to `to` does not change the content at a third path, `other`.
pub rename_elsewhere : (from to other : List ℕ) (d : Disk) → (from ≡ other → ⊥) → (to ≡ other → ⊥) →
    content other (after_rename from to d) ≡ content other d
rename_elsewhere from to other d not_from not_to =
    ap (bytes_of d.files) (elsewhere (found_at from d.names)) where
      -- The file at `other` is found as before, if a file stands at `from` (`found`) or none.
      elsewhere : (found : Option ℕ) → found_at other (with_rename from to found d.names) ≡ found_at other d.names
      elsewhere None = refl
      elsewhere (Some file) = found_with_other other to file (without from d.names) not_to
          ∙ found_without_other other from d.names not_from
