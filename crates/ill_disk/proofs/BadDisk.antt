-- The definitions of `Disk` exclude each case of `BadDisk`.
use Rattle.std.proofs.Common.{◌≡◌, ⊎_elim, refl, sym, ◌∙◌, ap, subst, ℕ, zero, suc, true, List, [], ◌∷◌, map, slice_get}
use Rattle.std.proofs.Common.{Some}
use Rattle.std.proofs.lemmas.Bool.{true≢false}
use Rattle.std.proofs.lemmas.Option.{none-some}
use Rattle.ill_disk.specs.Disk.{In, File, Name, Disk, AreLeft, Crash, with_rename, after_change}
use Rattle.ill_disk.specs.BadDisk.{IsBadCrash, IsHalfRenamed, LosesNames, other_names, other_bytes, more_names, not_flushed}
use Rattle.ill_disk.specs.BadDisk.{other_count, still_there, not_there, other_file, without_change, with_change}
use Rattle.ill_disk.proofs.Names.{found_moved, gone_moved}
use Rattle.ill_disk.proofs.Crashes.{in_first, in_second, in_mapped, left_length}
use Rattle.ill_disk.proofs.Memory.{value_or}

-- Let a crash leave the files `after` of `files`. If the file at place `k` was `f`, and flushed, and is now `g`,
-- both have equal bytes.
same_bytes : (files after : List File) (k : ℕ) (f g : File) → AreLeft files after → slice_get files k ≡ Some f →
    slice_get after k ≡ Some g → f.is_flushed ≡ true → g.bytes ≡ f.bytes
same_bytes [] after k f g left was is flushed = absurd (none-some f was)
same_bytes (e ∷ files) [] k f g left was is flushed = absurd left
same_bytes (e ∷ files) (h ∷ after) zero f g left was is flushed =
    let e_is : e ≡ f = ap (value_or e) was in
    let h_is : h ≡ g = ap (value_or h) is in
    sym (ap (λ (x : File). x.bytes) h_is)
    ∙ left.0.bytes (ap (λ (x : File). x.is_flushed) e_is ∙ flushed)
    ∙ ap (λ (x : File). x.bytes) e_is
same_bytes (e ∷ files) (h ∷ after) (suc k) f g left was is flushed =
    same_bytes files after k f g left.1 was is flushed

-- If a crash leaves the files `after` of `files`, the file `g` at each place `k` of `after` is flushed.
all_flushed : (files after : List File) (k : ℕ) (g : File) → AreLeft files after → slice_get after k ≡ Some g →
    g.is_flushed ≡ true
all_flushed files [] k g left is = absurd (none-some g is)
all_flushed [] (h ∷ after) k g left is = absurd left
all_flushed (e ∷ files) (h ∷ after) zero g left is =
    sym (ap (λ (x : File). x.is_flushed) (ap (value_or h) is)) ∙ left.0.flushed
all_flushed (e ∷ files) (h ∷ after) (suc k) g left is = all_flushed files after k g left.1 is

-- If a crash of `before` may leave `after` (`Crash`), no case of `IsBadCrash` holds for them.
pub none_bad : (before after : Disk) → Crash before after → IsBadCrash before after → ⊥
none_bad before after crash (other_names missing) = missing crash.names
none_bad before after crash (other_bytes k f g was is flushed differ) =
    differ (same_bytes before.files after.files k f g crash.files was is flushed)
none_bad before after crash (more_names names stands differ) =
    ⊎_elim (λ is. differ is) (λ none. none) (subst (λ (l : List (List Name)). In l names) crash.only stands)
none_bad before after crash (not_flushed k g is unflushed) =
    true≢false (sym (all_flushed before.files after.files k g crash.files is) ∙ unflushed)
none_bad before after crash (other_count differ) = differ (left_length before.files after.files crash.files)

-- If `from` and `to` differ, the names after a rename of `file` from one to the other are not half renamed.
pub none_half : (from to : List ℕ) (file : ℕ) (names : List Name) → (from ≡ to → ⊥) →
    IsHalfRenamed from to file (with_rename from to (Some file) names) → ⊥
none_half from to file names differ (still_there other found) =
    none-some other (sym (gone_moved from to file names (Some file) refl differ) ∙ found)
none_half from to file names differ (not_there gone) =
    none-some file (sym gone ∙ found_moved from to file names (Some file) refl)
none_half from to file names differ (other_file other found is_other) =
    is_other (ap (value_or other) (sym found ∙ found_moved from to file names (Some file) refl))

-- After a change of names (`after_change`) each list that might stand may stand, without the change and with it.
pub none_lost : (change : List Name → List Name) (d : Disk) → LosesNames change d (after_change change d) → ⊥
none_lost change d (without_change names stands missing) =
    missing (in_first d.may_stand (map change d.may_stand) names stands)
none_lost change d (with_change names stands missing) =
    missing (in_second d.may_stand (map change d.may_stand) (change names) (in_mapped change d.may_stand names stands))
