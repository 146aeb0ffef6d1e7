-- Lemmas on the files of a disk in memory, for the contracts of `memory_disk.rt`.
use Rattle.std.proofs.Common.{◌≡◌, inl, inr, refl, sym, ap, subst, arith, ℕ, zero, suc, ◌<◌, ◌≤◌, Bool, true, false, List, []}
use Rattle.std.proofs.Common.{◌∷◌, length, map, get_or, slice_set, slice_get, Option, Some, None}
use Rattle.std.proofs.lemmas.Bool.{true≢false}
use Rattle.std.proofs.lemmas.Option.{none-some}
use Rattle.ill_disk.specs.Disk.{In, File, Disk, IsLeft, AreLeft, Crash, flush_file}
use Rattle.ill_disk.specs.MemoryDisk.{file_after_crash}

-- If `new` is the file at place `k` of `files`, but flushed, putting it at `k` gives `flush_file files k`.
pub flush_sets : (files : List File) (k : ℕ) (other new : File) → k < length files →
    new ≡ record { bytes = (get_or files k other).bytes; is_flushed = true } → slice_set files k new ≡ flush_file files k
flush_sets [] k other new lt is = absurd (omega (arith, lt))
flush_sets (f ∷ files) zero other new lt is = ap (λ (x : File). x ∷ files) is
flush_sets (f ∷ files) (suc k) other new lt is =
    ap (λ (l : List File). f ∷ l) (flush_sets files k other new (omega (arith, lt)) is)

-- If `files` has no place `k`, `flush_file files k` is `files`.
pub flush_past : (files : List File) (k : ℕ) → length files ≤ k → files ≡ flush_file files k
flush_past [] k le = refl
flush_past (f ∷ files) zero le = absurd (omega (arith, le))
flush_past (f ∷ files) (suc k) le = ap (λ (l : List File). f ∷ l) (flush_past files k (omega (arith, le)))

-- Returns the value that was found, or `other` if there is none.
abbrev pub value_or : {A : Type 0} → A → Option A → A
value_or other None = other
value_or other (Some value) = value

-- If `x` is at place `k` of `xs`, it stands in `xs`.
pub got_in : {X : Type 0} (xs : List X) (k : ℕ) (x : X) → slice_get xs k ≡ Some x → In xs x
got_in [] k x is = absurd (none-some x is)
got_in (y ∷ xs) zero x is = inl (sym (ap (value_or y) is))
got_in (y ∷ xs) (suc k) x is = inr (got_in xs k x is)

-- A crash may leave `file_after_crash` of a file with these `bytes`, flushed (`b` is true) or not.
left_if : (b : Bool) (bytes : List ℕ) → IsLeft (record { bytes = bytes; is_flushed = b })
    (file_after_crash (record { bytes = bytes; is_flushed = b }))
left_if true bytes = record { bytes = λ was. refl; flushed = refl }
left_if false bytes = record { bytes = λ was. absurd (true≢false (sym was)); flushed = refl }

-- A crash may leave `file_after_crash` of each of `files`.
pub crashed_left : (files : List File) → AreLeft files (map file_after_crash files)
crashed_left [] = tt
crashed_left (f ∷ files) = (left_if f.is_flushed f.bytes, crashed_left files)

-- A crash of `d` may leave `after` if `after` has the list of names at place `which` of those that may stand in `d`,
-- lets only this list stand, and has `file_after_crash` of each file of `d`.
pub memory_crash : (d after : Disk) (which : ℕ) → slice_get d.may_stand which ≡ Some after.names →
    after.may_stand ≡ after.names ∷ [] → after.files ≡ map file_after_crash d.files → Crash d after
memory_crash d after which stands only files = record {
  names = got_in d.may_stand which after.names stands;
  only = only;
  files = subst (AreLeft d.files) (sym files) (crashed_left d.files);
}
