-- Lemmas on the files and names that a crash leaves, and on each call.
use Rattle.std.proofs.Common.{◌≡◌, ◌⊎◌, inl, inr, ⊎_elim, refl, sym, ◌∙◌, ap, arith, ℕ, zero, suc, ◌<◌, Bool, true, false, List}
use Rattle.std.proofs.Common.{[], ◌∷◌, ◌++◌, length, map, slice_get, Option, Some, None}
use Rattle.std.proofs.lemmas.Bool.{true≢false}
use Rattle.std.proofs.lemmas.Option.{none-some}
use Rattle.ill_disk.specs.Disk.{In, File, Name, Disk, AreLeft, Crash, Leaves, flush_file, flush_found, found_at, bytes_of}
use Rattle.ill_disk.specs.Disk.{after_change, after_flush, after_flush_names, content}

-- If `x` stands in `xs ++ ys`, it stands in `xs` or in `ys`.
pub in_append : {X : Type 0} (xs ys : List X) (x : X) → In (xs ++ ys) x → In xs x ⊎ In ys x
in_append [] ys x here = inr here
in_append (z ∷ xs) ys x (inl is) = inl (inl is)
in_append (z ∷ xs) ys x (inr rest) = ⊎_elim (λ l. inl (inr l)) (λ r. inr r) (in_append xs ys x rest)

-- If `x` stands in `xs`, it stands in `xs ++ ys`.
pub in_first : {X : Type 0} (xs ys : List X) (x : X) → In xs x → In (xs ++ ys) x
in_first [] ys x none = absurd none
in_first (z ∷ xs) ys x (inl is) = inl is
in_first (z ∷ xs) ys x (inr rest) = inr (in_first xs ys x rest)

-- If `x` stands in `ys`, it stands in `xs ++ ys`.
pub in_second : {X : Type 0} (xs ys : List X) (x : X) → In ys x → In (xs ++ ys) x
in_second [] ys x here = here
in_second (z ∷ xs) ys x here = inr (in_second xs ys x here)

-- If `y` stands in `map f xs`, it is `f x` for some `x` that stands in `xs`.
pub in_map : {X Y : Type 0} (f : X → Y) (xs : List X) (y : Y) → In (map f xs) y → (x : X) × In xs x × (y ≡ f x)
in_map f [] y none = absurd none
in_map f (x ∷ xs) y (inl is) = (x, inl refl, is)
in_map f (x ∷ xs) y (inr rest) = let found = in_map f xs y rest in (found.0, inr found.1, found.2)

-- If `x` stands in `xs`, `f x` stands in `map f xs`.
pub in_mapped : {X Y : Type 0} (f : X → Y) (xs : List X) (x : X) → In xs x → In (map f xs) (f x)
in_mapped f [] x none = absurd none
in_mapped f (z ∷ xs) x (inl is) = inl (ap f is)
in_mapped f (z ∷ xs) x (inr rest) = inr (in_mapped f xs x rest)

-- ---- files

-- If a crash leaves the files `after` of `before`, `after` has as many files as `before`.
pub left_length : (before after : List File) → AreLeft before after → length after ≡ length before
left_length [] [] left = refl
left_length [] (g ∷ after) left = absurd left
left_length (f ∷ before) [] left = absurd left
left_length (f ∷ before) (g ∷ after) left = ap suc (left_length before after left.1)

-- `after` is the files `first` and then the file `last`, and a crash may leave `first` of `files`.
pub record LeftLast (files : List File) (after : List File) : Type 0 where
  pub first : List File
  pub last : File
  pub is : after ≡ first ++ last ∷ []
  pub left : AreLeft files first

-- If a crash may leave `after` of `files` and a new file `f`, it may leave all but the last of `after` of `files`.
pub left_without_last : (files : List File) (f : File) (after : List File) → AreLeft (files ++ f ∷ []) after
    → LeftLast files after
left_without_last [] f [] left = absurd left
left_without_last [] f (g ∷ []) left = record { first = []; last = g; is = refl; left = tt }
left_without_last [] f (g ∷ h ∷ after) left = absurd left.1
left_without_last (e ∷ files) f [] left = absurd left
left_without_last (e ∷ files) f (g ∷ after) left = let rest = left_without_last files f after left.1 in record {
  first = g ∷ rest.first;
  last = rest.last;
  is = ap (λ (l : List File). g ∷ l) rest.is;
  left = (left.0, rest.left);
}

-- If a crash may leave `after` once the file at place `k` is flushed, it may leave `after` without this flush.
pub left_flushed : (files : List File) (k : ℕ) (after : List File) → AreLeft (flush_file files k) after → AreLeft files after
left_flushed [] k after left = left
left_flushed (f ∷ files) zero [] left = absurd left
left_flushed (f ∷ files) zero (g ∷ after) left =
    (record { bytes = λ was. left.0.bytes refl; flushed = left.0.flushed }, left.1)
left_flushed (f ∷ files) (suc k) [] left = absurd left
left_flushed (f ∷ files) (suc k) (g ∷ after) left = (left.0, left_flushed files k after left.1)

-- If a crash may leave `after` once the file `found`, if any, is flushed, it may leave `after` without this flush.
pub left_flush_found : (files : List File) (found : Option ℕ) (after : List File) →
    AreLeft (flush_found files found) after → AreLeft files after
left_flush_found files None after left = left
left_flush_found files (Some k) after left = left_flushed files k after left

-- If a crash leaves `after` once the file at place `k` is flushed, this file has equal bytes in `after` and in `files`.
pub left_bytes : (files : List File) (k : ℕ) (after : List File) → AreLeft (flush_file files k) after →
    bytes_of after (Some k) ≡ bytes_of files (Some k)
left_bytes [] k [] left = refl
left_bytes [] k (g ∷ after) left = absurd left
left_bytes (f ∷ files) zero [] left = absurd left
left_bytes (f ∷ files) zero (g ∷ after) left = ap (λ (b : List ℕ). Some b) (left.0.bytes refl)
left_bytes (f ∷ files) (suc k) [] left = absurd left
left_bytes (f ∷ files) (suc k) (g ∷ after) left = left_bytes files k after left.1

-- A new file `f` is found by the number of the files before it, and gives its bytes.
pub last_bytes : (files : List File) (f : File) → bytes_of (files ++ f ∷ []) (Some (length files)) ≡ Some f.bytes
last_bytes [] f = refl
last_bytes (e ∷ files) f = last_bytes files f

-- If `k` is a place of `files`, a new file `f` after them does not change the bytes of the file at `k`.
pub first_bytes : (files : List File) (f : File) (k : ℕ) → k < length files →
    bytes_of (files ++ f ∷ []) (Some k) ≡ bytes_of files (Some k)
first_bytes [] f k lt = absurd (omega (arith, lt))
first_bytes (e ∷ files) f zero lt = refl
first_bytes (e ∷ files) f (suc k) lt = first_bytes files f k (omega (arith, lt))

-- A flush of the file at place `k` does not change the bytes of any file `id`.
pub flushed_bytes : (files : List File) (k id : ℕ) → bytes_of (flush_file files k) (Some id) ≡ bytes_of files (Some id)
flushed_bytes [] k id = refl
flushed_bytes (f ∷ files) zero zero = refl
flushed_bytes (f ∷ files) zero (suc id) = refl
flushed_bytes (f ∷ files) (suc k) zero = refl
flushed_bytes (f ∷ files) (suc k) (suc id) = flushed_bytes files k id

-- ---- calls

-- If a crash leaves `after` once `change` was made of the names of `d`, the names of `after` might stand before, or
-- they are `change` of such names.
pub change_left : (change : List Name → List Name) (d after : Disk) → Crash (after_change change d) after →
    In d.may_stand after.names ⊎ ((names : List Name) × In d.may_stand names × (after.names ≡ change names))
change_left change d after crash =
    ⊎_elim (λ before. inl before) (λ changed. inr (in_map change d.may_stand after.names changed))
    (in_append d.may_stand (map change d.may_stand) after.names crash.names)

-- If a crash may leave `after` once the file at `path` is flushed, it may leave `after` of `d`.
pub flush_left : (path : List ℕ) (d after : Disk) → Crash (after_flush path d) after → Crash d after
flush_left path d after crash = record {
  names = crash.names;
  only = crash.only;
  files = left_flush_found d.files (found_at path d.names) after.files crash.files;
}

-- If a crash leaves `after` once the names of `d` are flushed, the names of `after` are those of `d`.
pub names_left : (d after : Disk) → Crash (after_flush_names d) after → after.names ≡ d.names
names_left d after crash = ⊎_elim (λ is. is) (λ none. absurd none) crash.names

-- ---- what each call leaves to a read

-- A flush of the file `flush`, if any, does not change the bytes of the file `found`, if any.
pub flush_found_bytes : (files : List File) (flush found : Option ℕ) →
    bytes_of (flush_found files flush) found ≡ bytes_of files found
flush_found_bytes files None found = refl
flush_found_bytes files (Some k) None = refl
flush_found_bytes files (Some k) (Some id) = flushed_bytes files k id

-- A flush of the file at `flushed` does not change the content at `path`.
pub flush_is_not_read : (path flushed : List ℕ) (d : Disk) → content path (after_flush flushed d) ≡ content path d
flush_is_not_read path flushed d = flush_found_bytes d.files (found_at flushed d.names) (found_at path d.names)

-- ---- lasting

-- If a crash leaves `after` once the file `found`, if any, is flushed, this file has equal bytes in both.
left_found : (files : List File) (found : Option ℕ) (after : List File) → AreLeft (flush_found files found) after →
    bytes_of after found ≡ bytes_of files found
left_found files None after left = refl
left_found files (Some k) after left = left_bytes files k after left

-- Let the file at `path` of `d` be flushed, and then the names. If a crash leaves `found` at `path`, it is the content
-- of `d` at `path`.
pub flushes_last : (path : List ℕ) (d : Disk) (found : Option (List ℕ)) →
    Leaves (after_flush_names (after_flush path d)) path found → found ≡ content path d
flushes_last path d found left =
    sym left.2 ∙ ap (λ (n : List Name). bytes_of left.0.files (found_at path n)) (names_left (after_flush path d) left.0 left.1)
    ∙ left_found d.files (found_at path d.names) left.0.files left.1.files

-- ---- crashes that happen

-- Returns `files` as a crash leaves them if it loses no bytes.
abbrev pub with_all_bytes : List File → List File
with_all_bytes [] = []
with_all_bytes (f ∷ files) = record { bytes = f.bytes; is_flushed = true } ∷ with_all_bytes files

-- A crash may leave all bytes of `files`.
pub all_bytes_left : (files : List File) → AreLeft files (with_all_bytes files)
all_bytes_left [] = tt
all_bytes_left (f ∷ files) = (record { bytes = λ was. refl; flushed = refl }, all_bytes_left files)

-- If `names` may stand on the disk `d`, some crash of `d` leaves a disk with these names.
pub each_may_stand : (d : Disk) (names : List Name) → In d.may_stand names →
    (after : Disk) × Crash d after × (after.names ≡ names)
each_may_stand d names stands = (
  record { files = with_all_bytes d.files; names = names; may_stand = names ∷ [] },
  record { names = stands; only = refl; files = all_bytes_left d.files },
  refl,
)

-- Returns true if the file is flushed, or if there is no file.
abbrev flushed_or_none : Option File → Bool
flushed_or_none None = true
flushed_or_none (Some f) = f.is_flushed

-- A crash may leave files `after` of `files` in which the file at place `file` has the bytes `bytes`.
pub record LeftWith (files : List File) (file : ℕ) (bytes : List ℕ) : Type 0 where
  pub after : List File
  pub left : AreLeft files after
  pub is : bytes_of after (Some file) ≡ Some bytes

-- If the file `f` at place `file` is not flushed, a crash may leave any `bytes` in it.
pub any_left : (files : List File) (file : ℕ) (f : File) (bytes : List ℕ) → slice_get files file ≡ Some f →
    f.is_flushed ≡ false → LeftWith files file bytes
any_left [] file f bytes found unflushed = absurd (none-some f found)
any_left (e ∷ files) zero f bytes found unflushed = record {
  after = record { bytes = bytes; is_flushed = true } ∷ with_all_bytes files;
  left = (
    record {
      bytes = λ was. absurd (true≢false (sym was ∙ ap flushed_or_none found ∙ unflushed));
      flushed = refl;
    },
    all_bytes_left files,
  );
  is = refl;
}
any_left (e ∷ files) (suc file) f bytes found unflushed =
    let rest = any_left files file f bytes found unflushed in record {
      after = record { bytes = e.bytes; is_flushed = true } ∷ rest.after;
      left = (record { bytes = λ was. refl; flushed = refl }, rest.left);
      is = rest.is;
    }

-- If the file at `path` is not flushed, and the names of now may stand, a crash may leave any `bytes` at `path`.
pub any_bytes_left : (path : List ℕ) (d : Disk) (file : ℕ) (f : File) (bytes : List ℕ) → In d.may_stand d.names →
    found_at path d.names ≡ Some file → slice_get d.files file ≡ Some f → f.is_flushed ≡ false →
    Leaves d path (Some bytes)
any_bytes_left path d file f bytes stands found is unflushed =
    let some = any_left d.files file f bytes is unflushed in (
      record { files = some.after; names = d.names; may_stand = d.names ∷ [] },
      record { names = stands; only = refl; files = some.left },
      ap (bytes_of some.after) found ∙ some.is,
    )
