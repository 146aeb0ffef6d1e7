-- Lemmas on the file that is found at a path after a change of names.
use Rattle.std.proofs.Common.{◌≡◌, ◌⊎◌, inl, inr, ⊎_elim, refl, sym, ◌∙◌, ap, subst, ℕ, ◌<◌, Bool, true, false, if◌then◌else◌}
use Rattle.std.proofs.Common.{List, [], ◌∷◌, Option, Some, None}
use Rattle.std.specs.Str.{bytes_eq}
use Rattle.std.proofs.lemmas.Slice.Eq.{bytes_eq-Decides}
use Rattle.ill_disk.specs.Disk.{Name, found_at, without, with_name, with_rename, AreMade}

-- A test is true or false.
true_or_false : (b : Bool) → (b ≡ true) ⊎ (b ≡ false)
true_or_false true = inl refl
true_or_false false = inr refl

-- The test `bytes_eq` of a path and itself is true.
pub same_path : (path : List ℕ) → bytes_eq path path ≡ true
same_path path = (bytes_eq-Decides path path).1 refl

-- If the paths `p` and `q` differ, the test `bytes_eq p q` is false.
pub other_path : (p q : List ℕ) → (p ≡ q → ⊥) → bytes_eq p q ≡ false
other_path p q differ = ⊎_elim (λ same. absurd (differ ((bytes_eq-Decides p q).0 same))) (λ is. is) (true_or_false (bytes_eq p q))

-- If `file` is put at `path`, it is found at `path`.
pub found_with : (path : List ℕ) (file : ℕ) (names : List Name) → found_at path (with_name path file names) ≡ Some file
found_with path file names = ap (λ (b : Bool). if b then Some file else found_at path (without path names)) (same_path path)

-- If `path` is removed from `names`, nothing is found at `path`. The cases are: the first name is at `path`, and it is
-- not.
pub found_without : (path : List ℕ) (names : List Name) → found_at path (without path names) ≡ None
found_without path [] = refl
found_without path (name ∷ names) = ⊎_elim
    (λ same. ap (λ (b : Bool). found_at path (if b then without path names else name ∷ without path names)) same
    ∙ found_without path names)
    (λ other. ap (λ (b : Bool). found_at path (if b then without path names else name ∷ without path names)) other
    ∙ ap (λ (b : Bool). if b then Some name.file else found_at path (without path names)) other
    ∙ found_without path names)
    (true_or_false (bytes_eq path name.path))

-- If `q` is another path than `p`, removing `q` does not change what is found at `p`. The cases are: the first name is
-- at `q`, and it is not.
pub found_without_other : (p q : List ℕ) (names : List Name) → (q ≡ p → ⊥) →
    found_at p (without q names) ≡ found_at p names
found_without_other p q [] differ = refl
found_without_other p q (name ∷ names) differ = ⊎_elim
    (λ same. ap (λ (b : Bool). found_at p (if b then without q names else name ∷ without q names)) same
    ∙ found_without_other p q names differ
    ∙ sym (ap (λ (b : Bool). if b then Some name.file else found_at p names)
    (other_path p name.path (λ is. differ ((bytes_eq-Decides q name.path).0 same ∙ sym is)))))
    (λ other. ap (λ (b : Bool). found_at p (if b then without q names else name ∷ without q names)) other
    ∙ ap (λ (rest : Option ℕ). if bytes_eq p name.path then Some name.file else rest)
    (found_without_other p q names differ))
    (true_or_false (bytes_eq q name.path))

-- If `q` is another path than `p`, putting `file` at `q` does not change what is found at `p`.
pub found_with_other : (p q : List ℕ) (file : ℕ) (names : List Name) → (q ≡ p → ⊥) →
    found_at p (with_name q file names) ≡ found_at p names
found_with_other p q file names differ =
    ap (λ (b : Bool). if b then Some file else found_at p (without q names)) (other_path p q (λ is. differ (sym is)))
    ∙ found_without_other p q names differ

-- If `found` is `file`, `file` is found at `to` after the rename of `found` from `from` to `to`.
pub found_moved : (from to : List ℕ) (file : ℕ) (names : List Name) (found : Option ℕ) → found ≡ Some file →
    found_at to (with_rename from to found names) ≡ Some file
found_moved from to file names found is =
    ap (λ (o : Option ℕ). found_at to (with_rename from to o names)) is ∙ found_with to file (without from names)

-- If `found` is `file`, and `from` and `to` differ, nothing is found at `from` after the rename of `found`.
pub gone_moved : (from to : List ℕ) (file : ℕ) (names : List Name) (found : Option ℕ) → found ≡ Some file →
    (from ≡ to → ⊥) → found_at from (with_rename from to found names) ≡ None
gone_moved from to file names found is differ =
    ap (λ (o : Option ℕ). found_at from (with_rename from to o names)) is
    ∙ found_with_other from to file (without from names) (λ same. differ (sym same)) ∙ found_without from names

-- The file, if there is one, is one of the first `count` files.
abbrev pub IsBelow : ℕ → Option ℕ → Type 0
IsBelow count None = Unit {0}
IsBelow count (Some file) = file < count

-- If `file` and `other` are among the first `count` files, so is the one that the test `b` chooses.
below_if : (count file : ℕ) (b : Bool) (other : Option ℕ) → file < count → IsBelow count other →
    IsBelow count (if b then Some file else other)
below_if count file true other first rest = first
below_if count file false other first rest = rest

-- If each of `names` gives one of the first `count` files, the file found at `path`, if any, is one of these.
pub below_found : (count : ℕ) (path : List ℕ) (names : List Name) → AreMade count names → IsBelow count (found_at path names)
below_found count path [] made = tt
below_found count path (name ∷ names) made =
    below_if count name.file (bytes_eq path name.path) (found_at path names) made.0 (below_found count path names made.1)

-- If each of `names` gives one of the first `count` files, and `file` is found at `path`, `file` is below `count`.
pub made_found : (count : ℕ) (path : List ℕ) (names : List Name) (file : ℕ) → AreMade count names →
    found_at path names ≡ Some file → file < count
made_found count path names file made found = subst (IsBelow count) found (below_found count path names made)
