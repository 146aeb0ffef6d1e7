-- Proves that the files that are found are found at the paths that were asked for (`src/folder.rt`).
use Rattle.std.proofs.Common.{◌≡◌, ◌<◌, ℕ, zero, suc, ◌-◌, All, ◌⊎◌, List, [], ◌∷◌, ◌++◌, map, length, take, drop, get_or}
use Rattle.std.proofs.Common.{replicate}
use Rattle.std.proofs.Common.{arith, le_refl, append-nil, append_assoc, take-append-drop, inl, inr, refl, sym, subst, ap, ◌∙◌}
use Rattle.std.proofs.lemmas.List.{drop_all, get_or-map, length-map, map-append}
use Rattle.std.proofs.lemmas.List.Elements.{All-append, All-nil, All-push}
use Rattle.std.proofs.lemmas.Str.{encode_ascii}
use Rattle.std.specs.Prelude.{Result, Ok, Err, OnOk}
use Rattle.std.specs.List.{Any}
use Rattle.std.specs.Str.Pattern.{CutsSuffixes, FindsCharSuffix}
use Rattle.ill_files.specs.Folders.{AreFoundAt, GetsFiles, IsEntryOf, IsFoundAt, IsWithoutSlashes}

-- If `P` leads to `Q`, and `P` holds if `result` is Ok, then `Q` holds if `result` is Ok.
pub on_ok : {A E P Q : Type 0} (result : Result A E) → (P → Q) → OnOk result P → OnOk result Q
on_ok (Ok done) leads is = leads is
on_ok (Err fault) leads is = is

-- If no file is appended, the files that are appended satisfy `P`.
pub gets_none : (P : List ℕ → Type 0) (files : List (List ℕ)) → GetsFiles P files files
gets_none P files = ([], sym (append-nil files), All-nil P)

-- If `file` satisfies `P`, and `new` is `old` and then `file`, `new` has got one more file, which satisfies `P`.
pub gets_one : (P : List ℕ → Type 0) (old new : List (List ℕ)) (file : List ℕ) → new ≡ old ++ file ∷ [] → P file
    → GetsFiles P old new
gets_one P old new file is passes = (file ∷ [], is, All-push P [] file (All-nil P) passes)

-- If `new` is `old`, or `old` and then `x`, whose text satisfies `P`, the texts of `new` have got files that satisfy
-- `P`.
pub gets_entry : {A : Type 0} (P : List ℕ → Type 0) (text : A → List ℕ) (old new : List A) (x : A)
    → (new ≡ old) ⊎ (new ≡ old ++ x ∷ []) → P (text x) → GetsFiles P (map text old) (map text new)
gets_entry P text old new x (inl same) passes =
    subst (λ items. GetsFiles P (map text old) (map text items)) (sym same) (gets_none P (map text old))
gets_entry P text old new x (inr more) passes =
    gets_one P (map text old) (map text new) (text x) (ap (map text) more ∙ map-append text old (x ∷ [])) passes

-- If `middle` has got files that satisfy `P` since `old`, and `new` since `middle`, then `new` has since `old`.
pub gets_more : (P : List ℕ → Type 0) (old middle new : List (List ℕ)) → GetsFiles P old middle → GetsFiles P middle new
    → GetsFiles P old new
gets_more P old middle new first then = (
  first.0 ++ then.0,
  then.1 ∙ ap (λ files. files ++ then.0) first.1 ∙ append_assoc old first.0 then.0,
  All-append P first.0 then.0 first.2 then.2,
)

-- If each file that satisfies `P` satisfies `Q`, the files that `new` has got since `old` satisfy `Q` too.
pub gets_weaker : (P Q : List ℕ → Type 0) (old new : List (List ℕ)) → ((file : List ℕ) → P file → Q file)
    → GetsFiles P old new → GetsFiles Q old new
gets_weaker P Q old new leads gets = (gets.0, gets.1, λ k d within. leads _ (gets.2 k d within))

-- If `place` is a place of `items`, the text of the item there is one of their texts.
pub asked_at : {A : Type 0} (text : A → List ℕ) (items : List A) (place : ℕ) (default : A) → place < length items
    → Any (λ other. other ≡ text (get_or items place default)) (map text items)
asked_at text items place default within = (
  place,
  text (get_or items place default),
  subst (λ (n : ℕ). place < n) (sym (length-map items text)) within,
  get_or-map text items place default (text (get_or items place default)) within,
  refl,
)

-- Let the files of `old` be found at `paths`, and those that `new` has got at `path`, one of `paths`. Then all files of
-- `new` are found at `paths`.
pub found_more : (paths old new : List (List ℕ)) (path : List ℕ) → Any (λ other. other ≡ path) paths
    → AreFoundAt paths old → GetsFiles (IsFoundAt path) old new → AreFoundAt paths new
found_more paths old new path is_asked are gets =
    subst (AreFoundAt paths) (sym gets.1)
    (All-append (λ file. Any (λ other. IsFoundAt other file) paths) old gets.0 are (λ k d within. (
      is_asked.0,
      is_asked.1,
      is_asked.2,
      is_asked.3,
      subst (λ other. IsFoundAt other _) (sym is_asked.4) (gets.2 k d within),
    )))

-- If slashes are cut off the end of `path`, one after another, and leave `folder`, `path` is `folder`
-- and these slashes.
pub cut_slashes : (path : List ℕ) (cuts : List ℕ) (folder : List ℕ) → CutsSuffixes (FindsCharSuffix 47) path cuts folder
    → IsWithoutSlashes path folder
cut_slashes path [] folder is = (0, sym is ∙ sym (append-nil folder))
cut_slashes path (size ∷ cuts) folder (longer, before, found, is) =
    let others = cut_slashes path cuts longer before in
    let start = length longer - size in
    let last : drop start longer ≡ 47 ∷ [] =
    found.1.split ∙ ap (λ (byte : List ℕ). byte ++ drop (length longer) longer) (encode_ascii 47 (omega arith))
    ∙ ap (λ (rest : List ℕ). 47 ∷ rest) (drop_all (length longer) longer (le_refl (length longer))) in
    let ends : longer ≡ folder ++ 47 ∷ [] =
    sym (take-append-drop start longer) ∙ ap (λ rest. take start longer ++ rest) last
    ∙ ap (λ front. front ++ 47 ∷ []) (sym is) in (
      suc others.0,
      others.1 ∙ ap (λ text. text ++ replicate others.0 47) ends
          ∙ append_assoc folder (47 ∷ []) (replicate others.0 47),
    )
