-- Proves that a text names the desk whose path it is.
use Rattle.std.proofs.Common.{◌≡◌, ◌∙◌, ℕ, Bool, true, false, List, [], ◌∷◌, Some, None, Option, refl, sym, ap, rules}
use Rattle.std.specs.Prelude.{bytes_eq, cond}
use Rattle.std.proofs.lemmas.Slice.Eq.{bytes_eq-Decides}
use Rattle.ill_web.specs.Pages.{file_named}

-- If `Some one` equals `Some other`, `one` equals `other`.
same_found : (one other : List ℕ) → Some one ≡ Some other → one ≡ other
same_found one other e = search (rules, e)

-- None is not `Some file`: if they are equal, all follows.
none_found : (file desk : List ℕ) → None ≡ Some file → file ≡ desk
none_found file desk e = absurd (search (rules, e))

-- If `file` is `first`, which has the text `desk`, or is found among the others, it equals `desk`. `is` says if `first`
-- has the text.
first_or : (first file desk : List ℕ) (others : Option (List ℕ)) → (others ≡ Some file → file ≡ desk) → (is : Bool)
    → bytes_eq first desk ≡ is → cond is (Some first) others ≡ Some file → file ≡ desk
first_or first file desk others next true is e = sym (same_found first file e) ∙ (bytes_eq-Decides first desk).0 is
first_or first file desk others next false is e = next e

-- If `desk` names `file` among `files`, they are one text.
pub named_is : (files : List (List ℕ)) (desk file : List ℕ) → file_named files desk ≡ Some file → file ≡ desk
named_is [] desk file e = none_found file desk e
named_is (first ∷ files) desk file e =
    first_or first file desk (file_named files desk) (named_is files desk file) (bytes_eq first desk) refl e
