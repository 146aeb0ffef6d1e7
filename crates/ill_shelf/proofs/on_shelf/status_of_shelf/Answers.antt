-- Answers the contract of `status_of_shelf` (`src/on_shelf.rt`).
use Rattle.std.proofs.Common.{ℕ, List, inr, map, Ok, true, refl, subst, sym}
use Rattle.std.specs.Prelude.{string_bytes}
use Rattle.ill_files.specs.ShelfNames.{AreOnShelf}
use Rattle.ill_text.proofs.VisitsLemmas.{graver_success}
use Rattle.ill_shelf.proofs.on_shelf.status_of_shelf.Goals as goal

-- Proves the contract of `status_of_shelf`. `visit_all` visits the desks, and nothing makes its answer graver. The
-- paths are those of desks in the folder of `place` (`here`).
pub returns : goal.returns
returns g c =
    let paths = map (λ path. string_bytes path) c.deref.result.now in
    let found = subst (λ desks. AreOnShelf c.in_ok-shelf.shelf.folder.now (map (λ path. string_bytes path) desks))
    (sym c.deref.ensures.value) c.in_ok-desks.ensures.on_shelf in
    let here = subst (λ (folder : List ℕ). AreOnShelf folder paths) c.in_ok-shelf.ensures.folder found in
    inr (paths, c.visit_all.result, Ok true, here, c.visit_all.ensures, refl, graver_success c.visit_all.result)
