-- Answers the contract of `visit_paths` (`src/visit.rt`).
use Rattle.std.proofs.Common.{ℕ, Bor, List, map, inr, ap, sym, subst, ◌∙◌}
use Rattle.std.specs.Prelude.{string_bytes, ◌==◌, length}
use Rattle.ill_files.specs.Folders.{AreFoundAt}
use Rattle.ill_text.specs.Visits.{graver}
use Rattle.ill_visits.proofs.visit.visit_paths.Goals as goal

-- Proves the contract of `visit_paths` if the files are found. `visit_files` has visited the desks in them.
pub returns : goal.returns
returns g c =
    let answer = c.visit_files-answer.result in
    let asked = map (λ (path : Bor (List ℕ)). path.now) c.args.paths.now in
    let found = subst (λ files. AreFoundAt asked (map (λ file. string_bytes file) files)) (sym c.deref.ensures.value)
    c.in-Ok.ensures in
    inr (
      map (λ file. string_bytes file) c.deref.result.now,
      length c.deref-2.result.now == 0,
      answer,
      found,
      c.visit_files-answer.ensures,
      c.graver.ensures ∙ ap (λ further. graver answer further) c.warn_of_names.ensures,
    )
