-- Answers the contract of `answer` (`src/serve.rt`).
use Rattle.std.proofs.Common.{ℕ, Bor, List, Ok, map, inr, sym, subst}
use Rattle.std.specs.Prelude.{string_bytes}
use Rattle.ill_files.specs.Folders.{AreFoundAt}
use Rattle.ill_web.proofs.serve.answer.Goals as goal

-- Proves the contract of `answer` if the request is read and the desks are found. By `desk_paths` these are found at
-- the operator's paths, and `reply_to` answers at them.
pub returns : goal.returns
returns g c =
    let files = c.in_ok-found.found.files.items in
    let asked = subst (λ (paths : List (Bor (List ℕ))). AreFoundAt (map (λ path. path.now) paths)
    (map (λ file. string_bytes file) files)) c.deref.ensures.value c.in_ok-found.ensures in
    let found = subst (λ files. AreFoundAt (map (λ (path : Bor (List ℕ)). path.now) c.args.request.operator.now.paths.items)
    (map (λ file. string_bytes file) files)) (sym c.deref-2.ensures.value) asked in (
      c.reply_to.ensures.0,
      (
        Ok c.in_ok-wanted.wanted,
        c.in_ok-wanted.ensures,
        inr (map (λ file. string_bytes file) c.deref-2.result.now, found, c.reply_to.ensures.1),
      ),
    )
