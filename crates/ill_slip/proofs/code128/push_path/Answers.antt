-- Answers the contract of `push_path` (`src/code128.rt`).
use Rattle.std.proofs.Common.{◌≡◌, ◌++◌, List, ℕ, codes, sym, subst, ap, ◌∙◌}
use Rattle.std.specs.List.{flat_map}
use Rattle.ill_slip.specs.Code128.{check, drawn, start, stop, value_of}
use Rattle.ill_slip.proofs.PathLemmas.{grown, path_of_code}
use Rattle.ill_slip.proofs.code128.push_path.Goals as goal

-- Proves the contract of `push_path`. By `path_of_code` the pieces that are appended make up the path. `started` to
-- `ended` are the page after each piece.
pub returns : goal.returns
returns c =
    let text = c.args.text.now in
    let before = c.args.page.now.items in
    let started = c.push_symbol.new.page.items in
    let written = c.push_characters.new.page.items in
    let checked = c.push_symbol-2.new.page.items in
    let stopped = c.push_symbol-3.new.page.items in
    let ended = c.extend_from_slice.new.self.items in
    let characters = flat_map (λ character. drawn (value_of character)) text in
    let check_drawn = c.in_ok-push_symbol-2.ensures ∙ ap (λ value. written ++ drawn value) c.check.ensures.value in
    subst (λ (path : List ℕ). ended ≡ before ++ path) (sym (path_of_code text))
    (grown before started ended (drawn start) (characters ++ (drawn (check text) ++ (drawn stop ++ codes "h2")))
    c.in_ok-push_symbol.ensures
    (grown started written ended characters (drawn (check text) ++ (drawn stop ++ codes "h2")) c.in_ok-push_characters.ensures
    (grown written checked ended (drawn (check text)) (drawn stop ++ codes "h2") check_drawn
    (grown checked stopped ended (drawn stop) (codes "h2") c.in_ok-push_symbol-3.ensures
    c.in_ok-extend_from_slice.ensures.items))))
