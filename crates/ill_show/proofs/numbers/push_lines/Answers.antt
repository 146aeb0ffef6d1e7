-- Answers the contract of `push_lines` (`src/numbers.rt`).
use Rattle.std.proofs.Common.{◌++◌, ◌∷◌, [], map, Bor, ap, sym, ◌∙◌}
use Rattle.std.specs.List.{flat_map}
use Rattle.std.proofs.lemmas.List.{take_all}
use Rattle.std.proofs.lemmas.List.Folds.{flat_map-map}
use Rattle.ill_record.specs.declared.side.Side.{Side}
use Rattle.ill_show.specs.Numbers.{has_few_numbers, numbers_line, numbers_lines}
use Rattle.ill_beside.proofs.TextLemmas.{kept_apart}
use Rattle.ill_show.proofs.numbers.push_lines.Goals as goal

-- Proves the contract of `push_lines`. After the loop each side with few numbers left has added its line. By
-- `kept_apart` these are the lines of the sides that are filtered together.
pub returns : goal.returns
returns c =
    let path = c.args.path.now in
    let sides = c.args.sides.now in
    let each = flat_map (λ (side : Bor Side). numbers_lines path (side.now ∷ [])) in
    let all = take_all c.loop-side.side-index sides c.loop-side-test.false in
    let apart =
    kept_apart (numbers_line path) has_few_numbers (map (λ (side : Bor Side). side.now) sides)
    ∙ flat_map-map (λ (side : Side). numbers_lines path (side ∷ [])) (λ (side : Bor Side). side.now) sides in
    c.loop-side.invariant.printed ∙ ap (λ (shown : _). c.args.lines.now.items ++ each shown) all
    ∙ ap (λ lines. c.args.lines.now.items ++ lines) (sym apart)
