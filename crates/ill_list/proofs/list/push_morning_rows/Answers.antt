-- Answers the contract of `push_morning_rows` (`src/list.rt`).
use Rattle.std.proofs.Common.{◌++◌, Bor, ap, sym, ◌∙◌}
use Rattle.std.specs.List.{flat_map}
use Rattle.std.proofs.lemmas.List.{take_all}
use Rattle.std.proofs.lemmas.List.Folds.{flat_map-map}
use Rattle.ill_record.specs.declared.side.Side.{Side}
use Rattle.ill_list.specs.Listing.{printed_morning}
use Rattle.ill_beside.specs.Since.{annex_of}
use Rattle.ill_list.proofs.list.push_morning_rows.Goals as goal

-- Proves the contract of `push_morning_rows`. After the loop each side has added its line.
pub returns : goal.returns
returns c =
    let sides = c.args.sides.now in
    let old = c.args.lines.now.items in
    let text = printed_morning c.args.rows.now.columns (annex_of c.args.rows.now.annex.now) c.args.wanted.now in
    c.loop-side.invariant.listed
    ∙ ap (λ (shown : _). old ++ flat_map (λ (side : Bor Side). text side.now) shown)
    (take_all c.loop-side.side-index sides c.loop-side-test.false)
    ∙ ap (λ lines. old ++ lines) (sym (flat_map-map text (λ (side : Bor Side). side.now) sides))
