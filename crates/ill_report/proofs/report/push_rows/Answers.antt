-- Answers the contract of `push_rows` (`src/report.rt`).
use Rattle.std.proofs.Common.{◌++◌, ◌∷◌, [], map, Bor, ap, sym, ◌∙◌}
use Rattle.std.specs.List.{flat_map}
use Rattle.std.proofs.lemmas.List.{take_all}
use Rattle.std.proofs.lemmas.List.Folds.{flat_map-map}
use Rattle.ill_record.specs.declared.side.Side.{Side}
use Rattle.ill_work.specs.Order.{has_work}
use Rattle.ill_beside.specs.Since.{annex_of}
use Rattle.ill_report.specs.Report.{page_shown, row_text, rows_text}
use Rattle.ill_rows.specs.declared.soon.TheConstants.{SOON}
use Rattle.ill_beside.proofs.TextLemmas.{kept_apart}
use Rattle.ill_report.proofs.report.push_rows.Goals as goal

-- Proves the contract of `push_rows`. After the loop each loan with the work has added its row.
pub returns : goal.returns
returns c =
    let page = page_shown c.args.view.now in
    let work = c.args.work in
    let annex = annex_of c.args.annex.now in
    let sides = c.args.sides.now in
    let each = flat_map (λ (side : Bor Side). rows_text page annex work (side.now ∷ [])) in
    let all = take_all c.loop-side.side-index sides c.loop-side-test.false in
    let apart = kept_apart (row_text page annex) (has_work page.today SOON work) (map (λ (side : Bor Side). side.now) sides)
    ∙ flat_map-map (λ (side : Side). rows_text page annex work (side ∷ [])) (λ (side : Bor Side). side.now) sides in
    c.loop-side.invariant.printed ∙ ap (λ (printed : _). c.args.page.now.items ++ each printed) all
    ∙ ap (λ text. c.args.page.now.items ++ text) (sym apart)
