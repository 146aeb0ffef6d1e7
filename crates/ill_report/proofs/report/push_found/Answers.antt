-- Answers the contract of `push_found` (`src/report.rt`).
use Rattle.std.proofs.Common.{◌≡◌, ◌++◌, List, Bor, OnOk, map, ap, subst, ◌∙◌}
use Rattle.std.specs.List.{flat_map}
use Rattle.ill_record.specs.declared.side.Side.{Side}
use Rattle.ill_beside.specs.Since.{annex_of}
use Rattle.ill_work.specs.declared.work.Work.{Work}
use Rattle.ill_report.specs.Report.{page_shown, work_text, works_text}
use Rattle.ill_report.proofs.report.push_found.Goals as goal

-- Proves the contract of `push_found`. `push_works` appends the tables of the loans that `found_of` returns.
pub returns : goal.returns
returns c =
    let page = page_shown c.args.view.now in
    let annex = annex_of c.args.annex.now in
    let old = c.args.page.now.items in
    let new = c.push_works.new.page.items in
    let printed = subst (λ (works : List Work). OnOk c.push_works.result
    (new ≡ old ++ flat_map (work_text page annex (map (λ (side : Bor Side). side.now) c.deref.result.now)) works)) c.all.ensures
    c.push_works.ensures in
    subst (λ (sides : List Side). OnOk c.push_works.result (new ≡ old ++ works_text page annex sides))
    (ap (map (λ (side : Bor Side). side.now)) c.deref.ensures.value ∙ c.in_ok-found.ensures) printed
