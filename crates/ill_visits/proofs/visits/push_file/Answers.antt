-- Answers the contract of `push_file` (`src/visits.rt`).
use Rattle.std.proofs.Common.{◌++◌, List, Option, Ok, Err, refl, ap, ◌∙◌}
use Rattle.ill_values.specs.declared.apdu.Apdu.{Apdu}
use Rattle.ill_report.specs.Report.{desk_text, report_of}
use Rattle.ill_beside.specs.Since.{AnnexRead, annex_of}
use Rattle.ill_visits.proofs.visits.push_file.Goals as goal

-- Proves the contract of `push_file` if the desk is opened. The part has its loans, with the news of the annex.
pub returns-in_ok-printed-in-Ok-clause-printed : goal.returns-in_ok-printed-in-Ok-clause-printed
returns-in_ok-printed-in-Ok-clause-printed g c =
    let sides = c.sides-sides.result.now.sides in
    let annex = annex_of c.in-Ok.annex in
    let news : Option (List Apdu) = c.in_ok-news-in-Ok.news in
    let with : Option (List Apdu) → AnnexRead =
    λ (printed : Option (List Apdu)). record { notes = annex.notes; diary = annex.diary; came = annex.came; news = printed } in
    let printed = c.in_ok-printed-in-Ok.ensures
    ∙ ap (λ page. c.args.page.now.items ++ desk_text page c.args.file.now sides (with news)) c.of_report-view.ensures
    ∙ ap (λ (printed : Option (List Apdu)).
    c.args.page.now.items ++ desk_text (report_of c.args.days.now.today) c.args.file.now sides (with printed))
    c.in_ok-news-in-Ok.ensures in
    ((c.args.file.now, Ok (sides, annex)), refl, printed, refl)

-- Proves the contract of `push_file` if the desk is not opened. The part has the fault, in the words of `push_fault`.
pub returns-in_ok-push_fault-in-Err-clause-printed : goal.returns-in_ok-push_fault-in-Err-clause-printed
returns-in_ok-push_fault-in-Err-clause-printed g c =
    let printed = c.in_ok-push_fault-in-Err.ensures in
    ((c.args.file.now, Err (c.in-Err.fault, printed.0)), refl, printed.1, refl)
