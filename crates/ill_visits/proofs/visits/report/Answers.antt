-- Answers the contract of `report` (`src/visits.rt`).
use Rattle.std.proofs.Common.{ℕ, Bor, List, ◌++◌, map, ap, sym, subst, inr, ◌∙◌}
use Rattle.std.specs.Prelude.{IfErr, Option, string_bytes, ◌==◌, length}
use Rattle.ill_files.specs.Folders.{AreFoundAt}
use Rattle.ill_files.specs.Opening.{after_writing}
use Rattle.ill_files.specs.Opening.{names_answer}
use Rattle.ill_text.specs.Output.{WritesText}
use Rattle.ill_visits.specs.Parts.{AddsParts}
use Rattle.ill_report.specs.Report.{page_end, page_head}
use Rattle.ill_text.specs.Visits.{graver}
use Rattle.ill_visits.proofs.visits.report.Goals as goal
use Rattle.ill_text.specs.Fault.{IsOpenFault}

-- Proves the contract of `report`. The page is the head, the parts of all desks and the end (`whole`). Nothing is
-- written before the page (`silent`). `result` proves that the answer is the gravest fault. `found` proves that each
-- desk is found at one of the paths.
pub returns : goal.returns
returns g c =
    let today = c.args.today in
    let head = page_head today in
    let names = map (λ file. string_bytes file) c.deref.result.now in
    let page = c.push_files.new.page.items in
    let answer = c.in_ok-answer.answer in
    let begun = c.in_ok-push_head.ensures ∙ ap (λ start. start ++ head) c.new-page.ensures.items in
    let printed = subst (λ (before : List ℕ). AddsParts today c.args.since names before page answer) begun
    c.in_ok-answer.ensures.printed in
    let parts = printed.0 in
    let whole = ap (λ text. text ++ page_end) printed.2 in
    let silent = ap (λ writer. g.W.Write.contents writer) c.in_ok-answer.ensures.silent in
    let after = g.W.Write.contents c.end_page.new.writer in
    let ended = subst (λ (before : Option (List ℕ)). WritesText before after (page ++ page_end) c.end_page.result) silent
    c.end_page.ensures in
    let written = subst (λ (text : List ℕ).
    WritesText (g.W.Write.contents c.args.machine.now.writer) after text c.end_page.result) whole ended in
    let are_texts = length c.deref-2.result.now == 0 in
    let fault = subst (λ answer. IfErr answer IsOpenFault) printed.3 c.in_ok-answer.ensures.fault in
    let result = c.after_writing.ensures ∙ ap (λ answer. after_writing c.end_page.result answer)
    (c.graver-answer.ensures ∙ ap (λ further. graver answer further) c.warn_of_names.ensures
    ∙ ap (λ answer. graver answer (names_answer are_texts)) printed.3) in
    let asked = map (λ (path : Bor (List ℕ)). path.now) c.args.paths.now in
    let opened = subst (λ files. AreFoundAt asked (map (λ file. string_bytes file) files)) (sym c.deref.ensures.value)
    c.in_ok-found.ensures in
    let found = subst (AreFoundAt asked) (sym printed.1) opened in
    inr (parts, are_texts, c.end_page.result, found, fault, written, result)
