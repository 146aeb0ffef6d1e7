-- Answers the contract of `push_head_with` (`src/report.rt`).
use Rattle.std.proofs.Common.{◌≡◌, ◌++◌, ℕ, List, OnOk, ap, subst, ◌∙◌}
use Rattle.ill_values.specs.Day.{iso_text}
use Rattle.ill_report.specs.declared.report_parts.TheConstants.{PAGE, STYLE_END, DESKS}
use Rattle.ill_report.specs.Report.{page_head_with}
use Rattle.ill_report.proofs.ReportLemmas.{four_added}
use Rattle.ill_report.proofs.report.push_head_with.Goals as goal

-- Proves the contract of `push_head_with`. By `four_added` the five texts that are appended make up the head.
pub returns : goal.returns
unfolding page_head_with
returns c =
    let before = c.args.page.now.items in
    let third = c.push_plain-3.new.text.items in
    let text = four_added before c.push_plain.new.text.items c.push_plain-2.new.text.items third
    c.extend_from_slice.new.self.items PAGE.now c.args.style.now STYLE_END.now (iso_text c.args.today) DESKS.now
    c.in_ok-push_plain.ensures c.in_ok-push_plain-2.ensures c.in_ok-push_plain-3.ensures
    (c.in_ok-extend_from_slice.ensures.items ∙ ap (λ bytes. third ++ bytes) c.iso.ensures.value) in
    subst (λ (shown : List ℕ). OnOk c.push_plain-4.result (c.push_plain-4.new.text.items ≡ shown)) text c.push_plain-4.ensures
