-- Answers the contract of `push_day` (`src/report.rt`).
use Rattle.std.proofs.Common.{◌++◌, ap, ◌∙◌}
use Rattle.ill_report.specs.declared.report_parts.TheConstants.{TIME_END}
use Rattle.ill_values.specs.Day.{iso_text}
use Rattle.ill_report.proofs.ReportLemmas.{three_added}
use Rattle.ill_report.proofs.report.push_day.Goals as goal

-- Proves the contract of `push_day`. By `three_added` the three texts that are appended make up the day.
pub returns : goal.returns
returns c =
    let before = c.args.page.now.items in
    let first = c.extend_from_slice.new.self.items in
    let second = c.extend_from_slice-2.new.self.items in
    three_added before first second c.extend_from_slice-3.new.self.items c.args.words.now (iso_text c.args.day) TIME_END.now
    (c.in_ok-extend_from_slice.ensures.items ∙ ap (λ bytes. before ++ bytes) c.as_bytes.ensures.value)
    (c.in_ok-extend_from_slice-2.ensures.items ∙ ap (λ bytes. first ++ bytes) c.iso.ensures.value)
    (c.in_ok-extend_from_slice-3.ensures.items ∙ ap (λ bytes. second ++ bytes) c.as_bytes-2.ensures.value)
