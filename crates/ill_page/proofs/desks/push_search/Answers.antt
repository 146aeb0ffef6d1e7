-- Answers the contract of `push_search` (`src/desks.rt`).
use Rattle.std.proofs.Common.{◌++◌, ap, ◌∙◌}
use Rattle.ill_text.specs.Html.{html_escaped}
use Rattle.ill_report.proofs.ReportLemmas.{three_added}
use Rattle.ill_page.specs.declared.words.TheConstants.{SEARCH, SEARCH_END}
use Rattle.ill_page.specs.Desks.{search_text}
use Rattle.ill_page.proofs.desks.push_search.Goals as goal

-- Proves the contract of `push_search`. By `three_added` the three texts that are appended make up the form.
pub returns : goal.returns
unfolding search_text
returns c =
    let first = c.push_plain.new.text.items in
    three_added c.args.page.now.items first c.push_html.new.page.items c.push_plain-2.new.text.items SEARCH.now
    (html_escaped c.args.find.now) SEARCH_END.now c.in_ok-push_plain.ensures
    (c.in_ok-push_html.ensures ∙ ap (λ text. first ++ html_escaped text) c.as_bytes.ensures.value) c.in_ok-push_plain-2.ensures
