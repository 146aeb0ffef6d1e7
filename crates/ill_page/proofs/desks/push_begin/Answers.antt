-- Answers the contract of `push_begin` (`src/desks.rt`).
use Rattle.std.proofs.Common.{◌++◌, ap, ◌∙◌}
use Rattle.ill_text.specs.Html.{html_text}
use Rattle.ill_page.specs.declared.parts.TheConstants.{BEGUN}
use Rattle.ill_page.specs.declared.words.TheConstants.{BEGIN}
use Rattle.ill_page.specs.Desks.{begin_form, begin_text}
use Rattle.ill_page.proofs.TextLemmas.{four_added}
use Rattle.ill_page.proofs.desks.push_begin.Goals as goal

-- Proves the contract of `push_begin`. By `four_added` the four texts that are appended make up the form.
pub returns : goal.returns
unfolding begin_text
returns c =
    let shown = c.args.shown.now in
    let first = c.push_plain.new.text.items in
    four_added c.args.page.now.items first c.push_text.new.page.items c.push_plain-2.new.text.items
    c.push_begin_form.new.page.items BEGIN.now (html_text shown.file.now) BEGUN.now
    (begin_form shown.today shown.file.now shown.sides.now.sides) c.in_ok-push_plain.ensures
    (c.in_ok-push_text.ensures.text ∙ ap (λ text. first ++ html_text text) c.as_bytes.ensures.value)
    c.in_ok-push_plain-2.ensures c.in_ok-push_begin_form.ensures
