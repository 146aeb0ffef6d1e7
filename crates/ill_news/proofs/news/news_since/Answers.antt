-- Answers the contract of `news_since` (`src/news.rt`).
use Rattle.std.proofs.Common.{List, Option, Some, ap, sym, ◌∙◌}
use Rattle.ill_values.specs.Day.{Date}
use Rattle.ill_values.specs.declared.apdu.Apdu.{Apdu}
use Rattle.ill_beside.specs.Since.{annex_of}
use Rattle.ill_news.specs.PrintedNews.{news_since, printed_since}
use Rattle.ill_news.proofs.news.news_since.Goals as goal

-- Proves the contract of `news_since` if a day is given. The news are printed by the lines of the diary and by what
-- came.
pub returns-in_ok-of-in-Some : goal.returns-in_ok-of-in-Some
returns-in_ok-of-in-Some c =
    let annex = annex_of c.args.annex.now in
    let sides = c.args.sides.now.sides in
    let day = c.in-Some.is in
    let printed = c.in_ok-of-in-Some.ensures ∙ c.in_ok-printed-in-Some.ensures
    ∙ ap (λ (came : List Apdu). printed_since c.args.since annex.notes annex.diary sides came) c.as_apdus.ensures
    ∙ ap (λ (since : Option Date). printed_since since annex.notes annex.diary sides annex.came) day in
    ap Some printed ∙ sym (ap (λ (since : Option Date). news_since since annex sides) day)
