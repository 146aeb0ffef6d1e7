-- Answers the contract of `run_desk_news` (`src/news.rt`).
use Rattle.std.proofs.Common.{ℕ, ◌++◌, List, subst}
use Rattle.ill_record.specs.Sides.{SidesOf}
use Rattle.ill_text.specs.Output.{WritesPrefix}
use Rattle.ill_rows.specs.Heading.{between}
use Rattle.ill_rows.specs.Messages.{IsTextOf}
use Rattle.ill_news.specs.News.{news_desk}
use Rattle.ill_news.specs.PrintedNews.{printed_since}
use Rattle.ill_rows.proofs.MessageLemmas.{writes_news}
use Rattle.ill_news.proofs.news.run_desk_news.Goals as goal

-- Proves the contract of `run_desk_news` if there is memory for the text. The text of the news of the desk's sides is
-- written.
pub returns-in-Ok : goal.returns-in-Ok
returns-in-Ok g c =
    let listed = c.args.listed.now in
    let before = g.W.Write.contents c.args.writer.now in
    let after = g.W.Write.contents c.write_whole.new.writer in
    let text = c.in-Ok.text.items in
    let came = c.args.came.now in
    let printed = printed_since came.since came.notes.now came.diary.now in
    let is = subst (λ (sides : SidesOf). IsTextOf (λ apdus. between listed.form listed.is_first
    ++ news_desk listed.form listed.is_headed came.last listed.path.now sides.sides (printed sides.sides apdus))
    came.bytes.now text) c.sides.ensures.value c.in-Ok.ensures in
    let writes = subst (λ (t : List ℕ). WritesPrefix before after t c.write_whole.result) c.deref.ensures.value
    c.write_whole.ensures in
    writes_news _ came.bytes.now text before after c.write_whole.result is writes
