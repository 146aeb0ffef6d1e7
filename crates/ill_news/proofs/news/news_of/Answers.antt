-- Answers the contract of `news_of` (`src/news.rt`).
use Rattle.std.proofs.Common.{Bor, List, [], ap, sym, ◌∙◌}
use Rattle.std.specs.Prelude.{fold}
use Rattle.std.proofs.lemmas.List.{take_all}
use Rattle.std.proofs.lemmas.List.Folds.{fold-map}
use Rattle.ill_values.specs.declared.apdu.Apdu.{Apdu}
use Rattle.ill_news.specs.News.{with_news}
use Rattle.ill_news.proofs.news.news_of.Goals as goal

-- Proves the contract of `news_of`. After the loop, the messages so far are all.
pub returns : goal.returns
returns c =
    let sides = c.args.sides.now.sides in
    let came = c.args.came.now in
    let all = take_all c.loop-apdu.apdu-index came c.loop-apdu-test.false in
    c.loop-apdu.invariant.kept
    ∙ ap (fold (λ (news : List Apdu) (a : Bor Apdu). with_news sides news a.now) []) all
    ∙ sym (fold-map (with_news sides) (λ (a : Bor Apdu). a.now) [] came)
