-- States the loop invariant of `news_of` (`src/news.rt`).
use Rattle.std.proofs.Common.{◌≡◌, [], take, Bor, List}
use Rattle.std.specs.Prelude.{fold}
use Rattle.ill_values.specs.declared.apdu.Apdu.{Apdu}
use Rattle.ill_news.specs.News.{with_news}
use Rattle.ill_news.proofs.news.news_of.Given as goal

-- `news` has the messages that were taken among those so far, each once.
abbrev pub invariant-loop-apdu : goal.invariant-loop-apdu
invariant-loop-apdu l = record {
  kept : l.news.items ≡ fold (λ (news : List Apdu) (a : Bor Apdu). with_news l.sides.sides news a.now) []
      (take l.apdu-index l.came);
}
