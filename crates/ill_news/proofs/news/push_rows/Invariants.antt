-- States the loop invariant of `push_rows` (`src/news.rt`).
use Rattle.std.proofs.Common.{◌≡◌, ◌++◌, take}
use Rattle.std.specs.List.{flat_map}
use Rattle.ill_news.specs.News.{news_row}
use Rattle.ill_news.proofs.news.push_rows.Given as goal

-- The lines of the messages so far are appended.
abbrev pub invariant-loop-apdu : goal.invariant-loop-apdu
invariant-loop-apdu l = record {
  shown : l.lines.items ≡ l.initial.lines.items
      ++ flat_map (news_row l.sides.sides l.columns) (take l.apdu-index l.shown);
}
