-- States the loop invariant of `push_news_lines` (`src/listed_news.rt`).
use Rattle.std.proofs.Common.{◌≡◌, ◌++◌, take}
use Rattle.std.specs.List.{flat_map}
use Rattle.ill_list.specs.ListedNews.{news_line}
use Rattle.ill_list.proofs.listed_news.push_news_lines.Given as goal

-- The lines of the messages so far are appended.
abbrev pub invariant-loop-apdu : goal.invariant-loop-apdu
invariant-loop-apdu l = record {
  printed : l.lines.items ≡ l.initial.lines.items ++ flat_map (news_line l.side) (take l.apdu-index l.kept);
}
