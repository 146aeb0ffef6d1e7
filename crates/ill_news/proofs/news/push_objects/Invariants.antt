-- States the loop invariant of `push_objects` (`src/news.rt`).
use Rattle.std.proofs.Common.{◌≡◌, ◌++◌, take, option_map}
use Rattle.std.specs.List.{flat_map}
use Rattle.ill_news.specs.News.{news_object}
use Rattle.ill_news.proofs.news.push_objects.Given as goal

-- The objects of the messages so far are appended.
abbrev pub invariant-loop-apdu : goal.invariant-loop-apdu
invariant-loop-apdu l = record {
  shown : l.text.items ≡ l.initial.text.items
      ++ flat_map (news_object (option_map (λ path. path.now) l.file) l.sides.sides) (take l.apdu-index l.shown);
}
