-- States the loop invariant of `push_issued` (`src/deeds.rt`).
use Rattle.std.proofs.Common.{◌≡◌, ◌++◌, take}
use Rattle.std.specs.Prelude.{filter}
use Rattle.ill_news.specs.Deeds.{is_deed_since}
use Rattle.ill_news.proofs.deeds.push_issued.Given as goal

-- The messages so far that dates have made due are appended.
abbrev pub invariant-loop-apdu : goal.invariant-loop-apdu
invariant-loop-apdu l = record {
  printed : l.news.items ≡ l.initial.news.items
      ++ filter (is_deed_since l.day l.diary) (take l.apdu-index l.issued);
}
