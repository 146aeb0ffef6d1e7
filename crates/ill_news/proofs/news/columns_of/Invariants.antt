-- States the loop invariant of `columns_of` (`src/news.rt`).
use Rattle.std.proofs.Common.{◌≡◌, take}
use Rattle.std.specs.Prelude.{fold}
use Rattle.ill_news.specs.News.{no_columns, widened}
use Rattle.ill_news.proofs.news.columns_of.Given as goal

-- The columns are wide enough for the messages so far.
abbrev pub invariant-loop-apdu : goal.invariant-loop-apdu
invariant-loop-apdu l = record {
  widened : l.columns ≡ fold (widened l.sides.sides) no_columns (take l.apdu-index l.shown);
}
