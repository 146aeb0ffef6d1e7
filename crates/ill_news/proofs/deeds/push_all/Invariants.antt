-- States the loop invariant of `push_all` (`src/deeds.rt`).
use Rattle.std.proofs.Common.{◌≡◌, ◌++◌, map, take, Bor, Some}
use Rattle.ill_record.specs.declared.side.Side.{Side}
use Rattle.ill_news.specs.Deeds.{deeds_since}
use Rattle.ill_news.proofs.deeds.push_all.Given as goal

-- The messages of the sides so far that dates have made due are appended.
abbrev pub invariant-loop-side : goal.invariant-loop-side
invariant-loop-side l = record {
  printed : l.news.items ≡ l.initial.news.items ++ deeds_since (Some l.day) l.diary
      (map (λ (side : Bor Side). side.now) (take l.side-index l.sides));
}
