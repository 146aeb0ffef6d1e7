-- States the loop invariant of `news_width` (`src/morning.rt`).
use Rattle.std.proofs.Common.{◌≡◌, map, take, Bor}
use Rattle.ill_record.specs.declared.side.Side.{Side}
use Rattle.ill_beside.specs.Since.{annex_of}
use Rattle.ill_list.specs.Morning.{news_text, text_or_dash, widest}
use Rattle.ill_list.proofs.morning.news_width.Given as goal

-- `width` is the length of the longest text of the news so far.
abbrev pub invariant-loop-side : goal.invariant-loop-side
invariant-loop-side l = record {
  widest : l.width ≡ widest (λ side. text_or_dash (news_text (annex_of l.annex).news side))
      (map (λ (side : Bor Side). side.now) (take l.side-index l.listed));
}
