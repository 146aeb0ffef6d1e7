-- States the loop invariant of `all_of` (`src/came_since.rt`).
use Rattle.std.proofs.Common.{◌≡◌, map, take, Bor}
use Rattle.ill_values.specs.declared.apdu.Apdu.{Apdu}
use Rattle.ill_news.proofs.came_since.all_of.Given as goal

-- `all` has the messages so far.
abbrev pub invariant-loop-apdu : goal.invariant-loop-apdu
invariant-loop-apdu l = record {
  all : map (λ (a : Bor Apdu). a.now) l.all.items ≡ take l.apdu-index l.apdus;
}
