-- States the loop invariant of `new_of` (`src/came_since.rt`).
use Rattle.std.proofs.Common.{◌≡◌, map, take, Bor}
use Rattle.std.specs.Prelude.{filter}
use Rattle.ill_values.specs.declared.apdu.Apdu.{Apdu}
use Rattle.ill_news.specs.CameSince.{is_new}
use Rattle.ill_news.proofs.came_since.new_of.Given as goal

-- `new` has the messages so far that no line of an earlier day names.
abbrev pub invariant-loop-apdu : goal.invariant-loop-apdu
invariant-loop-apdu l = record {
  kept : map (λ (a : Bor Apdu). a.now) l.new.items
      ≡ filter (is_new l.day l.diary) (take l.apdu-index l.apdus);
}
