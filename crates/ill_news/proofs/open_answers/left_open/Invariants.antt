-- States the loop invariant of `left_open` (`src/open_answers.rt`).
use Rattle.std.proofs.Common.{◌≡◌, map, take, Bor}
use Rattle.std.specs.Prelude.{filter}
use Rattle.ill_values.specs.declared.apdu.Apdu.{Apdu}
use Rattle.ill_news.specs.OpenAnswers.{is_left}
use Rattle.ill_news.proofs.open_answers.left_open.Given as goal

-- `left` has the open answers so far that `news` lack.
abbrev pub invariant-loop-apdu : goal.invariant-loop-apdu
invariant-loop-apdu l = record {
  kept : map (λ (a : Bor Apdu). a.now) l.left.items ≡ filter (is_left l.notes l.news) (take l.apdu-index l.came);
}
