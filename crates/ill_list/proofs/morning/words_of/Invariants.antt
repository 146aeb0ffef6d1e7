-- States the loop invariant of `words_of` (`src/morning.rt`).
use Rattle.std.proofs.Common.{◌≡◌, [], take}
use Rattle.std.specs.Prelude.{fold}
use Rattle.ill_list.specs.Morning.{with_words}
use Rattle.ill_list.proofs.morning.words_of.Given as goal

-- `text` has the words of the messages so far.
abbrev pub invariant-loop-apdu : goal.invariant-loop-apdu
invariant-loop-apdu l = record {
  printed : l.text.items ≡ fold (with_words l.side) [] (take l.apdu-index l.kept);
}
