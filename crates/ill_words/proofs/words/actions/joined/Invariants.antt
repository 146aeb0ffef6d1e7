-- The loop of `joined` (`src/words/actions.rt`) keeps this invariant.
use Rattle.std.proofs.Common.{◌≡◌, map, take}
use Rattle.ill_words.specs.Words.{spaced}
use Rattle.ill_words.proofs.words.actions.joined.Given as goal

-- `text` is `first` and the words of `more` so far, joined by spaces.
abbrev pub invariant-loop-word : goal.invariant-loop-word
invariant-loop-word l = l.text.items ≡ spaced l.first (map (λ word. word.now) (take l.word-index l.more))
