-- Answers the contract of `note_text` (`src/notes.rt`).
use Rattle.std.proofs.Common.{ℕ, List, [], ◌∷◌, Bor, ◌∙◌}
use Rattle.ill_beside.proofs.TextLemmas.{joined_as_texts}
use Rattle.ill_beside.proofs.notes.note_text.Goals as goal

-- Proves the contract of `note_text`. Joining references to words equals joining the words.
pub returns : goal.returns
returns c = c.in_ok-join.ensures.ok ∙ joined_as_texts (λ (word : Bor (List ℕ)). word.now) (32 ∷ []) c.args.words.now
