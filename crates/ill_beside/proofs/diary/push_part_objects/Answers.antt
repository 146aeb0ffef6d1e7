-- Answers the contract of `push_part_objects` (`src/diary.rt`).
use Rattle.std.proofs.Common.{◌≡◌, ◌++◌, ◌∷◌, [], List, ℕ, OnOk, subst}
use Rattle.ill_text.proofs.JsonLemmas.{joined_map}
use Rattle.ill_beside.specs.Diary.{part_object, printed}
use Rattle.ill_beside.proofs.diary.push_part_objects.Goals as goal

-- Proves the contract of `push_part_objects`. By `joined_map` the array of `parts` is that of what they tell.
pub returns : goal.returns
returns c =
    subst (λ (texts : List ℕ). OnOk c.push_array.result
    (c.push_array.new.text.items ≡ c.args.text.now.items ++ 91 ∷ (texts ++ 93 ∷ [])))
    (joined_map part_object printed [] c.args.parts.now) c.push_array.ensures
