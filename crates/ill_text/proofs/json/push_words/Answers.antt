-- Answers the contract of `push_words` (`src/json.rt`).
use Rattle.std.proofs.Common.{◌≡◌, ◌++◌, ◌∷◌, [], List, ℕ, Bor, OnOk, subst}
use Rattle.ill_text.specs.Json.{quoted}
use Rattle.ill_text.proofs.JsonLemmas.{joined_map}
use Rattle.ill_text.proofs.json.push_words.Goals as goal

-- Proves the contract of `push_words`. By `joined_map` an array of `words` is an array of their texts.
pub returns : goal.returns
returns c =
    subst (λ texts. OnOk c.push_array.result (c.push_array.new.text.items ≡ c.args.text.now.items ++ 91 ∷ (texts ++ 93 ∷ [])))
    (joined_map quoted (λ (word : Bor (List ℕ)). word.now) [] c.args.words.now) c.push_array.ensures
