-- Answers the contract of `push_fields_and_file` (`src/news.rt`).
use Rattle.std.proofs.Common.{◌≡◌, ℕ, List, [], OnOk, subst}
use Rattle.ill_text.specs.Json.{member}
use Rattle.ill_text.proofs.JsonLemmas.{joined_further}
use Rattle.ill_news.proofs.news.push_fields_and_file.Goals as goal

-- Proves the contract of `push_fields_and_file`. The field of the file follows the fields of the message.
pub returns : goal.returns
returns c =
    subst (λ (shown : List ℕ). OnOk c.push_file.result (c.push_file.new.text.items ≡ shown))
    (joined_further member [] c.args.text.now.items c.push_fields.new.text.items _ _ _ c.in_ok-push_fields.ensures)
    c.push_file.ensures
