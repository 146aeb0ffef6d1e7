-- Answers the contract of `push_full_row` (`src/list_objects.rt`).
use Rattle.std.proofs.Common.{◌≡◌, ℕ, List, [], OnOk, subst}
use Rattle.ill_text.specs.Json.{member}
use Rattle.ill_text.proofs.JsonLemmas.{joined_further}
use Rattle.ill_list.proofs.list_objects.push_full_row.Goals as goal

-- Proves the contract of `push_full_row`. The field of the news follows those of the loan, its note and its day.
pub returns : goal.returns
returns c =
    subst (λ (shown : List ℕ). OnOk c.push_news_field.result (c.push_news_field.new.text.items ≡ shown))
    (joined_further member [] c.args.text.now.items c.push_dated_fields.new.text.items _ _ _ c.in_ok-push_dated_fields.ensures)
    c.push_news_field.ensures
