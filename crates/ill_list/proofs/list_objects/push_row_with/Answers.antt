-- Answers the contract of `push_row_with` (`src/list_objects.rt`).
use Rattle.std.proofs.Common.{◌≡◌, ℕ, List, [], OnOk, subst}
use Rattle.ill_text.specs.Json.{member}
use Rattle.ill_text.proofs.JsonLemmas.{joined_further}
use Rattle.ill_list.proofs.list_objects.push_row_with.Goals as goal

-- Proves the contract of `push_row_with`. The fields of the loan follow its kind and its work.
pub returns : goal.returns
returns c =
    subst (λ (shown : List ℕ). OnOk c.push_listed_fields.result (c.push_listed_fields.new.text.items ≡ shown))
    (joined_further member [] c.args.text.now.items c.push_kind.new.text.items _ _ _ c.in_ok-push_kind.ensures)
    c.push_listed_fields.ensures
