-- Answers the contract of `push_dated_fields` (`src/list_objects.rt`).
use Rattle.std.proofs.Common.{◌≡◌, ◌++◌, ℕ, List, [], Option, OnOk, ap, subst, ◌∙◌}
use Rattle.ill_values.specs.Day.{Date}
use Rattle.ill_text.specs.Json.{joined, member}
use Rattle.ill_text.proofs.JsonLemmas.{joined_further}
use Rattle.ill_list.specs.ListObjects.{noted_fields}
use Rattle.ill_beside.specs.Since.{annex_of, since_fields}
use Rattle.ill_list.proofs.list_objects.push_dated_fields.Goals as goal

-- Proves the contract of `push_dated_fields`. The field of the day follows the fields of the loan and its note.
pub returns : goal.returns
returns c =
    let old = c.args.text.now.items in
    let row = noted_fields (annex_of c.args.annex.now).notes c.args.today c.args.work c.args.side.now in
    let text = joined_further member [] old c.push_noted_fields.new.text.items _ _ _ c.in_ok-push_noted_fields.ensures
    ∙ ap (λ (since : Option Date). old ++ joined member [] (row ++ since_fields since)) c.in_ok-since.ensures in
    subst (λ (shown : List ℕ). OnOk c.push_since_field.result (c.push_since_field.new.text.items ≡ shown)) text
    c.push_since_field.ensures
