-- Answers the contract of `verbs_text` (`src/row.rt`).
use Rattle.std.proofs.Common.{ℕ, List, [], ◌∷◌, map, Bor, ap, sym, ◌∙◌}
use Rattle.std.specs.List.{join_by}
use Rattle.ill_core.specs.Verbs.{verb_name}
use Rattle.ill_words.specs.Possible.{possible_on}
use Rattle.ill_beside.proofs.TextLemmas.{joined_as_texts}
use Rattle.ill_list.proofs.row.verbs_text.Goals as goal

-- Proves the contract of `verbs_text`. Joining the names of verbs equals joining the verbs by their names.
pub returns : goal.returns
returns c =
    let text : Bor (List ℕ) → List ℕ = λ name. name.now in
    let verbs = possible_on c.args.today c.args.side.now in
    let named = c.in_ok-names.ensures ∙ ap (map verb_name) (c.deref.ensures.value ∙ c.in_ok-verbs.ensures) in
    c.in_ok-join.ensures.ok ∙ ap (join_by text (44 ∷ [])) c.deref-2.ensures.value
    ∙ joined_as_texts text (44 ∷ []) c.in_ok-names.field-0.items
    ∙ ap (join_by (λ (t : List ℕ). t) (44 ∷ [])) named ∙ sym (joined_as_texts verb_name (44 ∷ []) verbs)
