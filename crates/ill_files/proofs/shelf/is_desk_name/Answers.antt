-- Answers the contract of `is_desk_name` (`src/shelf.rt`).
use Rattle.std.proofs.Common.{List, ℕ, ap, sym, ◌∙◌}
use Rattle.std.specs.Prelude.{bytes_eq, is_ok}
use Rattle.ill_values.specs.Text.{qualifier_check}
use Rattle.ill_files.specs.ShelfNames.{desk_name}
use Rattle.ill_files.proofs.ShelfNamesLemmas.{no_desk, desk_decided}
use Rattle.ill_files.proofs.shelf.is_desk_name.Goals as goal

-- Proves the contract of `is_desk_name` if the group in the name is no qualifier. By `no_desk` no desk has the name.
pub returns-then-not-is_qualifier : goal.returns-then-not-is_qualifier
returns-then-not-is_qualifier c =
    no_desk c.args.role c.args.name.now _ c.in_ok-group.ensures
    (ap (λ (group : List ℕ). is_ok (qualifier_check group)) (sym c.deref.ensures.value) ∙ sym c.is_qualifier.ensures
    ∙ c.if-not-is_qualifier.true)

-- Proves the contract of `is_desk_name` if the group in the name is a qualifier. By `desk_decided` the result is true
-- exactly if the name of that group's desk is `name`.
pub returns : goal.returns
returns c =
    desk_decided c.args.role c.args.name.now _ _ c.in_ok-group.ensures
    (ap (λ (group : List ℕ). is_ok (qualifier_check group)) (sym c.deref.ensures.value) ∙ sym c.is_qualifier.ensures
    ∙ c.if-not-is_qualifier.false)
    (c.eq.ensures ∙ ap (λ (own : List ℕ). bytes_eq own c.args.name.now)
    (c.as_str.ensures.value ∙ c.in_ok-own.ensures ∙ ap (desk_name c.args.role) c.deref-2.ensures.value))
