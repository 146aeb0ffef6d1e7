-- Answers the contract of `first` (`src/field.rt`): the fields of the code are found as those of the definition.
use Rattle.std.proofs.Common.{◌∙◌, ℕ, List, Some, option_map, ap, sym}
use Rattle.std.specs.Prelude.{bytes_eq, string_bytes}
use Rattle.std.specs.List.{find}
use Rattle.ill_browser.specs.declared.field.Field.{Field}
use Rattle.ill_browser.proofs.FieldLemmas.{first_is}
use Rattle.ill_browser.proofs.field.first.Goals as goal

-- If a field has the name, the first such `Field` has the value of the definition. `same` compares as bytes.
pub returns-in-Some : goal.returns-in-Some
returns-in-Some c =
    let same = ap (λ (name : List ℕ). find (λ (field : Field). bytes_eq field.name.now name) c.args.fields.now)
    c.as_bytes.ensures.value in
    ap Some c.as_str.ensures.value
    ∙ ap (option_map (λ (field : Field). string_bytes field.value)) (c.in-Some.ensures ∙ same)
    ∙ sym (first_is c.args.name.now c.args.fields.now)

-- If no field has the name, the definition finds none either.
pub returns-in-None : goal.returns-in-None
returns-in-None c =
    let same = ap (λ (name : List ℕ). find (λ (field : Field). bytes_eq field.name.now name) c.args.fields.now)
    c.as_bytes.ensures.value in
    ap (option_map (λ (field : Field). string_bytes field.value)) (c.in-None.ensures ∙ same)
    ∙ sym (first_is c.args.name.now c.args.fields.now)
