-- Answers the contract of `found_of` (`src/finding.rt`).
use Rattle.std.proofs.Common.{ℕ, List, Option, Bor, map, option_map, ap, sym, ◌∙◌}
use Rattle.std.specs.Prelude.{filter}
use Rattle.ill_record.specs.declared.side.Side.{Side}
use Rattle.ill_rows.specs.Finding.{is_found}
use Rattle.ill_rows.proofs.FindingLemmas.{all_found}
use Rattle.ill_rows.proofs.finding.found_of.Goals as goal

-- Proves the contract of `found_of` if no words are sought. By `all_found` all loans are found then.
pub returns-in_ok-from_slice-in-None : goal.returns-in_ok-from_slice-in-None
returns-in_ok-from_slice-in-None c =
    let notes = c.args.notes.now in
    let sides = map (λ (side : Bor Side). side.now) c.args.sides.now in
    let found : Option (Bor (List ℕ)) → List Side = λ find.
    filter (is_found (option_map (λ words. words.now) find) notes) sides in
    ap (map (λ (side : Bor Side). side.now)) c.in_ok-from_slice-in-None.ensures.items
    ∙ sym (ap found c.in-None.is ∙ all_found notes sides)
