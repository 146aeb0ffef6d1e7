-- Answers the contract of `push_work_objects` (`src/list.rt`).
use Rattle.std.proofs.Common.{◌++◌, Bor, ap, sym, ◌∙◌, option_map}
use Rattle.std.specs.List.{flat_map}
use Rattle.std.proofs.lemmas.List.{take_all}
use Rattle.std.proofs.lemmas.List.Folds.{flat_map-map}
use Rattle.ill_record.specs.declared.side.Side.{Side}
use Rattle.ill_list.specs.ListObjects.{row_object}
use Rattle.ill_beside.specs.Since.{annex_of}
use Rattle.ill_list.proofs.list.push_work_objects.Goals as goal

-- Proves the contract of `push_work_objects`. After the loop each side has added its object.
pub returns : goal.returns
returns c =
    let sides = c.args.sides.now in
    let old = c.args.text.now.items in
    let text = row_object (option_map (λ path. path.now) c.args.rows.now.file) (annex_of c.args.rows.now.annex.now)
    c.args.wanted.now.today c.args.work in
    c.loop-side.invariant.listed
    ∙ ap (λ (shown : _). old ++ flat_map (λ (side : Bor Side). text side.now) shown)
    (take_all c.loop-side.side-index sides c.loop-side-test.false)
    ∙ ap (λ objects. old ++ objects) (sym (flat_map-map text (λ (side : Bor Side). side.now) sides))
