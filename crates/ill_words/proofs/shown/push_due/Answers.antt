-- Proves the clause `prefix` of `push_due` (`src/shown.rt`) if memory runs out. Then no byte of the date was added.
use Rattle.std.proofs.Common.{rules, ◌≡◌, ◌<◌, Some, length, sym, subst}
use Rattle.ill_values.specs.Day.{date_text}
use Rattle.ill_der.specs.Adding.{AddsPrefix}
use Rattle.ill_words.specs.Shown.{due_text}
use Rattle.ill_der.proofs.AddingLemmas.{adds_nothing, at_err}
use Rattle.ill_words.proofs.shown.push_due.Goals as goal

pub returns-in_err-extend_from_slice-in-Some-clause-prefix : goal.returns-in_err-extend_from_slice-in-Some-clause-prefix
returns-in_err-extend_from_slice-in-Some-clause-prefix c =
    let old = c.args.lines.now.items in
    let new = c.extend_from_slice.new.self.items in
    let stays : new ≡ old = search rules in
    let is : c.args.due ≡ Some c.in-Some.day = search rules in
    let some : 0 < length (date_text c.in-Some.day) = search rules in
    at_err c.from_residual-in_err-extend_from_slice-in-Some.result
    (subst (λ due. AddsPrefix old new (due_text due)) (sym is) (adds_nothing old new (date_text c.in-Some.day) stays some))
