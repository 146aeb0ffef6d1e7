-- Proves the contract of `text::is_item`: the result of `from_utf8` agrees with `is_utf8`.
use Rattle.std.proofs.Common.{◌∙◌}
use Rattle.ill_values.proofs.Texts.{is_ok-from_utf8}
use Rattle.ill_values.proofs.text.is_item.Goals as goal

pub returns-then-has_no_control : goal.returns-then-has_no_control
returns-then-has_no_control c =
    let e = c.is_ok.ensures.value ∙ is_ok-from_utf8 c.args.text.now c.from_utf8.result _ _ c.from_utf8.ensures.cases in
    rw (← c.has_no_control.ensures, c.if-has_no_control.true) e
