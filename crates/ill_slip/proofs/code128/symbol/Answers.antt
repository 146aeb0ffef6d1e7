-- Answers the contract of `symbol` (`src/code128.rt`).
use Rattle.std.proofs.Common.{arith, sym}
use Rattle.std.proofs.lemmas.List.{get_or_past}
use Rattle.ill_slip.specs.Code128.{symbols}
use Rattle.ill_slip.proofs.code128.symbol.Goals as goal

-- Proves the contract of `symbol` for a value that has no symbol. It is past the end of the table.
pub returns-else-place-lt107 : goal.returns-else-place-lt107
returns-else-place-lt107 c =
    sym (get_or_past symbols c.args.value 0 (omega (arith, c.if-place-lt107.false, c.from-place.ensures)))
