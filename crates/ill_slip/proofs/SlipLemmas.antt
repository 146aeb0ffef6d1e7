-- Proves what the command `slip` writes.
use Rattle.std.proofs.Common.{ℕ, List, Option, Result, Ok, Err, sym, subst}
use Rattle.ill_text.specs.declared.fault.ToolFault.{ToolFault}
use Rattle.ill_text.specs.Output.{WritesPrefix, WritesText}

-- If `WritesPrefix` holds of `text` and `result`, `WritesText` holds of them too.
pub writes_page : (before after : Option (List ℕ)) (text : List ℕ) (result : Result (Unit {0}) ToolFault)
    → WritesPrefix before after text result → WritesText before after text result
writes_page before after text (Ok done) writes = writes
writes_page before after text (Err fault) writes =
    subst (λ (f : ToolFault). WritesText before after text (Err f)) (sym writes.0) writes.1
