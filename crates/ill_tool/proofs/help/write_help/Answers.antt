-- Answers the contract of `write_help` (`src/help.rt`).
use Rattle.std.proofs.Common.{◌≡◌, ℕ, List, [], Option, Result, subst, sym, rules}
use Rattle.std.specs.Prelude.{Ok, Err}
use Rattle.ill_text.specs.Output.{WritesPrefix, WritesText}
use Rattle.ill_text.specs.declared.fault.ToolFault.{ToolFault}
use Rattle.ill_tool.proofs.help.write_help.Goals as goal

-- If `WritesPrefix` allows `result` for `text`, `WritesText` allows it.
as_text : (before after : Option (List ℕ)) (text : List ℕ) (result : Result (Unit {0}) ToolFault)
    → WritesPrefix before after text result → WritesText before after text result
as_text before after text (Ok done) written = written
as_text before after text (Err fault) written =
    subst (λ (fault : ToolFault). WritesText before after text (Err fault)) (sym written.0) written.1

-- Proves the contract of `write_help` if the text of the objects was made. Then `write_whole` wrote it.
pub returns-in-Ok : goal.returns-in-Ok
returns-in-Ok g c = (c.deref.result.now, as_text _ _ _ _ c.write_whole.ensures)

-- Proves the contract of `write_help` if memory ran out before anything was written. The text is then empty.
pub returns-in-Err : goal.returns-in-Err
returns-in-Err g c = ([], search rules)
