-- Answers the contract of `print_change` (`src/act_as.rt`).
use Rattle.std.proofs.Common.{Err, refl}
use Rattle.std.proofs.KnownBytes.{Appends-nil}
use Rattle.ill_text.specs.declared.fault.ToolFault.TheVariants.{OutOfMemory}
use Rattle.ill_desk.proofs.act_as.print_change.Goals as goal

-- Proves the contract of `print_change` if memory runs out for the line. Then nothing is written.
pub returns-in-Err : goal.returns-in-Err
returns-in-Err g c = (Err OutOfMemory, Appends-nil (g.W.Write.contents c.args.writer.now), refl)
