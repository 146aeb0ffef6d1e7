-- Proves that a command which returns the fault of opening a desk has failed to open it.
use Rattle.std.proofs.Common.{◌≡◌, Bool, Result, Ok, Err, subst, sym}
use Rattle.std.specs.Prelude.{IsErrAnd}
use Rattle.ill_text.specs.declared.fault.ToolFault.{ToolFault}
use Rattle.ill_text.specs.Fault.{IsOpenFault}

-- If `result` is the error `fault`, and `fault` is one of opening, then `result` is an error of opening.
pub open_fault : (result : Result Bool ToolFault) (fault : ToolFault) → IsErrAnd result (λ given. given ≡ fault)
    → IsOpenFault fault → IsErrAnd result IsOpenFault
open_fault (Ok done) fault is opens = is
open_fault (Err given) fault is opens = subst IsOpenFault (sym is) opens
