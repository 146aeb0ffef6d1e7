-- Proves what the command `loan` writes from the text of a loan.
use Rattle.std.proofs.Common.{ℕ, List, take, Option, Result, Ok, Err, sym, subst}
use Rattle.std.specs.Io.KnownBytes.{Appends}
use Rattle.ill_values.specs.TxnId.{Qualifiers}
use Rattle.ill_values.specs.declared.apdu.Apdu.{Apdu}
use Rattle.ill_text.specs.declared.fault.ToolFault.{ToolFault}
use Rattle.ill_text.specs.Output.{WritesPrefix}
use Rattle.ill_show.specs.Loan.{IsTextOf, WritesLoan}

-- If `written` is the text of the messages of `txn` in `bytes`, and it was written with `result`, `WritesLoan` holds.
pub writes_loan : (text : List Apdu → List ℕ) (txn : Qualifiers) (bytes written : List ℕ) (before after : Option (List ℕ))
    (result : Result (Unit {0}) ToolFault)
    → IsTextOf text txn bytes written → WritesPrefix before after written result → WritesLoan text txn bytes before after result
writes_loan text txn bytes written before after (Ok done) is writes =
    (is.0, is.1, subst (λ (t : List ℕ). Appends before after t) is.2 writes)
writes_loan text txn bytes written before after (Err fault) is writes =
    let size = writes.1.0 in
    subst (λ (f : ToolFault). WritesLoan text txn bytes before after (Err f)) (sym writes.0)
    (is.0, is.1, (size, subst (λ (t : List ℕ). Appends before after (take size t)) is.2 writes.1.1))
