-- Proves how the text of messages is written.
use Rattle.std.proofs.Common.{ℕ, List, take, Option, Result, Ok, Err, sym, subst}
use Rattle.std.specs.Io.KnownBytes.{Appends}
use Rattle.ill_values.specs.declared.apdu.Apdu.{Apdu}
use Rattle.ill_text.specs.declared.fault.ToolFault.{ToolFault}
use Rattle.ill_text.specs.Output.{WritesPrefix}
use Rattle.ill_rows.specs.Messages.{IsTextOf, WritesNews}

-- If `written` is the text of the messages in `bytes`, and it was written with `result`, `WritesNews` holds.
pub writes_news : (text : List Apdu → List ℕ) (bytes written : List ℕ) (before after : Option (List ℕ))
    (result : Result (Unit {0}) ToolFault)
    → IsTextOf text bytes written → WritesPrefix before after written result → WritesNews text bytes before after result
writes_news text bytes written before after (Ok done) is writes =
    (is.0, is.1, subst (λ (t : List ℕ). Appends before after t) is.2 writes)
writes_news text bytes written before after (Err fault) is writes =
    let size = writes.1.0 in
    subst (λ (f : ToolFault). WritesNews text bytes before after (Err f)) (sym writes.0)
    (is.0, is.1, (size, subst (λ (t : List ℕ). Appends before after (take size t)) is.2 writes.1.1))
