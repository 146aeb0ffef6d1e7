-- Proves what is printed of bytes that are no record, or for which memory ran out.
use Rattle.std.proofs.Common.{◌≡◌, ℕ, List, Option, Result, Ok, Err, refl, sym, inl, inr, subst}
use Rattle.std.proofs.KnownBytes.{Appends-nil}
use Rattle.ill_record.specs.Sides.{SidesOf}
use Rattle.ill_record.specs.declared.fault.RecordFault.{RecordFault}
use Rattle.ill_text.specs.declared.form.Form.{Form}
use Rattle.ill_text.specs.declared.fault.ToolFault.{ToolFault}
use Rattle.ill_text.specs.declared.fault.ToolFault.TheVariants.{OutOfMemory}
use Rattle.ill_show.specs.Verify.{PrintsFault, Verifies}

-- If memory ran out before anything was written, `Verifies` holds of any `bytes`.
pub out_of_memory_for : (form : Form) (bytes : List ℕ) (read : Result SidesOf RecordFault) (written : Option (List ℕ))
    → Verifies form bytes read written written (Err OutOfMemory)
out_of_memory_for form bytes (Ok all) written = Appends-nil written
out_of_memory_for form bytes (Err fault) written = inl (refl, Appends-nil written)

-- If `bytes` are no record by `fault`, and this fault was printed (`PrintsFault`), `Verifies` holds of `bytes`.
pub fault_printed : (form : Form) (bytes : List ℕ) (read : Result SidesOf RecordFault) (fault : RecordFault)
    (before after : Option (List ℕ)) (result : Result (Unit {0}) ToolFault)
    → read ≡ Err fault → PrintsFault form fault before after result → Verifies form bytes read before after result
fault_printed form bytes read fault before after result is printed =
    subst (λ (read : Result SidesOf RecordFault). Verifies form bytes read before after result) (sym is) (inr printed)
