-- The command `verify`: it writes the parts of a desk's record, or finds its fault.
use Rattle.std.specs.Prelude.{◌≡◌, ◌⊎◌, ℕ, ◌-◌, true, if◌then◌else◌, List, [], ◌∷◌, ◌++◌, length, sum_by, codes, Option, None}
use Rattle.std.specs.Prelude.{Some}
use Rattle.std.specs.Prelude.{Result, Ok, Err, IfOk}
use Rattle.std.specs.Fmt.{decimal}
use Rattle.std.specs.Io.KnownBytes.{Appends}
use Rattle.ill_record.specs.declared.side.Side.{Side}
use Rattle.ill_record.specs.Side.{issued_of}
use Rattle.ill_record.specs.Sides.{SidesOf, most_sides}
use Rattle.ill_record.specs.RecordsV2.{is_version_1, records_at}
use Rattle.ill_saved.specs.Faults.{of_store}
use Rattle.ill_record.specs.Faults.{place_of}
use Rattle.ill_store.specs.Store.{StoreState}
use Rattle.ill_record.specs.declared.fault.RecordFault.{RecordFault}
use Rattle.ill_record.specs.declared.fault.RecordFault.TheVariants.{Short, Bad, Inconsistent, Digest}
use Rattle.ill_record.specs.declared.fault.RecordFault.TheVariants as records
use Rattle.ill_store.specs.declared.store.StoreFault.{StoreFault}
use Rattle.ill_saved.specs.declared.fault.DeskFault.TheVariants.{NoRecord, Saved}
use Rattle.ill_text.specs.declared.fault.ToolFault.{ToolFault}
use Rattle.ill_text.specs.declared.fault.ToolFault.TheVariants.{Desk, OutOfMemory}
use Rattle.ill_text.specs.declared.form.Form.{Form}
use Rattle.ill_text.specs.declared.form.Form.TheVariants.{Lines, Json}
use Rattle.ill_text.specs.ApduObject.{object_line}
use Rattle.ill_text.specs.Json.{Field, optional, quoted}
use Rattle.ill_text.specs.Lines.{line, number_line}
use Rattle.ill_record.specs.Roles.{role_name}
use Rattle.ill_text.specs.Fault.{desk_fault}
use Rattle.ill_text.specs.Output.{WritesText}

-- Returns the version of the format of the record `bytes`.
abbrev pub version_of : List ℕ → ℕ
version_of bytes = if is_version_1 bytes then 1 else 2

-- Returns the number of messages that all of `sides` have issued together.
abbrev pub issued_by_all : List Side → ℕ
issued_by_all sides = sum_by (λ side. length (issued_of side)) sides

-- Returns the five lines of a record: its version, its role, and three numbers. These are of its loans, of
-- their issued messages, and of further loans for which there is room.
unfoldable pub verify_lines : List ℕ → SidesOf → List ℕ
verify_lines bytes all =
    number_line (codes "version") (version_of bytes) ++ (line (codes "role") (role_name all.role)
    ++ (number_line (codes "loans") (length all.sides) ++ (number_line (codes "messages") (issued_by_all all.sides)
    ++ number_line (codes "room") (most_sides - length all.sides))))

-- ---- objects

-- Returns the fields of a record: those of its lines.
abbrev pub record_fields : List ℕ → SidesOf → List Field
record_fields bytes all =
    (codes "kind", quoted (codes "record")) ∷ (codes "version", decimal (version_of bytes))
    ∷ (codes "role", quoted (role_name all.role)) ∷ (codes "loans", decimal (length all.sides))
    ∷ (codes "messages", decimal (issued_by_all all.sides)) ∷ (codes "room", decimal (most_sides - length all.sides)) ∷ []

-- Returns the word of a fault of a record.
abbrev pub fault_word : RecordFault → List ℕ
fault_word Short = codes "short"
fault_word (Bad at) = codes "bad"
fault_word Inconsistent = codes "inconsistent"
fault_word Digest = codes "digest"
fault_word records.OutOfMemory = codes "memory"

-- Returns the fields of a fault of a record: its word, and its place if it has one.
abbrev pub fault_fields : RecordFault → List Field
fault_fields fault =
    (codes "kind", quoted (codes "fault")) ∷ (codes "fault", quoted (fault_word fault))
    ∷ (codes "at", optional decimal (place_of fault)) ∷ []

-- ---- the command

-- Returns the function that gives the text of a record: its lines, or its object on a line.
abbrev pub record_text : Form → List ℕ → SidesOf → List ℕ
record_text Lines = verify_lines
record_text Json = λ bytes all. object_line (record_fields bytes all)

-- Returns the fault of a record as the result of a command, once its text is written. If that fails, it returns the
-- failure.
abbrev pub after_fault : RecordFault → Result (Unit {0}) ToolFault → Result (Unit {0}) ToolFault
after_fault fault (Ok done) = Err (Desk (Saved fault))
after_fault fault (Err failure) = Err failure

-- The result is the `fault` of a record. With the form `Lines` nothing was written. With `Json` its object was
-- written, unless that failed.
abbrev pub PrintsFault : Form → RecordFault → Option (List ℕ) → Option (List ℕ) → Result (Unit {0}) ToolFault → Type 0
PrintsFault Lines fault before after result = (result ≡ Err (Desk (Saved fault))) × Appends before after []
PrintsFault Json fault before after result =
    (written : Result (Unit {0}) ToolFault) × WritesText before after (object_line (fault_fields fault)) written
    × (result ≡ after_fault fault written)

-- If `bytes` are a record, its text was written. If they are none, the result is their fault, printed as `PrintsFault`
-- says. Or memory ran out before anything was written.
abbrev pub Verifies : Form → List ℕ → Result SidesOf RecordFault → Option (List ℕ) → Option (List ℕ) →
    Result (Unit {0}) ToolFault → Type 0
Verifies form bytes (Ok all) before after result = WritesText before after (record_text form bytes all) result
Verifies form bytes (Err fault) before after result =
    ((result ≡ Err OutOfMemory) × Appends before after []) ⊎ PrintsFault form fault before after result

-- If the load of the store gave bytes, they were verified. If it gave none or a fault, the result is a fault,
-- and nothing was written.
abbrev pub VerifiesLoaded : Form → Result (Option (List ℕ)) StoreFault → Option (List ℕ) → Option (List ℕ) →
    Result (Unit {0}) ToolFault → Type 0
VerifiesLoaded form (Ok (Some bytes)) before after result = Verifies form bytes (records_at bytes) before after result
VerifiesLoaded form (Ok None) before after result = (result ≡ Err (Desk NoRecord)) × Appends before after []
VerifiesLoaded form (Err fault) before after result =
    (result ≡ Err (desk_fault (of_store fault))) × Appends before after []

-- The command: it loads the content of the store, and verifies it. A correct store gives the committed bytes.
abbrev pub RunsVerify : Form → StoreState → Option (List ℕ) → Option (List ℕ) → Result (Unit {0}) ToolFault → Type 0
RunsVerify form store before after result =
    (loaded : Result (Option (List ℕ)) StoreFault)
    × (store.is_correct ≡ true → IfOk loaded (λ found. found ≡ store.committed)) × VerifiesLoaded form loaded before after result
