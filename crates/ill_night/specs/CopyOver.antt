-- A copy of a desk over another copy. A desk replaces only a copy that it extends, so no message of a copy is lost
-- (this profile's own).
use Rattle.std.specs.Prelude.{◌≡◌, ℕ, All, List, Option, None, Some, Result, Ok, Err}
use Rattle.ill_record.specs.declared.fault.RecordFault.{RecordFault}
use Rattle.ill_record.specs.declared.side.Side.{Side}
use Rattle.ill_record.specs.Side.{issued_of, txn_of, IsPrefix}
use Rattle.ill_record.specs.Sides.{SidesOf, side_with}
use Rattle.ill_record.specs.RecordsV2.{records_at, sides_encoding}
use Rattle.ill_text.specs.declared.fault.ToolFault.{ToolFault}
use Rattle.ill_night.specs.declared.copy.Copied.{Copied}
use Rattle.ill_night.specs.declared.copy.Copied.TheVariants.{Done, HasMore, NoRecord}
use Rattle.ill_night.specs.Copy.{Copies}

-- There is a side `own`, and its first messages are the messages of `copied`.
abbrev pub Continues : Side → Option Side → Type 0
Continues copied None = ⊥
Continues copied (Some own) = IsPrefix (issued_of copied) (issued_of own)

-- `sides` have the loan of `copied`, with at least its messages.
abbrev pub HasLoan : List Side → Side → Type 0
HasLoan sides copied = Continues copied (side_with (txn_of copied) sides)

-- The sides `own` have the role of the sides `copied` and each of their loans, with at least its messages.
abbrev pub Extends : SidesOf → SidesOf → Type 0
Extends own copied = (own.role ≡ copied.role) × All (HasLoan own.sides) copied.sides

-- The result of a copy of `own` over the sides `copied`. It is `Done` if `own` extends them, and `HasMore` if not.
abbrev pub ReplacesSides : SidesOf → SidesOf → Copied → Type 0
ReplacesSides own copied Done = Extends own copied
ReplacesSides own copied HasMore = Extends own copied → ⊥
ReplacesSides own copied NoRecord = ⊥

-- The result of a copy of `own` over bytes that were read as a record. If they are none, it is `NoRecord`.
abbrev pub ReplacesRead : SidesOf → Result SidesOf RecordFault → Copied → Type 0
ReplacesRead own (Ok copied) result = ReplacesSides own copied result
ReplacesRead own (Err fault) result = result ≡ NoRecord

-- The result of a copy of `own` over the content of a store. If there is none, it is `Done`.
abbrev pub Replaces : SidesOf → Option (List ℕ) → Copied → Type 0
Replaces own None result = result ≡ Done
Replaces own (Some bytes) result = ReplacesRead own (records_at bytes) result

-- If the content of the store is known, the result of a copy of `own` is as `Replaces` says.
abbrev pub ReplacesKnown : SidesOf → Option (Option (List ℕ)) → Copied → Type 0
ReplacesKnown own None result = Unit {0}
ReplacesKnown own (Some content) result = Replaces own content result

-- A copy of `own` leads from the content `old` of a store to `new`. If `own` extends the record in the store, or if
-- the store has no content, `own` is the new content. Else the store keeps its content. Or the copy failed.
abbrev pub CopiesOver : SidesOf → Option (Option (List ℕ)) → Result Copied ToolFault → Option (Option (List ℕ)) → Type 0
CopiesOver own old (Ok Done) new = ReplacesKnown own old Done × Copies (sides_encoding own) old (Ok tt) new
CopiesOver own old (Ok kept) new = ReplacesKnown own old kept × (new ≡ old)
CopiesOver own old (Err fault) new = Copies (sides_encoding own) old (Err fault) new
