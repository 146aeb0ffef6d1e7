-- The desk of one side (this profile's own).
use Rattle.std.specs.Prelude.{false, Some, Result, Ok, Err}
use Rattle.ill_core.specs.declared.refusal.Refusal.{Refusal}
use Rattle.ill_core.specs.declared.taking.Taking.{Taking}
use Rattle.ill_saved.specs.declared.fault.DeskFault.{DeskFault}
use Rattle.ill_saved.specs.declared.fault.DeskFault.TheVariants.{Core}
use Rattle.ill_record.specs.declared.side.Side.{Side}
use Rattle.ill_record.specs.Side.{role_of, idle_of, acts, takes}
use Rattle.ill_record.specs.Records.{record_at, begins_as_record, record_encoding}
use Rattle.ill_saved.specs.Holdings.{DeskEntry, Effects, whole, map_ok, IsBackedBy}

-- Returns the side with none of its messages released.
abbrev pub alone : Side → DeskEntry
alone side = record { side = side; released = 0 }

-- Returns `held` with the side `side`. The released count is unchanged.
abbrev pub with_side : DeskEntry → Side → DeskEntry
with_side held side = record held { side = side }

-- Returns the answer of a desk of one side to an action, from the answer of the side.
abbrev pub one_acts : DeskEntry → Result Side Refusal → Result DeskEntry DeskFault
one_acts held (Ok side) = Ok (with_side held side)
one_acts held (Err refusal) = Err (Core refusal)

-- Returns the answer of a desk of one side to an APDU, from the answer of the side.
abbrev pub one_answers : Result Taking Refusal → Result Taking DeskFault
one_answers (Ok taking) = Ok taking
one_answers (Err refusal) = Err (Core refusal)

-- Returns the effects on a desk of one side. The side needs no name.
abbrev pub one_side : Effects DeskEntry (Unit {0})
one_side = record {
  role = λ held. role_of held.side;
  acts = λ held none action. one_acts held (acts held.side action);
  takes = λ held a. (one_answers (takes held.side a).0, with_side held (takes held.side a).1);
  key_of = λ a. tt;
  found = λ none held. Some held;
  side_for = λ none held. held;
  first_key = Some tt;
  saves = λ held. whole held.side;
  unsaved = λ held. whole (idle_of held.side);
  encoding = λ held. record_encoding held.side;
  read = λ bytes. map_ok whole (record_at bytes);
  begins = begins_as_record;
  has_digest = false;
}

-- The committed side backs the live one and its released messages.
abbrev pub OneBacks : DeskEntry → DeskEntry → Type 0
OneBacks committed live = IsBackedBy committed.side live.side live.released
