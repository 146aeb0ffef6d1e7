-- The parts of a side that a line of output shows (this profile's own).
use Rattle.std.specs.Prelude.{ℕ, length}
use Rattle.ill_record.specs.declared.side.Side.{Side}
use Rattle.ill_saved.specs.declared.shown.Shown.{Shown}
use Rattle.ill_record.specs.Side.{state_of, due_date_of, issued_of}

-- Returns the parts of a side that a line of output shows. `released` is the number of its released messages.
abbrev pub shown_of : Side → ℕ → Shown
shown_of side released = record {
  state = state_of side;
  due = due_date_of side;
  released = released;
  issued = length (issued_of side);
}
