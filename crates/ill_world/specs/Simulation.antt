-- A script of two sides describes a run, and the run has a trace. It is this profile's own.
use Rattle.std.specs.Prelude.{ℕ, ◌+◌, List, [], ◌∷◌, ◌++◌, length, Option, Result}
use Rattle.ill_values.specs.TxnId.{Qualifiers}
use Rattle.ill_world.specs.declared.event.Event.{Event}
use Rattle.ill_script.specs.declared.fault.SimFault.{SimFault}
use Rattle.ill_world.specs.World.{Parties, first_world, happens, run_of}
use Rattle.ill_world.specs.Script.{meaning}
use Rattle.ill_world.specs.Trace.{line}
use Rattle.ill_script.specs.Replay.{Replay, before_first, Said, end_reading, broken_reading, reading_from, trace_from, Replays}

-- The replay of two sides has three parts. `says` is the meaning of a line, `next` the world after an event. `text` is
-- the event's line of the trace. No value is carried from line to line.
abbrev pub two_sides : Replay Parties Event (Unit {0})
two_sides = record {
  says = λ none bytes. (meaning bytes, none);
  next = λ w event. (happens w event).1;
  text = λ number w event. line number (happens w event).0 (happens w event).1;
}

-- Returns the reading of a whole text: the events before its first bad line, and the number of this line.
abbrev pub script : List ℕ → Said Event
script text = reading_from two_sides (end_reading two_sides) tt 1 text

-- Returns the reading of a text at whose end the reader failed. The bytes after the last LF say no event.
abbrev pub script_read : List ℕ → Said Event
script_read text = reading_from two_sides broken_reading tt 1 text

-- Returns the trace of `events`, from two idle sides of `txn` on.
abbrev pub trace_of : Qualifiers → List Event → List ℕ
trace_of txn events = trace_from two_sides 1 (first_world txn) events

-- Returns the line of `event` in a trace, after `events`. It has its number, its outcome, and both sides after it.
abbrev pub line_after : Qualifiers → List Event → Event → List ℕ
line_after txn events event =
    line (length events + 1) (happens (run_of (first_world txn) events) event).0
    (run_of (first_world txn) (events ++ event ∷ []))

-- A simulation of two sides of `txn` has this result. Its reader has the bytes `old` before, and `new` after. Its
-- writer has the bytes `before`, and then `after`.
abbrev pub Simulates : Qualifiers → Option (List ℕ) → Option (List ℕ) → Option (List ℕ) →
    Option (List ℕ) → Result ℕ SimFault → Type 0
Simulates txn old new before after result =
    Replays two_sides (before_first tt (first_world txn)) (record { left = old; written = before }) result
    (record { left = new; written = after })
