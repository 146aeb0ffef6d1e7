-- A script of two desks describes a run, and the run has a trace. It is this profile's own.
use Rattle.std.specs.Prelude.{ℕ, ◌+◌, List, [], ◌∷◌, ◌++◌, length, map, Option, None, Result}
use Rattle.ill_values.specs.TxnId.{Qualifiers}
use Rattle.ill_world.specs.declared.event.DeskEvent.{DeskEvent}
use Rattle.ill_script.specs.declared.fault.SimFault.{SimFault}
use Rattle.ill_world.specs.Desks.{DeskParties, first_desks, desks_happen, desks_run}
use Rattle.ill_world.specs.DeskScript.{EventIn, desk_meaning, says_in}
use Rattle.ill_world.specs.DeskTrace.{desk_line}
use Rattle.ill_script.specs.Replay.{Replay, before_first, Said, end_reading, broken_reading, reading_from, trace_from, Replays}

-- The replay of two desks has three parts. `says` is the meaning of a line in the transaction in use, `next` the desks
-- after an event. `text` is the event's line of the trace. The transaction in use is carried from line to line.
abbrev pub two_desks : Replay DeskParties EventIn (Option Qualifiers)
two_desks = record {
  says = λ in_use bytes. says_in in_use (desk_meaning bytes);
  next = λ w e. (desks_happen w e.event).1;
  text = λ number w e. desk_line number e.txn (desks_happen w e.event).0 (desks_happen w e.event).1;
}

-- Returns the reading of a whole text: the events before its first bad line, and the number of this line. At first no
-- transaction is in use.
abbrev pub desk_script : List ℕ → Said EventIn
desk_script text = reading_from two_desks (end_reading two_desks) None 1 text

-- Returns the reading of a text at whose end the reader failed. The bytes after the last LF say no event.
abbrev pub desk_script_read : List ℕ → Said EventIn
desk_script_read text = reading_from two_desks broken_reading None 1 text

-- Returns the trace of `events`, from two desks on that hold nothing.
abbrev pub desk_trace_of : List EventIn → List ℕ
desk_trace_of events = trace_from two_desks 1 first_desks events

-- Returns the events alone, without the transactions in use.
abbrev pub desk_events : List EventIn → List DeskEvent
desk_events events = map (λ e. e.event) events

-- Returns the line of `event` in a trace, after `events`. It has its number, its outcome, and both sides of its
-- transaction after it.
abbrev pub desk_line_after : List EventIn → EventIn → List ℕ
desk_line_after events event =
    desk_line (length events + 1) event.txn
    (desks_happen (desks_run first_desks (desk_events events)) event.event).0
    (desks_run first_desks (desk_events (events ++ event ∷ [])))

-- A simulation of two desks has this result. Its reader has the bytes `old` before, and `new` after. Its writer has the
-- bytes `before`, and then `after`.
abbrev pub SimulatesDesks : Option (List ℕ) → Option (List ℕ) → Option (List ℕ) → Option (List ℕ) →
    Result ℕ SimFault → Type 0
SimulatesDesks old new before after result =
    Replays two_desks (before_first None first_desks) (record { left = old; written = before }) result
    (record { left = new; written = after })
