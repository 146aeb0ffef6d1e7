-- These texts no simulation may have written, and these results none may have. Each case has its own fault.
use Rattle.std.specs.Prelude.{◌≡◌, ℕ, List, [], ◌∷◌, ◌++◌, length, Some, None, Result, Ok, Err}
use Rattle.ill_script.specs.declared.fault.SimFault.{SimFault}
use Rattle.ill_script.specs.declared.fault.SimFault.TheVariants.{Script, Read}
use Rattle.ill_script.specs.Replay.{Said, Streams}

-- Returns the streams before a simulation that reads `text`.
abbrev pub before_reading : List ℕ → Streams
before_reading text = record { left = Some text; written = Some [] }

-- Returns the streams after a simulation that has left and written these bytes.
abbrev pub after_reading : (left written : List ℕ) → Streams
after_reading left written = record { left = Some left; written = Some written }

-- The bytes written are no prefix of `trace`. They go on after its end, or differ from it in some byte.
pub data Leaves (written trace : List ℕ) : Type 0 where
  goes_on : (byte : ℕ) (rest : List ℕ) → written ≡ trace ++ byte ∷ rest → Leaves written trace
  differs : (common rest more : List ℕ) (byte other : ℕ) → written ≡ common ++ byte ∷ rest →
      trace ≡ common ++ other ∷ more → (byte ≡ other → ⊥) → Leaves written trace

-- `result` is `result_of` no prefix of `events`. `result_of` gives the trace of events, or the world after them.
abbrev pub IsOfNoPrefix : {E X : Type 0} → (List E → X) → List E → X → Type 0
IsOfNoPrefix {E = E} result_of events result =
    (prefix more : List E) → events ≡ prefix ++ more → result ≡ result_of prefix → ⊥

-- The result of a simulation of `text` is wrong. The simulation has left the bytes `ends.0` of the text in the reader,
-- and has written the bytes `ends.1`. `script` gives the reading of a whole text, and `script_read` if the reader
-- failed at the end of the text.
pub data Misreports {E : Type 0} (trace_of : List E → List ℕ) (script script_read : List ℕ → Said E) (text : List ℕ)
    (ends : List ℕ × List ℕ) : Result ℕ SimFault → Type 0 where
  -- The result is a count of events. But bytes are left, a line is bad, or the count or the trace is another.
  stops_early : (count : ℕ) → (ends.0 ≡ [] → ⊥) → Misreports trace_of script script_read text ends (Ok count)
  passes_over : (count line : ℕ) → (script text).bad ≡ Some line → Misreports trace_of script script_read text ends (Ok count)
  miscounts : (count : ℕ) → (count ≡ length (script text).events → ⊥) →
      Misreports trace_of script script_read text ends (Ok count)
  miswrites : (count : ℕ) → (ends.1 ≡ trace_of (script text).events → ⊥) →
      Misreports trace_of script script_read text ends (Ok count)
  -- The result names a bad line. But the first bad line is another, or the trace of the events before it is.
  misnames : (line : ℕ) → ((script text).bad ≡ Some line → ⊥) →
      Misreports trace_of script script_read text ends (Err (Script line))
  miswrites_before : (line : ℕ) → (ends.1 ≡ trace_of (script text).events → ⊥) →
      Misreports trace_of script script_read text ends (Err (Script line))
  -- The result says that the reader failed. But no text before the bytes left has this trace and no bad line.
  misreads : ((read : List ℕ) → text ≡ read ++ ends.0 → (script_read read).bad ≡ None →
      ends.1 ≡ trace_of (script_read read).events → ⊥) → Misreports trace_of script script_read text ends (Err Read)
