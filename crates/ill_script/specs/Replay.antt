-- A replay defines scripts and traces, for any language of lines and any world. It is this profile's own.
use Rattle.std.specs.Prelude.{◌≡◌, ℕ, ◌+◌, Bool, ◌&&◌, ◌==◌, nat_le, List, [], ◌∷◌, ◌++◌, length, Option, Some, None, Result, Ok}
use Rattle.std.specs.Prelude.{Err, if◌then◌else◌}
use Rattle.std.specs.List.{slice_split}
use Rattle.std.specs.Io.KnownBytes.{Consumes, Appends, IsAtEnd}
use Rattle.ill_record.specs.Side.{IsPrefix}
use Rattle.ill_script.specs.declared.script_line.ScriptLine.{ScriptLine}
use Rattle.ill_script.specs.declared.script_line.ScriptLine.TheVariants as lines
use Rattle.ill_script.specs.declared.fault.SimFault.{SimFault}
use Rattle.ill_script.specs.declared.fault.SimFault.TheVariants.{Script, Read, Write, OutOfMemory}

-- A replay has worlds `W`, events `E`, and a value of `C` that is carried from line to line. `says` gives the meaning
-- of a line, and the value for the next line. `next` gives the world after an event. `text` shows an event, with its
-- number and the world before it.
pub record Replay (W E C : Type 0) : Type 0 where
  pub says : C → List ℕ → ScriptLine E × C
  pub next : W → E → W
  pub text : ℕ → W → E → List ℕ

-- A script in its midst has this progress. `number` is the number of its next line. `carried` and `world` are the value
-- and the world before that line. `count` events have happened.
pub record Progress (W C : Type 0) : Type 0 where
  pub number : ℕ
  pub carried : C
  pub world : W
  pub count : ℕ

-- Returns the progress before line 1, with this value and this world. No event has happened.
abbrev pub before_first : {W C : Type 0} → C → W → Progress W C
before_first carried world = record { number = 1; carried = carried; world = world; count = 0 }

-- Streams have the bytes `left` in a reader, and the bytes `written` by a writer. Either is `None` if it is not known.
pub record Streams : Type 0 where
  pub left : Option (List ℕ)
  pub written : Option (List ℕ)

-- ---- the reading of a script

-- A reading has the events of a script before its first bad line. It also has the number of this line, if there is one.
pub record Said (E : Type 0) : Type 0 where
  pub events : List E
  pub bad : Option ℕ

-- The reading of an empty text has no event and no bad line.
abbrev pub empty_reading : {E : Type 0} → Said E
empty_reading = record { events = []; bad = None }

-- Returns true if n is at most 100,000, and `bytes` has at most 1,024 bytes.
abbrev pub is_within : ℕ → List ℕ → Bool
is_within n bytes = nat_le n 100000 && nat_le (length bytes) 1024

-- Returns the meaning of line n with these bytes, and the value for the next line. `c` is the value that is carried to
-- line n. A line beyond the limits is bad, and does not change `c`.
abbrev pub line_at : {W E C : Type 0} → Replay W E C → C → ℕ → List ℕ → ScriptLine E × C
line_at replay c n bytes = if is_within n bytes then replay.says c bytes else (lines.Bad, c)

-- Returns the reading of line n with this meaning, followed by the lines that `more` reads. A bad line ends the
-- reading.
abbrev pub then_says : {E : Type 0} → ScriptLine E → ℕ → Said E → Said E
then_says lines.Skipped n more = more
then_says (lines.Event event) n more = record { events = event ∷ more.events; bad = more.bad }
then_says lines.Bad n more = record { events = []; bad = Some n }

-- Returns the reading of the bytes after the last LF of a whole text. They are line n, unless they are empty.
abbrev pub end_reading : {W E C : Type 0} → Replay W E C → C → ℕ → List ℕ → Said E
end_reading replay c n [] = empty_reading
end_reading replay c n (byte ∷ bytes) = then_says (line_at replay c n (byte ∷ bytes)).0 n empty_reading

-- Returns the reading of the bytes after the last LF if the reader fails. They are no line, or a bad one beyond the
-- limits.
abbrev pub broken_reading : {E C : Type 0} → C → ℕ → List ℕ → Said E
broken_reading c n [] = empty_reading
broken_reading c n (byte ∷ bytes) =
    if is_within n (byte ∷ bytes) then empty_reading else record { events = []; bad = Some n }

-- Returns the reading of these lines, from line n on. `end` reads the last, which follows the last LF.
unfoldable pub says_from : {W E C : Type 0} → Replay W E C → (C → ℕ → List ℕ → Said E) → C → ℕ →
    List (List ℕ) → Said E
says_from replay end c n [] = empty_reading
says_from replay end c n (rest ∷ []) = end c n rest
says_from replay end c n (first ∷ second ∷ more) =
    then_says (line_at replay c n first).0 n (says_from replay end (line_at replay c n first).1 (n + 1) (second ∷ more))

-- Returns the parts of `text` between its LFs.
abbrev pub lines_in : List ℕ → List (List ℕ)
lines_in text = slice_split (λ byte. byte == 10) text

-- Returns the reading of `text`, from line n on. `end` reads the bytes after the last LF.
abbrev pub reading_from : {W E C : Type 0} → Replay W E C → (C → ℕ → List ℕ → Said E) → C → ℕ → List ℕ → Said E
reading_from replay end c n text = says_from replay end c n (lines_in text)

-- ---- the trace of a run

-- Returns the text of each of `events`, from number n and world `w` on.
unfoldable pub trace_from : {W E C : Type 0} → Replay W E C → ℕ → W → List E → List ℕ
trace_from replay n w [] = []
trace_from replay n w (event ∷ events) = replay.text n w event ++ trace_from replay (n + 1) (replay.next w event) events

-- ---- performing a script

-- Returns the reading of a whole text, from the next line of `from` on.
abbrev pub reading_on : {W E C : Type 0} → Replay W E C → Progress W C → List ℕ → Said E
reading_on replay from text = reading_from replay (end_reading replay) from.carried from.number text

-- Returns the reading of a text at whose end the reader fails, from the next line of `from` on.
abbrev pub broken_on : {W E C : Type 0} → Replay W E C → Progress W C → List ℕ → Said E
broken_on replay from text = reading_from replay broken_reading from.carried from.number text

-- Returns the trace of `events`, which follow those before the next line of `from`.
abbrev pub trace_on : {W E C : Type 0} → Replay W E C → Progress W C → List E → List ℕ
trace_on replay from events = trace_from replay (from.count + 1) from.world events

-- `P` holds of the whole text: of `text` and all bytes that the reader has left, if these are known.
abbrev pub OfAll : List ℕ → Option (List ℕ) → (List ℕ → Type 0) → Type 0
OfAll text left P = (more : List ℕ) → left ≡ Some more → P (text ++ more)

-- A script was performed from the next line of `from` on. The result and `trace` fit the `text` that was read, and the
-- bytes `left` in the reader. The whole text is `text` with the bytes left.
abbrev pub Answers : {W E C : Type 0} → Replay W E C → Progress W C → Result ℕ SimFault → List ℕ →
    Option (List ℕ) → List ℕ → Type 0
-- The text has ended without a bad line, and `trace` shows its events. `total` is `from.count` plus their number.
Answers replay from (Ok total) text left trace =
    IsAtEnd left × ((reading_on replay from text).bad ≡ None)
    × (trace ≡ trace_on replay from (reading_on replay from text).events)
    × (total ≡ from.count + length (reading_on replay from text).events)
-- Line `m` is the first bad line of the whole text, and `trace` shows the events before it.
Answers replay from (Err (Script m)) text left trace =
    OfAll text left (λ t. ((reading_on replay from t).bad ≡ Some m)
    × (trace ≡ trace_on replay from (reading_on replay from t).events))
-- The text breaks off without a bad line, and `trace` shows its events.
Answers replay from (Err Read) text left trace =
    ((broken_on replay from text).bad ≡ None) × (trace ≡ trace_on replay from (broken_on replay from text).events)
-- `trace` is a prefix of the trace of the whole text.
Answers replay from (Err Write) text left trace =
    OfAll text left (λ t. IsPrefix trace (trace_on replay from (reading_on replay from t).events))
-- `trace` shows some first events of the whole text.
Answers {E = E} replay from (Err OutOfMemory) text left trace =
    OfAll text left (λ t. (events : List E) × IsPrefix events (reading_on replay from t).events
    × (trace ≡ trace_on replay from events))

-- A script was performed from the next line of `from` on. The streams were `old` before, and are `new` after. A `text`
-- was read and a `trace` was written, and the result fits both.
abbrev pub Replays : {W E C : Type 0} → Replay W E C → Progress W C → Streams → Result ℕ SimFault → Streams → Type 0
Replays replay from old result new =
    (text : List ℕ) × (trace : List ℕ) × Consumes old.left new.left text × Appends old.written new.written trace
    × Answers replay from result text new.left trace
