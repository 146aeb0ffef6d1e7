-- Defines the steps of a simulation in the midst of a script. It reads ahead, reads a line, and performs the line.
use Rattle.std.specs.Prelude.{◌≡◌, ℕ, ◌+◌, ◌≤◌, Bool, true, false, ◌==◌, List, [], ◌∷◌, ◌++◌, length, take, Option, Some, None}
use Rattle.std.specs.Prelude.{Result, Ok, Err}
use Rattle.std.specs.List.{list_any, position_from}
use Rattle.std.specs.Io.KnownBytes.{Consumes, Appends, IsAtEnd, prepend_known}
use Rattle.std.specs.declared.alloc.AllocError.{AllocError}
use Rattle.ill_script.specs.declared.script_line.ScriptLine.{ScriptLine}
use Rattle.ill_script.specs.declared.script_line.ScriptLine.TheVariants as lines
use Rattle.ill_script.specs.declared.performer.LineEffect.{LineEffect}
use Rattle.ill_script.specs.declared.performer.LineEffect.TheVariants as effects
use Rattle.ill_script.specs.declared.lines.Found.{Found}
use Rattle.ill_script.specs.declared.lines.Found.TheVariants as found
use Rattle.ill_script.specs.declared.fault.SimFault.{SimFault}
use Rattle.ill_script.specs.declared.fault.SimFault.TheVariants.{Script, Read, Write, OutOfMemory}
use Rattle.ill_script.specs.Replay.{Replay, Progress, Streams, line_at, Replays}

-- ---- reading ahead

-- A call reads ahead. `before` are the bytes ahead and `old` the bytes in the reader before the call, `ahead` and `new`
-- after it. No byte is lost. The call returns true if bytes are ahead now, and false at the end. If the reader fails,
-- no byte is ahead.
abbrev pub ReadsAhead : List ℕ → List ℕ → Option (List ℕ) → Option (List ℕ) → Result Bool SimFault → Type 0
ReadsAhead before ahead old new (Ok true) =
    Consumes (prepend_known before old) (prepend_known ahead new) [] × (1 ≤ length ahead)
ReadsAhead before ahead old new (Ok false) =
    Consumes (prepend_known before old) (prepend_known ahead new) [] × IsAtEnd (prepend_known ahead new)
ReadsAhead before ahead old new (Err fault) =
    (fault ≡ Read) × Consumes (prepend_known before old) (prepend_known ahead new) [] × (ahead ≡ [])

-- If the result says that the reader failed, no bytes are ahead.
abbrev pub IsUsedUp : {X : Type 0} → List ℕ → Result X SimFault → Type 0
IsUsedUp ahead (Ok done) = Unit {0}
IsUsedUp ahead (Err Read) = ahead ≡ []
IsUsedUp ahead (Err other) = Unit {0}

-- ---- reading one line

-- Returns true if `bytes` contain an LF.
abbrev pub has_lf : List ℕ → Bool
has_lf bytes = list_any (λ byte. byte == 10) bytes

-- Returns the index of the first LF in `bytes`, or `None`.
abbrev pub lf_place : List ℕ → Option ℕ
lf_place bytes = position_from (λ byte. byte == 10) 0 bytes

-- `bytes` contain no LF, and are at most 1,024.
abbrev pub IsLine : List ℕ → Type 0
IsLine bytes = (has_lf bytes ≡ false) × (length bytes ≤ 1024)

-- A call takes bytes of `before`, and leaves `ahead`. The bytes end before an LF, beyond the limit, or at the end of
-- `before`. Within the limit they are appended to `prefix`, the first part of a line, which becomes `line`. If memory
-- runs out, no byte is taken.
abbrev pub TakesPart : List ℕ → List ℕ → List ℕ → List ℕ → Result (Option Found) AllocError → Type 0
TakesPart before ahead prefix line (Ok (Some found.Line)) =
    (bytes : List ℕ) × (before ≡ bytes ++ 10 ∷ ahead) × (has_lf bytes ≡ false)
    × (line ≡ prefix ++ bytes) × (length line ≤ 1024)
TakesPart before ahead prefix line (Ok (Some found.Rest)) = ⊥
TakesPart before ahead prefix line (Ok (Some found.TooLong)) =
    (bytes : List ℕ) × (before ≡ bytes ++ ahead) × (has_lf bytes ≡ false)
    × (length (prefix ++ bytes) ≡ 1025)
TakesPart before ahead prefix line (Ok None) =
    (ahead ≡ []) × (has_lf before ≡ false) × (line ≡ prefix ++ before) × (length line ≤ 1024)
TakesPart before ahead prefix line (Err fault) = ahead ≡ before

-- A call reads the line `bytes`. `old` and `new` are the bytes of the text before and after the call. The line has its
-- LF, or is the rest of the text, or is cut off because the reader fails. If the line is beyond the limit or memory
-- runs out, nothing is said of `bytes`.
abbrev pub ReadsLine : Option (List ℕ) → Option (List ℕ) → List ℕ → Result Found SimFault → Type 0
ReadsLine old new bytes (Ok found.Line) = IsLine bytes × Consumes old new (bytes ++ 10 ∷ [])
ReadsLine old new bytes (Ok found.Rest) = IsLine bytes × Consumes old new bytes × IsAtEnd new
ReadsLine old new bytes (Ok found.TooLong) =
    (more : List ℕ) × (has_lf more ≡ false) × (length more ≡ 1025) × Consumes old new more
ReadsLine old new bytes (Err Read) = IsLine bytes × Consumes old new bytes
ReadsLine old new bytes (Err OutOfMemory) = (more : List ℕ) × Consumes old new more
ReadsLine old new bytes (Err other) = ⊥

-- ---- performing one line

-- A performer has this stage: its world, the value that it carries to the next line, and the text that it has shown.
pub record Stage (W C : Type 0) : Type 0 where
  pub world : W
  pub carried : C
  pub shown : List ℕ

-- The effect fits a line with this meaning. A skipped line changes nothing. The event of a line has happened, and its
-- text was appended. Or the line is bad.
abbrev pub PerformsOne : {W E C : Type 0} → Replay W E C → ScriptLine E → ℕ → Stage W C → LineEffect → Stage W C → Type 0
PerformsOne replay lines.Skipped number old effects.Nothing new = new.world ≡ old.world
PerformsOne replay (lines.Event event) number old effects.Event new =
    (new.world ≡ replay.next old.world event) × (new.shown ≡ old.shown ++ replay.text number old.world event)
PerformsOne replay lines.Bad number old effects.BadLine new = Unit {0}
PerformsOne replay says number old effect new = ⊥

-- The effect fits the line, and the value for the next line is that of the replay. If memory ran out, nothing is
-- claimed.
abbrev pub PrintsLine : {W E C M : Type 0} → Replay W E C → List ℕ → ℕ → Stage W C → Result LineEffect M → Stage W C → Type 0
PrintsLine replay line number old (Ok effect) new =
    PerformsOne replay (replay.says old.carried line).0 number old effect new × (new.carried ≡ (replay.says old.carried line).1)
PrintsLine replay line number old (Err memory) new = Unit {0}

-- The events of a script so far have this history: the world after them, their count, and the bytes that were written.
pub record History (W : Type 0) : Type 0 where
  pub world : W
  pub count : ℕ
  pub written : Option (List ℕ)

-- A line with this meaning was performed as line n, and its text was written. If the writer failed, a prefix of the
-- text was written. If memory ran out, no byte was written.
abbrev pub PerformsLine : {W E C : Type 0} → Replay W E C → ScriptLine E → ℕ → History W →
    Result (Unit {0}) SimFault → History W → Type 0
PerformsLine replay says n old (Err OutOfMemory) new = Appends old.written new.written []
PerformsLine replay lines.Skipped n old (Ok done) new =
    (new.world ≡ old.world) × (new.count ≡ old.count) × Appends old.written new.written []
PerformsLine replay (lines.Event event) n old (Ok done) new =
    (new.world ≡ replay.next old.world event) × (new.count ≡ old.count + 1)
    × Appends old.written new.written (replay.text (old.count + 1) old.world event)
PerformsLine replay (lines.Event event) n old (Err Write) new =
    (size : ℕ) × Appends old.written new.written (take size (replay.text (old.count + 1) old.world event))
PerformsLine replay lines.Bad n old (Err (Script m)) new = (m ≡ n) × Appends old.written new.written []
PerformsLine replay says n old result new = ⊥

-- ---- the rest of a script

-- Returns the history of a script with this progress and these streams.
abbrev pub history_at : {W C : Type 0} → Progress W C → Streams → History W
history_at progress streams = record { world = progress.world; count = progress.count; written = streams.written }

-- The next line of `from` was performed. If the result is true, more lines may follow from `now` on. If it is false or
-- a fault, the script was performed to its end.
abbrev pub StepsLine : {W E C : Type 0} → Replay W E C → Progress W C → Streams → Result Bool SimFault →
    Progress W C → Streams → Type 0
StepsLine replay from old (Ok true) now new =
    (bytes : List ℕ) × IsLine bytes × Consumes old.left new.left (bytes ++ 10 ∷ [])
    × PerformsLine replay (line_at replay from.carried from.number bytes).0 from.number (history_at from old) (Ok tt)
    (history_at now new)
    × (now.carried ≡ (line_at replay from.carried from.number bytes).1) × (now.number ≡ from.number + 1)
StepsLine replay from old (Ok false) now new = Replays replay from old (Ok now.count) new
StepsLine replay from old (Err fault) now new = Replays replay from old (Err fault) new

-- At least one byte is left, if the bytes left are known.
abbrev pub IsBeforeEnd : Option (List ℕ) → Type 0
IsBeforeEnd None = Unit {0}
IsBeforeEnd (Some bytes) = 1 ≤ length bytes

-- After the last allowed line of a script, the text has ended, another byte follows, or the reader fails. `count`
-- events have happened.
abbrev pub FindsEnd : ℕ → Option (List ℕ) → Option (List ℕ) → Result ℕ SimFault → Type 0
FindsEnd count old new (Ok total) = (total ≡ count) × Consumes old new [] × IsAtEnd new
FindsEnd count old new (Err (Script n)) = (n ≡ 100001) × Consumes old new [] × IsBeforeEnd new
FindsEnd count old new (Err Read) = Consumes old new []
FindsEnd count old new (Err other) = ⊥
