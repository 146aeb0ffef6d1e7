-- The command `take`: it hands each APDU of an input to its side, and saves if the APDU was taken.
use Rattle.std.specs.Prelude.{◌≡◌, ◌⊎◌, ℕ, ◌≤◌, Bool, true, false, ◌&&◌, List, [], take, Option, None, Result, Ok, Err}
use Rattle.std.specs.Borrow.{GName}
use Rattle.std.specs.Io.KnownBytes.{Appends}
use Rattle.ill_values.specs.declared.apdu.Apdu.{Apdu}
use Rattle.ill_words.specs.declared.outcome.DeskOutcome.{DeskOutcome}
use Rattle.ill_text.specs.declared.fault.ToolFault.{ToolFault}
use Rattle.ill_text.specs.declared.fault.ToolFault.TheVariants.{Desk, OutOfMemory}
use Rattle.ill_saved.specs.declared.fault.DeskFault.TheVariants as desks
use Rattle.ill_store.specs.declared.store.StoreFault.TheVariants.{Failed}
use Rattle.ill_der.specs.ShortForm.{encoding}
use Rattle.ill_der.specs.Handling.{Handles}
use Rattle.ill_text.specs.Input.{ReadsInput}
use Rattle.ill_saved.specs.Holdings.{Effects, IsReadAgain, RunsOutOfMemory}
use Rattle.ill_desk.specs.Performing.{HeldAndCommitted, CommandState, with_input, handed, is_change, saved}
use Rattle.ill_desk.specs.Performing.{IsFaulted, Performs}
use Rattle.ill_text.specs.Fault.{ToolFailsCounted}
use Rattle.ill_desk.specs.Telling.{is_fine, shown_at, Wording, Reports}

-- ---- one message

-- The message `a` leads from `old` to `new`, with this result. It was handed to its side, and saved if it was
-- taken. Or it was taken, and the save failed. Or memory ran out for the message, if it takes memory, or for
-- the save.
abbrev pub TakesAndSaves : {L K : Type 0} → Effects L K → HeldAndCommitted L → Apdu → Result DeskOutcome ToolFault →
    HeldAndCommitted L → Type 0
TakesAndSaves effects old a result new =
    Performs effects (RunsOutOfMemory effects old.live a) old (handed effects old.live a) result new

-- ---- the bytes that are kept

-- Returns the bytes to keep of a message: its encoding if messages are kept, else nothing.
abbrev pub kept_text : Bool → Apdu → List ℕ
kept_text true a = encoding a
kept_text false a = []

-- The kept bytes grew from `before` to `after` by `text`. If a write failed, which counts as a failure of the store,
-- they grew by a prefix of `text`. If memory ran out, they did not grow. No other fault is possible.
abbrev pub KeepsPrefix : List ℕ → Option (List ℕ) → Option (List ℕ) → Result (Unit {0}) ToolFault → Type 0
KeepsPrefix text before after (Ok done) = Appends before after text
KeepsPrefix text before after (Err (Desk (desks.Store Failed))) = (size : ℕ) × Appends before after (take size text)
KeepsPrefix text before after (Err OutOfMemory) = Appends before after []
KeepsPrefix text before after (Err other) = ⊥

-- `text` is kept before the store changes. If it was kept only in part, the content of the store is
-- unchanged.
abbrev pub KeepsBefore : {L X : Type 0} → List ℕ → Result X ToolFault → CommandState L → CommandState L → Type 0
KeepsBefore text (Ok done) old new = Appends old.kept new.kept text
KeepsBefore text (Err fault) old new =
    Appends old.kept new.kept text
    ⊎ ((size : ℕ) × Appends old.kept new.kept (take size text) × (new.desk.committed ≡ old.desk.committed))

-- The message `a` is kept if it was taken and `is_kept` is true. After a fault it is kept before the store
-- changes.
abbrev pub KeepsTaken : {L : Type 0} → Bool → Apdu → Result DeskOutcome ToolFault → CommandState L → CommandState L →
    Type 0
KeepsTaken is_kept a (Ok outcome) old new =
    Appends old.kept new.kept (kept_text (is_change outcome && is_kept) a)
KeepsTaken is_kept a (Err fault) old new = KeepsBefore {X = Unit {0}} (kept_text is_kept a) (Err fault) old new

-- The save of a taken message leads from `old` to `new`. It succeeded, and its record is read as the sides that the
-- desk holds. Or it failed, or memory ran out and nothing changed. No other fault is possible.
abbrev pub SavesTaken : {L K : Type 0} → Effects L K → HeldAndCommitted L → Result (Unit {0}) ToolFault → HeldAndCommitted L
    → Type 0
SavesTaken effects old (Ok done) new = (new ≡ saved effects old) × IsReadAgain effects old.live
SavesTaken effects old (Err (Desk (desks.Store Failed))) new = IsFaulted effects old new
SavesTaken effects old (Err OutOfMemory) new = new ≡ old
SavesTaken effects old (Err other) new = ⊥

-- The count of the store's failures goes from `old` to `new`, and never falls. `is_kept` is true if taken messages
-- are kept in a file. If it is false and the answer is a failure, the count has risen, or is at its maximum.
abbrev pub CountsTaking : {X : Type 0} → Bool → Result X ToolFault → ℕ → ℕ → Type 0
CountsTaking is_kept answer old new = (old ≤ new) × (is_kept ≡ false → ToolFailsCounted answer old new)

-- ---- the command

-- The progress of the command: its state, and true if nothing was refused or in conflict so far.
pub record Progress (L : Type 0) : Type 0 where
  pub state : CommandState L
  pub fine : Bool

-- Returns the progress of `state` and `fine`. The input, which is read between the messages, is left out.
abbrev pub progress : {L : Type 0} → CommandState L → Bool → Progress L
progress state fine = record { state = with_input None state; fine = fine }

-- The message `a` was handed to its side. If it was taken, it was kept (if `is_kept` is true) and saved. The text
-- that `printed` gives was written. If memory ran out to read the message, nothing changed. After any other fault this
-- was done up to the fault.
abbrev pub TakesMessage : {L K : Type 0} → Bool → Wording → Effects L K → Handles (Progress L) ToolFault
TakesMessage is_kept printed effects old a (Ok done) new =
    (outcome : DeskOutcome) × TakesAndSaves effects old.state.desk a (Ok outcome) new.state.desk
    × KeepsTaken is_kept a (Ok outcome) old.state new.state
    × Appends old.state.written new.state.written
    (printed a outcome (shown_at effects (effects.key_of a) new.state.desk.live))
    × (new.fine ≡ old.fine && is_fine outcome)
TakesMessage is_kept printed effects old a (Err fault) new =
    ((fault ≡ OutOfMemory) × (new ≡ old))
    ⊎ ((performed : Result DeskOutcome ToolFault) × (text : List ℕ)
    × TakesAndSaves effects old.state.desk a performed new.state.desk
    × KeepsTaken is_kept a performed old.state new.state
    × Appends old.state.written new.state.written text
    × Reports (printed a) performed (shown_at effects (effects.key_of a) new.state.desk.live) text (Err fault))

-- Returns the answer of the command: its fault, or the flag `fine`.
abbrev pub answer_of : Result ℕ ToolFault → Bool → Result Bool ToolFault
answer_of (Ok count) fine = Ok fine
answer_of (Err fault) fine = Err fault

-- The command `take`, which writes texts by `printed`, and keeps the messages if `is_kept` is true. Its state went from
-- `old` to `new`. If the input was read to its end, the answer is true if nothing was refused or in conflict.
abbrev pub RunsTaking : {L K : Type 0} → Bool → Wording → Effects L K → CommandState L → Result Bool ToolFault →
    CommandState L → Type 0
RunsTaking is_kept printed effects old result new =
    (ended : Result ℕ ToolFault) × (fine : Bool) × (result ≡ answer_of ended fine)
    × ReadsInput (TakesMessage is_kept printed effects) old.unread new.unread (progress old true) ended (progress new fine)

-- The command `take`, which keeps no message.
abbrev pub RunsTake : {L K : Type 0} → Wording → Effects L K → CommandState L → Result Bool ToolFault →
    CommandState L → Type 0
RunsTake printed effects old result new = RunsTaking false printed effects old result new

-- ---- the borrowed desk and file

-- The desk and the file that the command has borrowed, by their names, and the number of the store's failures.
pub record BorrowedParts : Type 0 where
  pub desk : GName
  pub file : GName
  pub failures : ℕ

-- Returns these three parts.
abbrev pub borrowed_parts : GName → GName → ℕ → BorrowedParts
borrowed_parts desk file failures = record { desk = desk; file = file; failures = failures }

-- The borrowed desk and file are the same, and the failures of the store are counted as `CountsTaking` says.
abbrev pub KeepsBorrowed : {X : Type 0} → Bool → Result X ToolFault → BorrowedParts → BorrowedParts → Type 0
KeepsBorrowed is_kept result old new =
    ((new.desk ≡ old.desk) × (new.file ≡ old.file)) × CountsTaking is_kept result old.failures new.failures
