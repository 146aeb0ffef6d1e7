-- The command `inbox`: it takes the message files of a folder in order, and saves the desk once (this profile's own).
use Rattle.std.specs.Prelude.{◌≡◌, ℕ, nat_lt, Bool, true, false, not, ◌||◌, if◌then◌else◌, List, [], ◌∷◌, ◌++◌, fold}
use Rattle.std.specs.Prelude.{count_by, Option, None, Some, option_map, Result, Ok, Err}
use Rattle.ill_values.specs.declared.apdu.Apdu.{Apdu}
use Rattle.ill_core.specs.declared.taking.Taking.TheVariants as takings
use Rattle.ill_saved.specs.ManySides.{DeskContents, many_sides}
use Rattle.ill_words.specs.declared.outcome.Outcome.TheVariants as outcomes
use Rattle.ill_words.specs.declared.outcome.DeskOutcome.{DeskOutcome}
use Rattle.ill_words.specs.declared.outcome.DeskOutcome.TheVariants as seen
use Rattle.ill_text.specs.declared.fault.ToolFault.{ToolFault}
use Rattle.ill_text.specs.declared.fault.ToolFault.TheVariants as faults
use Rattle.ill_text.specs.declared.form.Form.{Form}
use Rattle.ill_night.specs.declared.verdict.Batch.{Batch}
use Rattle.ill_night.specs.declared.verdict.MessageFile.{MessageFile}
use Rattle.ill_night.specs.declared.verdict.Unfit.{Unfit}
use Rattle.ill_night.specs.declared.verdict.Verdict.{Verdict}
use Rattle.ill_night.specs.declared.verdict.Verdict.TheVariants.{Done, Quarantined, Deferred}
use Rattle.ill_inbox.specs.declared.tally.Heap.{Heap}
use Rattle.ill_inbox.specs.declared.tally.Heap.TheVariants as heaps
use Rattle.ill_inbox.specs.declared.tally.Tally.{Tally}
use Rattle.ill_inbox.specs.declared.inbox.Sorted.{Sorted}
use Rattle.ill_saved.specs.Holdings.{Effects}
use Rattle.ill_desk.specs.Performing.{HeldAndCommitted, CommandState, handed, is_change, has_any, Run, EndsRun}
use Rattle.ill_desk.specs.Take.{KeepsBefore}
use Rattle.ill_desk.specs.Telling.{once_saved, shown_at}
use Rattle.ill_night.specs.MessageFiles.{message_in, verdict_of, verdict_unread, verdict_without_message}
use Rattle.ill_inbox.specs.Objects.{printed_message, printed_tally, printed_verdict}

-- ---- one message file after another

-- The state after some message files: the sides, the verdicts, what is printed of them in the form `form`, and the
-- bytes of the taken messages.
pub record Sorting (L : Type 0) : Type 0 where
  pub form : Form
  pub live : L
  pub verdicts : List Verdict
  pub printed : List ℕ
  pub kept : List ℕ

-- Returns the state with the sides `live`, and all else of `sorted`.
abbrev pub sorting_of : {L : Type 0} → L → Sorted → Sorting L
sorting_of live sorted = record {
  form = sorted.form;
  live = live;
  verdicts = sorted.verdicts.items;
  printed = sorted.printed.items;
  kept = sorted.kept.items;
}

-- Returns the state before the first message file.
abbrev pub unsorted : {L : Type 0} → Form → L → Sorting L
unsorted form live = record { form = form; live = live; verdicts = []; printed = []; kept = [] }

-- Returns the state after the verdict of the message file `name`, which is printed if the message file stays.
abbrev pub with_verdict : {L : Type 0} → List ℕ → Verdict → Sorting L → Sorting L
with_verdict name verdict old = record {
  form = old.form;
  live = old.live;
  verdicts = old.verdicts ++ verdict ∷ [];
  printed = old.printed ++ printed_verdict old.form name verdict;
  kept = old.kept;
}

-- Returns the bytes of a message file if its message was taken, else nothing.
abbrev pub kept_bytes : DeskOutcome → List ℕ → List ℕ
kept_bytes outcome bytes = if is_change outcome then bytes else []

-- Returns the state after the message `a` with this outcome, which led to the sides `live`. The message is printed with
-- its side as it is once all is saved. If it was taken, its `bytes` are kept.
abbrev pub with_message : {L K : Type 0} → Effects L K → List ℕ → Apdu → DeskOutcome → L → Sorting L → Sorting L
with_message effects bytes a outcome live old = record {
  form = old.form;
  live = live;
  verdicts = old.verdicts;
  printed = old.printed ++ printed_message old.form a outcome (once_saved (shown_at effects (effects.key_of a) live));
  kept = old.kept ++ kept_bytes outcome bytes;
}

-- Returns the state after a message was handed to its side, and its message file got a verdict. A fault that is no
-- refusal changes nothing. No side returns such a fault.
abbrev pub after_handing : {L K : Type 0} → Effects L K → List ℕ → List ℕ → Apdu → Result DeskOutcome ToolFault × L →
    Sorting L → Sorting L
after_handing effects name bytes a (Ok outcome, live) old =
    with_verdict name (verdict_of (effects.role live) outcome) (with_message effects bytes a outcome live old)
after_handing effects name bytes a (Err fault, live) old = old

-- Returns the state after the message file `name` with this message in `bytes`, or with the reason that it has none.
abbrev pub after_message : {L K : Type 0} → Effects L K → List ℕ → List ℕ → Result Apdu Unfit → Sorting L → Sorting L
after_message effects name bytes (Ok a) old = after_handing effects name bytes a (handed effects old.live a) old
after_message effects name bytes (Err unfit) old = with_verdict name (verdict_without_message bytes unfit) old

-- Returns the state after a message file with these bytes, or after one without bytes, which has the verdict `unread`.
abbrev pub after_bytes : {L K : Type 0} → Effects L K → (unread : Verdict) → List ℕ → Option (List ℕ) → Sorting L → Sorting L
after_bytes effects unread name None old = with_verdict name unread old
after_bytes effects unread name (Some bytes) old = after_message effects name bytes (message_in bytes) old

-- Returns the state after one message file.
abbrev pub after_message_file : {L K : Type 0} → Effects L K → Sorting L → MessageFile → Sorting L
after_message_file effects old message_file =
    after_bytes effects (verdict_unread message_file.letter) message_file.name.items
    (option_map (λ bytes. bytes.items) message_file.bytes) old

-- Returns the state after all of `message_files`, in their order.
abbrev pub after_message_files : {L K : Type 0} → Effects L K → Form → L → List MessageFile → Sorting L
after_message_files effects form live message_files = fold (after_message_file effects) (unsorted form live) message_files

-- ---- counts

-- Returns the heap on which a message file with this verdict is counted.
abbrev pub heap_of : Verdict → Heap
heap_of (Done (seen.Plain (outcomes.Answered takings.Taken))) = heaps.Taken
heap_of (Done (seen.Plain (outcomes.Answered takings.Repeat))) = heaps.Repeat
heap_of (Done (seen.Plain (outcomes.Answered takings.Stale))) = heaps.Stale
heap_of (Done (seen.Plain (outcomes.Answered (takings.Conflict state)))) = heaps.Conflict
heap_of (Done outcome) = heaps.Unknown
heap_of (Quarantined unfit) = heaps.Quarantined
heap_of (Deferred delay) = heaps.Deferred

-- Returns true if the two heaps are equal.
abbrev pub is_heap : Heap → Heap → Bool
is_heap heaps.Taken heaps.Taken = true
is_heap heaps.Repeat heaps.Repeat = true
is_heap heaps.Stale heaps.Stale = true
is_heap heaps.Conflict heaps.Conflict = true
is_heap heaps.Unknown heaps.Unknown = true
is_heap heaps.Quarantined heaps.Quarantined = true
is_heap heaps.Deferred heaps.Deferred = true
is_heap heap other = false

-- Returns the number of verdicts on a heap.
abbrev pub count_on : Heap → List Verdict → ℕ
count_on heap verdicts = count_by (λ verdict. is_heap heap (heap_of verdict)) verdicts

-- Returns the numbers of verdicts on all heaps.
abbrev pub tally_of : List Verdict → Tally
tally_of verdicts = record {
  taken = count_on heaps.Taken verdicts;
  repeat = count_on heaps.Repeat verdicts;
  stale = count_on heaps.Stale verdicts;
  conflict = count_on heaps.Conflict verdicts;
  unknown = count_on heaps.Unknown verdicts;
  quarantined = count_on heaps.Quarantined verdicts;
  left = count_on heaps.Deferred verdicts;
}

-- ---- the command

-- A message was handed to its side. Or memory ran out for it, and nothing changed.
abbrev pub HandsOver : {L K : Type 0} → Effects L K → L → Apdu → Result DeskOutcome ToolFault → L → Type 0
HandsOver effects old a (Ok outcome) new = handed effects old a ≡ (Ok outcome, new)
HandsOver effects old a (Err fault) new = new ≡ old

-- Returns what is printed of all message files, and the counts.
abbrev pub inbox_text : {L : Type 0} → Sorting L → ℕ → List ℕ
inbox_text end waiting = end.printed ++ printed_tally end.form (tally_of end.verdicts) waiting

-- Returns the state `end` after the counts are printed.
abbrev pub concluded : {L : Type 0} → ℕ → Sorting L → Sorting L
concluded waiting end = record {
  form = end.form;
  live = end.live;
  verdicts = end.verdicts;
  printed = inbox_text end waiting;
  kept = end.kept;
}

-- Returns the run of the message files that lead to `end`.
abbrev pub inbox_run : {L : Type 0} → Sorting L → ℕ → Run L (List Verdict)
inbox_run end waiting = record {
  live = end.live;
  has_changed = has_any end.kept;
  printed = inbox_text end waiting;
  answer = end.verdicts;
}

-- Returns a result with `value` applied to its answer.
abbrev pub answered_with : {X Y : Type 0} → (X → Y) → Result X ToolFault → Result Y ToolFault
answered_with value (Ok answer) = Ok (value answer)
answered_with value (Err fault) = Err fault

-- The message files of a run, the number of further message files that wait, and the form in which all is printed.
pub record Arrived : Type 0 where
  pub form : Form
  pub message_files : List MessageFile
  pub waiting : ℕ

-- Returns the message files of a batch of the code.
abbrev pub arrived_of : Batch → Arrived
arrived_of batch = record { form = batch.form; message_files = batch.message_files.now; waiting = batch.waiting }

-- Returns the state after all of the message files that arrived at the desk `live`.
abbrev pub after_all : {L K : Type 0} → Effects L K → Arrived → L → Sorting L
after_all effects arrived live = after_message_files effects arrived.form live arrived.message_files

-- A run took the message files that arrived. The state of the command went from `old` to `new`. Taken messages are kept
-- before they are saved.
abbrev pub RunsInbox : {L K : Type 0} → Effects L K → Arrived → CommandState L → Result (List Verdict) ToolFault →
    CommandState L → Type 0
RunsInbox effects arrived old result new =
    KeepsBefore (after_all effects arrived old.desk.live).kept result old new
    × EndsRun effects (inbox_run (after_all effects arrived old.desk.live) arrived.waiting) old result new

-- A run over `message_files` ended without a fault and with these verdicts, at a desk that is `new` now. So all its
-- changes are saved.
unfoldable pub Succeeded : List MessageFile → List Verdict → HeldAndCommitted DeskContents → Type 0
Succeeded message_files verdicts new =
    (form : Form) × (waiting : ℕ) × (old end : CommandState DeskContents)
    × RunsInbox many_sides (record { form = form; message_files = message_files; waiting = waiting }) old (Ok verdicts) end
    × (end.desk ≡ new)

-- ---- the answer

-- Returns true if any message file waits for the next run: one on the heap `Deferred`, or one of `waiting` further
-- ones.
abbrev pub is_waiting : Tally → ℕ → Bool
is_waiting tally waiting = nat_lt 0 tally.left || nat_lt 0 waiting

-- Returns true if no message file was in conflict or quarantined.
abbrev pub is_quiet : Tally → Bool
is_quiet tally = not (nat_lt 0 tally.conflict || nat_lt 0 tally.quarantined)

-- Returns the result of the command after a run. If a message file waits, it is the fault `Deferred`. Else it is true
-- if no message file was in conflict or quarantined.
abbrev pub ending : Tally → ℕ → Result Bool ToolFault
ending tally waiting = if is_waiting tally waiting then Err faults.Deferred else Ok (is_quiet tally)
