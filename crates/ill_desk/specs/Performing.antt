-- The effect of actions and messages on any desk: the outcome and the saved record (this profile's own).
use Rattle.std.specs.Prelude.{◌≡◌, ◌⊎◌, ℕ, nat_lt, Bool, true, false, if◌then◌else◌, List, length, take, Option, None, Some}
use Rattle.std.specs.Prelude.{option_map, Result, Ok, Err}
use Rattle.std.specs.Io.KnownBytes.{Appends}
use Rattle.ill_values.specs.declared.apdu.Apdu.{Apdu}
use Rattle.ill_core.specs.declared.taking.Taking.{Taking}
use Rattle.ill_core.specs.declared.taking.Taking.TheVariants.{Taken}
use Rattle.ill_saved.specs.declared.fault.DeskFault.{DeskFault}
use Rattle.ill_saved.specs.declared.fault.DeskFault.TheVariants as desks
use Rattle.ill_store.specs.declared.store.StoreFault.TheVariants.{Failed}
use Rattle.ill_store.specs.Store.{StoreState}
use Rattle.ill_saved.specs.Desk.{DeskOf}
use Rattle.ill_words.specs.declared.outcome.Outcome.TheVariants as outcomes
use Rattle.ill_words.specs.declared.outcome.DeskOutcome.{DeskOutcome}
use Rattle.ill_words.specs.declared.outcome.DeskOutcome.TheVariants.{Plain}
use Rattle.ill_text.specs.declared.fault.ToolFault.{ToolFault}
use Rattle.ill_text.specs.declared.fault.ToolFault.TheVariants.{Desk, Write, OutOfMemory}
use Rattle.ill_saved.specs.Holdings.{Effects, IsReadAgain}
use Rattle.ill_text.specs.Known.{known}
use Rattle.ill_desk.specs.Refusals.{refused}

-- ---- the known state

-- The path of a desk, if it has one, the sides that it holds, and the content of its store, if it is known.
pub record HeldAndCommitted (L : Type 0) : Type 0 where
  pub path : Option (List ℕ)
  pub live : L
  pub committed : Option (Option (List ℕ))

-- Returns the path of `desk`, the sides that it holds, and the content of its store, if it is known.
abbrev pub view_of : {L S : Type 0} → (S → StoreState) → DeskOf L S → HeldAndCommitted L
view_of state desk = record {
  path = (state desk.store).path;
  live = desk.live;
  committed = known (state desk.store);
}

-- The state of a command: the desk, what is left of its input, what it keeps of the messages that came, and its output.
-- A stream whose bytes are not known, or that the command does not have, is `None`.
pub record CommandState (L : Type 0) : Type 0 where
  pub desk : HeldAndCommitted L
  pub unread : Option (List ℕ)
  pub kept : Option (List ℕ)
  pub written : Option (List ℕ)

-- Returns the state of a command that reads no input and keeps nothing.
abbrev pub command_state : {L : Type 0} → HeldAndCommitted L → Option (List ℕ) → CommandState L
command_state desk written = record { desk = desk; unread = None; kept = None; written = written }

-- Returns `state` with the kept bytes `kept`.
abbrev pub with_kept : {L : Type 0} → Option (List ℕ) → CommandState L → CommandState L
with_kept kept state = record state { kept = kept }

-- Returns `state` with the input `unread`.
abbrev pub with_input : {L : Type 0} → Option (List ℕ) → CommandState L → CommandState L
with_input unread state = record state { unread = unread }

-- Returns the state in which the desk holds `live`, which is not saved yet.
abbrev pub with_sides : {L : Type 0} → HeldAndCommitted L → L → HeldAndCommitted L
with_sides old live = record old { live = live }

-- Returns the state after a save of the sides that the desk holds.
abbrev pub saved : {L K : Type 0} → Effects L K → HeldAndCommitted L → HeldAndCommitted L
saved effects old = record old {
  live = effects.saves old.live;
  committed = option_map (λ _. Some (effects.encoding old.live)) old.committed;
}

-- A failed save leads from `old` to `new`. The desk holds its sides, and its store has the old record or the
-- new one. The new one is read as the sides that the desk holds.
abbrev pub IsFaulted : {L K : Type 0} → Effects L K → HeldAndCommitted L → HeldAndCommitted L → Type 0
IsFaulted effects old new =
    (new ≡ old) ⊎ ((new ≡ record old { committed = (saved effects old).committed }) × IsReadAgain effects old.live)

-- ---- the visible outcome

-- Returns the outcome of an action, and the sides after it. After a refusal these are the old ones.
abbrev pub acted : {L : Type 0} → L → Result L DeskFault → Result DeskOutcome ToolFault × L
acted old (Ok new) = (Ok (Plain outcomes.Done), new)
acted old (Err fault) = (refused fault, old)

-- Returns the outcome of a message, by the answer of its side.
abbrev pub answered : Result Taking DeskFault → Result DeskOutcome ToolFault
answered (Ok taking) = Ok (Plain (outcomes.Answered taking))
answered (Err fault) = refused fault

-- Returns the outcome of a message that was handed to its side, and the sides after it.
abbrev pub handed : {L K : Type 0} → Effects L K → L → Apdu → Result DeskOutcome ToolFault × L
handed effects live a = (answered (effects.takes live a).0, (effects.takes live a).1)

-- ---- the change

-- Returns true for a change, which must be saved: an action was done, or a message was taken.
abbrev pub is_change : DeskOutcome → Bool
is_change (Plain outcomes.Done) = true
is_change (Plain (outcomes.Answered Taken)) = true
is_change outcome = false

-- The result is the outcome of a change.
abbrev pub IsChange : Result DeskOutcome ToolFault → Type 0
IsChange (Ok outcome) = is_change outcome ≡ true
IsChange (Err fault) = ⊥

-- An event with this outcome and these sides (`event`) leads from `old` to `new`, with this result. It happened, and
-- was saved if it is a change. The saved record is read as these sides. Or the event is a change, and the save
-- failed. Or memory ran out for the event, if it needs memory (`RunsOutOfMemory`), or for the save. No other fault is
-- possible.
abbrev pub Performs : {L K : Type 0} → Effects L K → Type 0 → HeldAndCommitted L → Result DeskOutcome ToolFault × L →
    Result DeskOutcome ToolFault → HeldAndCommitted L → Type 0
Performs effects RunsOutOfMemory old event (Ok outcome) new =
    (event.0 ≡ Ok outcome)
    × (new ≡ (if is_change outcome then saved effects (with_sides old event.1) else with_sides old event.1))
    × (is_change outcome ≡ true → IsReadAgain effects event.1)
Performs effects RunsOutOfMemory old event (Err (Desk (desks.Store Failed))) new =
    IsChange event.0 × IsFaulted effects (with_sides old event.1) new
Performs effects RunsOutOfMemory old event (Err OutOfMemory) new =
    (RunsOutOfMemory × (new ≡ old)) ⊎ (IsChange event.0 × (new ≡ with_sides old event.1))
Performs effects RunsOutOfMemory old event (Err other) new = ⊥

-- ---- many changes, and one save

-- Returns true if the list is not empty.
abbrev pub has_any : {X : Type 0} → List X → Bool
has_any items = nat_lt 0 (length items)

-- One save of all `changes` leads from `old` to `new`. The record is read as the sides that the desk holds. Without a
-- change nothing is saved. If the save failed, the store has the old record or the new one. If memory ran out,
-- nothing changed. No other fault is possible.
abbrev pub SavesOnce : {L K X : Type 0} → Effects L K → List X → HeldAndCommitted L → Result (Unit {0}) ToolFault
    → HeldAndCommitted L → Type 0
SavesOnce effects changes old (Ok done) new =
    (new ≡ (if has_any changes then saved effects old else old))
    × (has_any changes ≡ true → IsReadAgain effects old.live)
SavesOnce effects changes old (Err (Desk (desks.Store Failed))) new =
    (has_any changes ≡ true) × IsFaulted effects old new
SavesOnce effects changes old (Err OutOfMemory) new = new ≡ old
SavesOnce effects changes old (Err other) new = ⊥

-- The effect of many events: the sides after them, true if any is a change, their lines, and the answer.
pub record Run (L A : Type 0) : Type 0 where
  pub live : L
  pub has_changed : Bool
  pub printed : List ℕ
  pub answer : A

-- Returns the state after a run and its one save. Without a change nothing is saved.
abbrev pub after_run : {L K A : Type 0} → Effects L K → HeldAndCommitted L → Run L A → HeldAndCommitted L
after_run effects old run =
    if run.has_changed then saved effects (with_sides old run.live) else with_sides old run.live

-- The changes of a run are saved, which leads from `old` to `new`. The record is read as the sides of the run.
abbrev pub IsSavedRun : {L K A : Type 0} → Effects L K → HeldAndCommitted L → Run L A → HeldAndCommitted L → Type 0
IsSavedRun effects old run new =
    (new ≡ after_run effects old run) × (run.has_changed ≡ true → IsReadAgain effects run.live)

-- The end of a run leads from `old` to `new`, with this answer. Without a fault all changes are saved and the lines
-- written. After the fault `Write` all is saved, and a prefix of the lines written. If the save failed, the store has
-- the old record or the new one, and nothing is written. If memory ran out, the store has the old record, and nothing
-- is written. No other fault is possible.
abbrev pub EndsRun : {L K A : Type 0} → Effects L K → Run L A → CommandState L → Result A ToolFault → CommandState L →
    Type 0
EndsRun effects run old (Ok answer) new =
    (answer ≡ run.answer) × Appends old.written new.written run.printed × IsSavedRun effects old.desk run new.desk
EndsRun effects run old (Err Write) new =
    ((size : ℕ) × Appends old.written new.written (take size run.printed)) × IsSavedRun effects old.desk run new.desk
EndsRun effects run old (Err (Desk (desks.Store Failed))) new =
    (new.written ≡ old.written) × (run.has_changed ≡ true) × IsFaulted effects (with_sides old.desk run.live) new.desk
EndsRun effects run old (Err OutOfMemory) new =
    (new.written ≡ old.written) × (new.desk.committed ≡ old.desk.committed) × (new.desk.path ≡ old.desk.path)
EndsRun effects run old (Err other) new = ⊥
