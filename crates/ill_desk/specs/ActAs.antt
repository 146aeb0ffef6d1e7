-- The command `act` of a person who says what was seen of the loan, or who asks what would come.
use Rattle.std.specs.Prelude.{◌≡◌, ◌⊎◌, ℕ, ◌+◌, Bool, true, false, if◌then◌else◌, List, [], ◌∷◌, ◌++◌, map, Option, None, Some}
use Rattle.std.specs.Prelude.{option_map}
use Rattle.std.specs.Prelude.{codes, Result, Ok, Err}
use Rattle.std.specs.Str.{bytes_eq}
use Rattle.std.specs.Io.KnownBytes.{Appends}
use Rattle.ill_values.specs.Day.{Date}
use Rattle.ill_values.specs.TxnId.{Qualifiers}
use Rattle.ill_record.specs.declared.side.Action.{Action}
use Rattle.ill_saved.specs.declared.shown.Shown.{Shown}
use Rattle.ill_saved.specs.Holdings.{Effects}
use Rattle.ill_saved.specs.ManySides.{DeskContents, many_sides}
use Rattle.ill_words.specs.declared.outcome.DeskOutcome.{DeskOutcome}
use Rattle.ill_words.specs.Shown.{shown_text}
use Rattle.ill_text.specs.declared.fault.ToolFault.{ToolFault}
use Rattle.ill_text.specs.declared.fault.ToolFault.TheVariants.{OutOfMemory}
use Rattle.ill_text.specs.Diary.{DiaryState, diary_line}
use Rattle.ill_text.specs.Output.{WritesText}
use Rattle.ill_desk.specs.declared.act_as.ActionView.{ActionView}
use Rattle.ill_desk.specs.Performing.{CommandState, HeldAndCommitted, acted, is_change}
use Rattle.ill_desk.specs.Act.{EntersDone, RunsAct}
use Rattle.ill_desk.specs.Actions.{action_named}
use Rattle.ill_desk.specs.Telling.{Reports, once_saved, shown_at, side_line}

-- An action that a person asks for: its loan, its day and its words; what was seen of the loan, if that is said; and
-- true if it is only tried.
pub record Asking : Type 0 where
  pub txn : Qualifiers
  pub today : Option Date
  pub words : List (List ℕ)
  pub seen : Option (List ℕ)
  pub is_trial : Bool

-- Returns what `view` asks.
abbrev pub asking_of : ActionView → Asking
asking_of view = record {
  txn = view.txn.now;
  today = view.today;
  words = map (λ word. word.now) view.words.now;
  seen = option_map (λ seen. seen.now) view.seen;
  is_trial = view.is_trial;
}

-- Returns true if `seen` is the text of a side shown as `now`, or if `seen` is `None`.
abbrev pub is_as_seen : Option (List ℕ) → Shown → Bool
is_as_seen None now = true
is_as_seen (Some seen) now = bytes_eq seen (shown_text now)

-- Returns the line that tells that a side, which is shown as `now`, was not seen so.
abbrev pub changed_line : Shown → List ℕ
changed_line now = codes "changed " ++ shown_text now ++ codes "\n"

-- Returns the answer after a line that tells a change: false, or the fault of the writing.
abbrev pub not_done : Result (Unit {0}) ToolFault → Result Bool ToolFault
not_done (Ok done) = Ok false
not_done (Err fault) = Err fault

-- `changed_line now` was written, which leads the output from `before` to `after`. `result` is false, or the fault of
-- the writing.
abbrev pub WritesChange : Shown → Option (List ℕ) → Option (List ℕ) → Result Bool ToolFault → Type 0
WritesChange now before after result =
    (written : Result (Unit {0}) ToolFault) × WritesText before after (changed_line now) written × (result ≡ not_done written)

-- The side is shown as `now`, and was not seen so. The line of this change was written, and nothing else changed.
abbrev pub PrintsChange : {L : Type 0} → Shown → CommandState L → Result Bool ToolFault → CommandState L → Type 0
PrintsChange now old result new = (new.desk ≡ old.desk) × WritesChange now old.written new.written result

-- ---- a trial

-- Returns the parts of a side that the line of a trial shows. If the action was done, these are the parts after a
-- save.
abbrev pub tried_shown : DeskOutcome → Shown → Shown
tried_shown outcome now = if is_change outcome then once_saved now else now

-- Returns the line of a trial.
abbrev pub trial_line : DeskOutcome → Shown → List ℕ
trial_line outcome now = side_line outcome (tried_shown outcome now)

-- An action on the side `key` was tried, with this result, and nothing was saved. Or memory ran out, and nothing
-- changed.
abbrev pub TriesAction : {L K : Type 0} → Effects L K → K → HeldAndCommitted L → Action → Result DeskOutcome ToolFault →
    HeldAndCommitted L → Type 0
TriesAction effects key old action result new =
    (new.committed ≡ old.committed)
    × (((result ≡ (acted old.live (effects.acts old.live key action)).0)
    × (new.live ≡ (acted old.live (effects.acts old.live key action)).1))
    ⊎ ((result ≡ Err OutOfMemory) × (new.live ≡ old.live)))
    × (new.path ≡ old.path)

-- The command `act`, if the action is only tried. Its line is the line of the action, as if the action was saved.
abbrev pub RunsTrial : {L K : Type 0} → Effects L K → K → Option Action → CommandState L → Result Bool ToolFault →
    CommandState L → Type 0
RunsTrial effects key (Some action) old result new =
    (tried : Result DeskOutcome ToolFault) × (text : List ℕ)
    × TriesAction effects key old.desk action tried new.desk × Appends old.written new.written text
    × Reports trial_line tried (shown_at effects key new.desk.live) text result
RunsTrial effects key None old result new = RunsAct effects key None old result new

-- ---- what a person asks

-- If the Bool is true, this is the statement `So`, else the statement `Otherwise`.
abbrev pub IfSo : Bool → Type 0 → Type 0 → Type 0
IfSo true So Otherwise = So
IfSo false So Otherwise = Otherwise

-- Returns the action for which a person asks at the desk `live`, if the words name one.
abbrev pub action_asked : Asking → DeskContents → Option Action
action_asked asked live = action_named live.role asked.today asked.words

-- The action for which a person asks was tried, if it is only to be tried. Otherwise it was performed.
abbrev pub RunsOrTries : Asking → CommandState DeskContents → Result Bool ToolFault → CommandState DeskContents → Type 0
RunsOrTries asked old result new =
    IfSo asked.is_trial (RunsTrial many_sides asked.txn (action_asked asked old.desk.live) old result new)
    (RunsAct many_sides asked.txn (action_asked asked old.desk.live) old result new)

-- The command `act`, as a person asks for it. If the loan is not as it was seen, the line of this change is written.
-- Otherwise the action is performed, or only tried.
abbrev pub RunsActAs : Asking → CommandState DeskContents → Result Bool ToolFault → CommandState DeskContents → Type 0
RunsActAs asked old result new =
    IfSo (is_as_seen asked.seen (shown_at many_sides asked.txn old.desk.live)) (RunsOrTries asked old result new)
    (PrintsChange (shown_at many_sides asked.txn old.desk.live) old result new)

-- ---- the diary

-- Returns the line of a diary that names an action with these words, done by the person `by`. The action is the next
-- message of a loan with `issued` messages. Without a day or without words there is none.
abbrev pub words_line : Option Date → (by : Option (List ℕ)) → Qualifiers → (words : List (List ℕ)) → (issued : ℕ) → List ℕ
words_line (Some day) by txn (verb ∷ words) issued = diary_line day by txn verb (issued + 1)
words_line today by txn words issued = []

-- Returns the line of a diary that names the action for which a person asks, as `words_line` does. If the action is
-- only tried, there is none.
abbrev pub action_line : Asking → (by : Option (List ℕ)) → (issued : ℕ) → List ℕ
action_line asked by issued = if asked.is_trial then [] else words_line asked.today by asked.txn asked.words issued

-- An action with this answer was entered in a diary, as `EntersDone` says. If it is only tried, nothing was entered.
abbrev pub EntersUnlessTried : (is_trial : Bool) → Result Bool ToolFault → (line : List ℕ) → DiaryState → DiaryState → Type 0
EntersUnlessTried true answer line old new = new ≡ old
EntersUnlessTried false answer line old new = EntersDone answer line old new
