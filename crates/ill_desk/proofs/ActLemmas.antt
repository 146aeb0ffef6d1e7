-- Derives the effect of the command `act` from the results of its calls.
use Rattle.std.proofs.Common.{◌≡◌, inl, inr, ℕ, Bool, true, false, List, [], Option, Some, None, Result, Ok, Err, refl, sym}
use Rattle.std.proofs.Common.{subst}
use Rattle.std.proofs.KnownBytes.{Appends-nil}
use Rattle.ill_record.specs.declared.side.Action.{Action}
use Rattle.ill_saved.specs.declared.fault.DeskFault.{DeskFault}
use Rattle.ill_saved.specs.declared.fault.DeskFault.TheVariants as desks
use Rattle.ill_saved.specs.declared.shown.Shown.{Shown}
use Rattle.ill_words.specs.declared.outcome.DeskOutcome.{DeskOutcome}
use Rattle.ill_text.specs.Diary.{DiaryState}
use Rattle.ill_desk.specs.Refusals.{refused}
use Rattle.ill_text.specs.declared.fault.ToolFault.{ToolFault}
use Rattle.ill_text.specs.declared.fault.ToolFault.TheVariants.{Arguments, OutOfMemory}
use Rattle.ill_saved.specs.Holdings.{Effects}
use Rattle.ill_saved.specs.ManySides.{DeskContents, many_sides}
use Rattle.ill_desk.specs.Performing.{CommandState}
use Rattle.ill_desk.specs.Act.{EntersDone, FailsToName, RunsAct, fine_of}
use Rattle.ill_desk.specs.ActAs.{Asking, EntersUnlessTried, IfSo, RunsActAs, RunsTrial, WritesChange, action_asked, is_as_seen}
use Rattle.ill_desk.specs.ActAs.{not_done}
use Rattle.ill_desk.specs.Telling.{Words, WritesOutcome, is_fine, shown_at}

module _ {L K : Type 0} (effects : Effects L K) (key : K) where
  -- `act` may return `OutOfMemory` if it writes and changes nothing, whatever action `named` is.
  words_unread : (named : Option Action) (now : CommandState L) → RunsAct effects key named now (Err OutOfMemory) now
  words_unread None now = (inr refl, refl, Appends-nil now.written)
  words_unread (Some action) now = (Err OutOfMemory, [], inl (tt, refl), Appends-nil now.written, (refl, refl))

  -- If the words name no action, `act` may return the fault `Arguments` when it writes and changes nothing.
  none_named : (named : Option Action) (now : CommandState L) → named ≡ None → RunsAct effects key named now (Err Arguments) now
  none_named named now none =
      subst (λ (n : Option Action). RunsAct effects key n now (Err Arguments) now) (sym none)
      (inl refl, refl, Appends-nil now.written)

  -- If the words have no action because of `fault`, `act` may return `fault` when it writes and changes nothing.
  pub not_named : (named : Option Action) (now : CommandState L) (fault : ToolFault) → FailsToName named fault
      → RunsAct effects key named now (Err fault) now
  not_named named now fault is = elim is [
    | inl none ↦
        subst (λ (f : ToolFault). RunsAct effects key named now (Err f) now) (sym none.0) (none_named named now none.1)
    | inr memory ↦ subst (λ (f : ToolFault). RunsAct effects key named now (Err f) now) (sym memory) (words_unread named now)
  ]

  -- A trial may return `OutOfMemory` if it writes and changes nothing, whatever action `named` is.
  trial_unread : (named : Option Action) (now : CommandState L) → RunsTrial effects key named now (Err OutOfMemory) now
  trial_unread None now = words_unread None now
  trial_unread (Some action) now =
      (Err OutOfMemory, [], (refl, inr (refl, refl), refl), Appends-nil now.written, (refl, refl))

  -- If the words name no action, a trial may return the fault `Arguments` when it writes and changes nothing.
  none_tried : (named : Option Action) (now : CommandState L) → named ≡ None → RunsTrial effects key named now (Err Arguments) now
  none_tried named now none =
      subst (λ (n : Option Action). RunsTrial effects key n now (Err Arguments) now) (sym none)
      (inl refl, refl, Appends-nil now.written)

  -- If the words have no action because of `fault`, a trial may return `fault` when it writes and changes nothing.
  pub not_tried : (named : Option Action) (now : CommandState L) (fault : ToolFault) → FailsToName named fault
      → RunsTrial effects key named now (Err fault) now
  not_tried named now fault is = elim is [
    | inl none ↦
        subst (λ (f : ToolFault). RunsTrial effects key named now (Err f) now) (sym none.0) (none_tried named now none.1)
    | inr memory ↦ subst (λ (f : ToolFault). RunsTrial effects key named now (Err f) now) (sym memory) (trial_unread named now)
  ]

-- If `Tried`, `Done` and `PrintedMessage` hold, so does the one of them that `was_seen` and `is_trial` choose.
each_holds : {Tried Done PrintedMessage : Type 0} (was_seen is_trial : Bool) → Tried → Done → PrintedMessage
    → IfSo was_seen (IfSo is_trial Tried Done) PrintedMessage
each_holds true true tried done printed = tried
each_holds true false tried done printed = done
each_holds false is_trial tried done printed = printed

-- An action for which a person asks may return `OutOfMemory` if it writes and changes nothing.
pub unseen : (asked : Asking) (now : CommandState DeskContents) → RunsActAs asked now (Err OutOfMemory) now
unseen asked now =
    let action = action_asked asked now.desk.live in
    each_holds (is_as_seen asked.seen (shown_at many_sides asked.txn now.desk.live)) asked.is_trial
    (trial_unread many_sides asked.txn action now) (words_unread many_sides asked.txn action now)
    (refl, (Err OutOfMemory, Appends-nil now.written, refl))

-- ---- the diary

-- If an action was refused by `fault`, or failed with it before it was done, `EntersDone` allows that nothing was
-- entered.
pub enters_nothing : (fault : DeskFault) (line : List ℕ) (now : DiaryState) → EntersDone (fine_of (refused fault)) line now now
enters_nothing (desks.Core refusal) line now = refl
enters_nothing desks.NoSuchTransaction line now = refl
enters_nothing desks.DeskFull line now = refl
enters_nothing fault line now = inr refl

-- If `EntersDone` allows the diaries `old` and `new` for the answer `is_done`, it allows them for the answer `fault`.
entered_or_not : (is_done : Bool) (fault : ToolFault) (line : List ℕ) (old new : DiaryState)
    → EntersDone (Ok is_done) line old new → EntersDone (Err fault) line old new
entered_or_not true fault line old new enters = inl enters
entered_or_not false fault line old new same = inr same

-- If the diary changed as `outcome` says, and its words were written with `result`, the diary changed as `result`
-- says.
pub enters_printed : (words : Words) (before after : Option (List ℕ)) (outcome : DeskOutcome) (now : Shown)
    (result : Result Bool ToolFault) (line : List ℕ) (old new : DiaryState)
    → WritesOutcome words before after outcome now result → EntersDone (Ok (is_fine outcome)) line old new
    → EntersDone result line old new
enters_printed words before after outcome now (Ok fine) line old new writes enters =
    subst (λ (is : Bool). EntersDone (Ok is) line old new) (sym writes.2.0) enters
enters_printed words before after outcome now (Err fault) line old new writes enters =
    entered_or_not (is_fine outcome) fault line old new enters

-- If the answer is a fault, `EntersUnlessTried` allows that nothing was entered.
pub enters_unasked : (is_trial : Bool) (fault : ToolFault) (line : List ℕ) (now : DiaryState)
    → EntersUnlessTried is_trial (Err fault) line now now
enters_unasked true fault line now = refl
enters_unasked false fault line now = inr refl

-- If the line of a change was printed with `result`, `EntersUnlessTried` allows that nothing was entered.
pub enters_unseen : (is_trial : Bool) (shown : Shown) (before after : Option (List ℕ)) (result : Result Bool ToolFault)
    (line : List ℕ) (now : DiaryState)
    → WritesChange shown before after result → EntersUnlessTried is_trial result line now now
enters_unseen is_trial shown before after result line now writes =
    subst (λ (r : Result Bool ToolFault). EntersUnlessTried is_trial r line now now) (sym writes.2) (go is_trial writes.0)
  where
    -- The answer `not_done written` is false or a fault. `EntersUnlessTried` allows for both that nothing was
    -- entered.
    go : (is_trial : Bool) (written : Result (Unit {0}) ToolFault) → EntersUnlessTried is_trial (not_done written) line now now
    go true written = refl
    go false (Ok done) = refl
    go false (Err fault) = inr refl
