-- Proves that the commands of a person, and the message files and deeds of a night, are events of the model.
use Rattle.std.proofs.Common.{◌≡◌, inl, inr, ⊎_elim, ℕ, Bool, true, false, if◌then◌else◌, List, [], ◌∷◌, length, fold, Option}
use Rattle.std.proofs.Common.{Some, None}
use Rattle.std.proofs.Common.{option_map, Result, Ok, Err}
use Rattle.std.proofs.Common.{refl, sym, ◌∙◌, subst}
use Rattle.ill_values.specs.Day.{Date}
use Rattle.ill_values.specs.TxnId.{Qualifiers}
use Rattle.ill_values.specs.declared.apdu.Apdu.{Apdu}
use Rattle.ill_core.specs.declared.refusal.Refusal.TheVariants.{WrongRole}
use Rattle.ill_saved.specs.declared.fault.DeskFault.{DeskFault}
use Rattle.ill_saved.specs.declared.fault.DeskFault.TheVariants as faults
use Rattle.ill_store.specs.declared.store.StoreFault.TheVariants.{Failed}
use Rattle.ill_record.specs.declared.role.Role.{Role}
use Rattle.ill_record.specs.declared.role.Role.TheVariants as who
use Rattle.ill_record.specs.declared.side.Action.{Action}
use Rattle.ill_record.specs.declared.side.Action.TheVariants as actions
use Rattle.ill_record.specs.Sides.{is_same_role}
use Rattle.ill_record.specs.Side.{role_for, begins}
use Rattle.ill_record.specs.Ranges.{Each}
use Rattle.ill_saved.specs.Holdings.{RunsOutOfMemory}
use Rattle.ill_saved.specs.ManySides.{DeskContents, many_sides, desk_acts, desk_takes, acts_reached, side_for_call}
use Rattle.ill_words.specs.declared.outcome.DeskOutcome.{DeskOutcome}
use Rattle.ill_der.specs.Handling.{Handled}
use Rattle.ill_text.specs.Input.{Ends, ReadsInput, Rest, rest_of}
use Rattle.ill_text.specs.declared.fault.ToolFault.{ToolFault}
use Rattle.ill_text.specs.declared.fault.ToolFault.TheVariants.{Desk, Write, OutOfMemory}
use Rattle.ill_desk.specs.Performing.{HeldAndCommitted, CommandState, Run, EndsRun, Performs, acted, handed, is_change}
use Rattle.ill_desk.specs.Act.{RunsAct}
use Rattle.ill_desk.specs.Take.{RunsTaking, TakesAndSaves, TakesMessage, Progress, progress}
use Rattle.ill_desk.specs.Telling.{Wording}
use Rattle.ill_night.specs.declared.verdict.MessageFile.{MessageFile}
use Rattle.ill_night.specs.declared.verdict.Unfit.{Unfit}
use Rattle.ill_night.specs.declared.verdict.Verdict.{Verdict}
use Rattle.ill_inbox.specs.Inbox.{Sorting, after_message_file, after_bytes, after_message, after_handing}
use Rattle.ill_night.specs.MessageFiles.{message_in, verdict_unread}
use Rattle.ill_inbox.specs.Dates.{Doing, after_act, after_deed}
use Rattle.ill_world.specs.declared.event.DeskEvent.TheVariants.{Wish, Deed}
use Rattle.ill_world.specs.Desks.{DeskParty, Sending, desk_decides}
use Rattle.ill_world.specs.DeskSafety.{IsDeskOf}
use Rattle.ill_runs.specs.Events.{Leads, IsReadAs, IsDesk, IsRun}
use Rattle.ill_runs.specs.MessageFile.{WasSent, message_failed, messages_taken, message_if, message_if_read, message_of}
use Rattle.ill_runs.proofs.Lists.{each_parts}
use Rattle.ill_runs.proofs.EventLemmas.{none_leads, one_leads, then_leads, leads_keep_role, fault_is_run, saves_if, fails_to_save}
use Rattle.ill_runs.proofs.EventLemmas.{delivery_leads, store_of_end}

-- ---- an event that is saved at once

module _ (who : Role) (sent : List Sending) (p : DeskParty) where
  -- If an event leads to the sides `event.1`, what `Performs` says of it is a run. Its result says if it was saved, if
  -- the save failed, or if memory was refused.
  pub performed_is_run : (RunsOutOfMemory : Type 0) (event : Result DeskOutcome ToolFault × DeskContents)
      (old new : HeldAndCommitted DeskContents) (result : Result DeskOutcome ToolFault) → IsReadAs old.committed p.committed
      → Leads who sent p (record p { live = event.1 }) → Performs many_sides RunsOutOfMemory old event result new
      → IsRun who sent p result new
  performed_is_run RunsOutOfMemory event old new (Ok outcome) committed leads is =
      saves_if who sent p old new event.1 (is_change outcome) committed leads is.1 is.2
  performed_is_run RunsOutOfMemory event old new (Err (Desk (faults.Store Failed))) committed leads is =
      let failed = fails_to_save who sent p old new event.1 committed leads is.1 in
      (failed.0, failed.1, failed.2.committed)
  performed_is_run RunsOutOfMemory event old new (Err OutOfMemory) committed leads is = elim is [
    | inl wants ↦
        fault_is_run DeskOutcome who sent p OutOfMemory new
        (subst (λ desk. IsReadAs desk.committed p.committed) (sym wants.1) committed)
    | inr ran ↦ fault_is_run DeskOutcome who sent p OutOfMemory new
        (subst (λ desk. IsReadAs desk.committed p.committed) (sym ran.1) committed)
  ]
  performed_is_run RunsOutOfMemory event old new (Err other) committed leads is = absurd is

  -- If an event leads to the sides of `run`, what `EndsRun` says of it is a run. Its result says if it was saved and
  -- told, or which of these failed.
  pub ended_is_run : {A : Type 0} (run : Run DeskContents A) (old new : CommandState DeskContents) (result : Result A ToolFault)
      → IsReadAs old.desk.committed p.committed → Leads who sent p (record p { live = run.live })
      → EndsRun many_sides run old result new → IsRun who sent p result new.desk
  ended_is_run run old new (Ok answer) committed leads is =
      saves_if who sent p old.desk new.desk run.live run.has_changed committed leads is.2.0 is.2.1
  ended_is_run run old new (Err Write) committed leads is =
      let saved = saves_if who sent p old.desk new.desk run.live run.has_changed committed leads is.1.0 is.1.1 in
      (saved.0, saved.1, saved.2.committed)
  ended_is_run run old new (Err (Desk (faults.Store Failed))) committed leads is =
      let failed = fails_to_save who sent p old.desk new.desk run.live committed leads is.2 in
      (failed.0, failed.1, failed.2.committed)
  ended_is_run {A} run old new (Err OutOfMemory) committed leads is =
      fault_is_run A who sent p OutOfMemory new.desk (subst (λ content. IsReadAs content p.committed) (sym is.1) committed)
  ended_is_run run old new (Err other) committed leads is = absurd is

-- ---- actions

-- If the test of two roles is true, they are equal.
same_role : (a b : Role) → is_same_role a b ≡ true → a ≡ b
same_role who.Requester who.Requester is = refl
same_role who.Responder who.Responder is = refl
same_role who.Requester who.Responder is = absurd cc
same_role who.Responder who.Requester is = absurd cc

-- If a choice between `result` and a refusal succeeds, `is_own` is true.
chosen : (is_own : Bool) (result : Result DeskContents DeskFault) (new : DeskContents)
    → (if is_own then result else Err (faults.Core WrongRole)) ≡ Ok new → is_own ≡ true
chosen true result new is = refl
chosen false result new is = absurd cc

-- If a desk performs an action, it has the role of the action.
acts_own : (live new : DeskContents) (txn : Qualifiers) (action : Action) → desk_acts live txn action ≡ Ok new
    → live.role ≡ role_for action
acts_own live new txn action is =
    same_role live.role (role_for action)
    (chosen (is_same_role live.role (role_for action)) (acts_reached live action (side_for_call live txn (begins action))) new is)

module _ (who : Role) (sent : List Sending) (p : DeskParty) (of : IsDeskOf who p) (txn : Qualifiers) where
  -- If a desk performs an action, that is an event. It leads to the sides after the action.
  done_leads : (action : Action) (new : DeskContents) → desk_acts p.live txn action ≡ Ok new
      → Leads who sent p (record p { live = new })
  done_leads (actions.Wish wish) new is =
      subst (λ r. Leads who sent p (desk_decides p r).1) is
      (one_leads who sent p (Wish txn wish) (sym (acts_own p.live new txn (actions.Wish wish) is) ∙ of.0))
  done_leads (actions.Deed deed today) new is =
      subst (λ r. Leads who sent p (desk_decides p r).1) is
      (one_leads who sent p (Deed txn deed today) (sym (acts_own p.live new txn (actions.Deed deed today) is) ∙ of.0))

  -- An action that is performed is one event, and one that is refused is none.
  pub action_leads : (action : Action) (result : Result DeskContents DeskFault) → desk_acts p.live txn action ≡ result
      → Leads who sent p (record p { live = (acted p.live result).1 })
  action_leads action (Ok new) is = done_leads action new is
  action_leads action (Err fault) is = none_leads who sent p

-- The command `act` is a run. Some events lead from `p` to a desk `q`, whose committed sides are in the store after it.
pub act_is_run : (who : Role) (sent : List Sending) (p : DeskParty) → IsDeskOf who p → (txn : Qualifiers)
    (action : Option Action) (old new : CommandState DeskContents) (result : Result Bool ToolFault) → IsDesk old.desk p
    → RunsAct many_sides txn action old result new → (q : DeskParty) × Leads who sent p q
    × IsReadAs new.desk.committed q.committed
act_is_run who sent p of txn (Some action) old new result at is =
    let performed : Result DeskOutcome ToolFault = is.0 in
    let event = acted old.desk.live (desk_acts old.desk.live txn action) in
    let leads = subst (λ live. Leads who sent p (record p { live = (acted live (desk_acts live txn action)).1 })) (sym at.live)
    (action_leads who sent p of txn action (desk_acts p.live txn action) refl) in
    let run = performed_is_run who sent p (Unit {0}) event old.desk new.desk performed at.committed leads is.2 in
    (run.0, run.1, store_of_end performed new.desk run.0 run.2)
act_is_run who sent p of txn None old new result at is =
    (p, none_leads who sent p, subst (λ desk. IsReadAs desk.committed p.committed) (sym is.1) at.committed)

-- ---- the messages of an input

module _ (who : Role) (sent : List Sending) (is_kept : Bool) (printed : Wording) where
  -- The desk of `progress` is the model's desk to which some events lead from `p`.
  record IsFrom (p : DeskParty) (progress : Progress DeskContents) : Type 0 where
    end : DeskParty
    leads : Leads who sent p end
    at : IsDesk progress.state.desk end

  -- Taking a message that the other desk has sent is a run, whatever its result is.
  taken_is_run : (p : DeskParty) (a : Apdu) (old new : HeldAndCommitted DeskContents) (result : Result DeskOutcome ToolFault)
      → WasSent sent a → IsDesk old p → TakesAndSaves many_sides old a result new → IsRun who sent p result new
  taken_is_run p a old new result was at is =
      performed_is_run who sent p (RunsOutOfMemory many_sides old.live a) (handed many_sides old.live a) old new result
      at.committed
      (subst (λ live. Leads who sent p (record p { live = (desk_takes live a).1 })) (sym at.live)
      (delivery_leads who sent p a was))
      is

  -- Taking messages one after another is a run, if the other desk has sent each.
  handled_is_run : (p : DeskParty) (before after : Progress DeskContents) (apdus : List Apdu) → Each (WasSent sent) apdus
      → IsDesk before.state.desk p → Handled (TakesMessage is_kept printed many_sides) before apdus after → IsFrom p after
  unfolding Each
  handled_is_run p before after [] were at is =
      record { end = p; leads = none_leads who sent p; at = subst (λ s. IsDesk s.state.desk p) (sym is) at }
  handled_is_run p before after (a ∷ apdus) were at is =
      let took = is.1 in
      let outcome : DeskOutcome = took.0 in
      let first = taken_is_run p a before.state.desk is.0.state.desk (Ok outcome) were.0 at took.1 in
      let more = handled_is_run first.0 is.0 after apdus were.1 first.2 is.2 in
      record { end = more.end; leads = then_leads first.1 more.leads; at = more.at }

  -- The bad end of an input is a run, if the other desk has sent the message of which the handling failed.
  failing_is_run : (p : DeskParty) (fault : ToolFault) (count : ℕ) (rest : Rest) (before after : Progress DeskContents)
      → IsDesk before.state.desk p → (ends : Ends (TakesMessage is_kept printed many_sides) (Err fault) count rest before after)
      → Each (WasSent sent) (⊎_elim (λ stops. []) (λ fails. fails.0 ∷ []) ends)
      → (q : DeskParty) × Leads who sent p q × IsReadAs after.state.desk.committed q.committed
  unfolding Each
  failing_is_run p fault count rest before after at (inl stops) were =
      (p, none_leads who sent p, subst (λ s. IsReadAs s.state.desk.committed p.committed) (sym stops.1) at.committed)
  failing_is_run p fault count rest before after at (inr fails) were = elim fails.4 [
    | inl memory ↦
        (p, none_leads who sent p, subst (λ s. IsReadAs s.state.desk.committed p.committed) (sym memory.1) at.committed)
    | inr took ↦
        let run = taken_is_run p fails.0 before.state.desk after.state.desk took.0 were.0 at took.2 in
        (run.0, run.1, store_of_end took.0 after.state.desk run.0 run.2)
  ]

  -- The end of an input is a run, if the other desk has sent the message of which the handling failed.
  ending_is_run : (p : DeskParty) (left rest : Option (List ℕ)) (before after : Progress DeskContents)
      (result : Result ℕ ToolFault) (read : ReadsInput (TakesMessage is_kept printed many_sides) left rest before result after)
      → IsDesk read.last.state.desk p → Each (WasSent sent) (message_failed result read)
      → (q : DeskParty) × Leads who sent p q × IsReadAs after.state.desk.committed q.committed
  ending_is_run p left rest before after (Ok n) read at were =
      (p, none_leads who sent p, subst (λ s. IsReadAs s.state.desk.committed p.committed) (sym read.ended.3) at.committed)
  ending_is_run p left rest before after (Err fault) read at were =
      failing_is_run p fault (length read.apdus) (rest_of read.bytes read.ahead rest) read.last after at read.ended were

  -- The command `take` is a run, if the other desk has sent each message of the input.
  pub take_is_run : (p : DeskParty) (old new : CommandState DeskContents) (result : Result Bool ToolFault) → IsDesk old.desk p
      → (taken : RunsTaking is_kept printed many_sides old result new)
      → Each (WasSent sent) (messages_taken {printed = printed} taken)
      → (q : DeskParty) × Leads who sent p q × IsReadAs new.desk.committed q.committed
  take_is_run p old new result at taken were =
      let read = taken.3 in
      let both = each_parts (WasSent sent) read.apdus (message_failed taken.0 read) were in
      let handled = handled_is_run p (progress old true) read.last read.apdus both.0 at read.handled in
      let ended = ending_is_run handled.end old.unread new.unread (progress old true) (progress new taken.1) taken.0 read
      handled.at both.1 in
      (ended.0, then_leads handled.leads ended.1, ended.2)

-- ---- the message files of a night

module _ (who : Role) (sent : List Sending) (p : DeskParty) where
  -- If a message leads to the sides `next.1`, the message file that holds it leads to the sides that it leaves.
  handing_leads : (name bytes : List ℕ) (a : Apdu) (next : Result DeskOutcome ToolFault × DeskContents)
      (old : Sorting DeskContents) → Leads who sent (record p { live = old.live }) (record p { live = next.1 })
      → Leads who sent (record p { live = old.live }) (record p { live = (after_handing many_sides name bytes a next old).live })
  handing_leads name bytes a (Ok outcome, live) old leads = leads
  handing_leads name bytes a (Err fault, live) old leads = none_leads who sent (record p { live = old.live })

  -- If the other desk has sent the message of a message file, taking the message file is an event, or none.
  message_leads : (name bytes : List ℕ) (found : Result Apdu Unfit) (old : Sorting DeskContents)
      → Each (WasSent sent) (message_if found)
      → Leads who sent (record p { live = old.live }) (record p { live = (after_message many_sides name bytes found old).live })
  unfolding Each
  message_leads name bytes (Ok a) old was =
      handing_leads name bytes a (handed many_sides old.live a) old
      (delivery_leads who sent (record p { live = old.live }) a was.0)
  message_leads name bytes (Err unfit) old was = none_leads who sent (record p { live = old.live })

  -- Taking a message file is an event or none, whether the message file could be read or not.
  content_leads : (unread : Verdict) (name : List ℕ) (content : Option (List ℕ)) (old : Sorting DeskContents)
      → Each (WasSent sent) (message_if_read content)
      → Leads who sent (record p { live = old.live }) (record p { live = (after_bytes many_sides unread name content old).live })
  content_leads unread name (Some bytes) old was = message_leads name bytes (message_in bytes) old was
  content_leads unread name None old was = none_leads who sent (record p { live = old.live })

  -- Taking message files is events, if the other desk has sent the message of each.
  pub message_files_lead : (old : Sorting DeskContents) (message_files : List MessageFile)
      → Each (λ message_file. Each (WasSent sent) (message_of message_file)) message_files
      → Leads who sent (record p { live = old.live })
      (record p { live = (fold (after_message_file many_sides) old message_files).live })
  unfolding Each
  message_files_lead old [] were = none_leads who sent (record p { live = old.live })
  message_files_lead old (message_file ∷ message_files) were =
      then_leads (content_leads (verdict_unread message_file.letter) message_file.name.items
      (option_map (λ bytes. bytes.items) message_file.bytes) old
      were.0)
      (message_files_lead (after_message_file many_sides old message_file) message_files were.1)

  -- ---- the deeds of a day

  -- A deed that is done is an event, and one that is refused is none.
  deed_leads : (due : _) (result : Result DeskContents DeskFault) (old : Doing DeskContents)
      → Leads who sent (record p { live = old.live }) (record p { live = (acted old.live result).1 })
      → Leads who sent (record p { live = old.live }) (record p { live = (after_act due result old).live })
  deed_leads due (Ok new) old leads = leads
  deed_leads due (Err fault) old leads = leads

  -- The deeds of a day are events.
  pub deeds_lead : (today : Date) (old : Doing DeskContents) (dues : List _) → IsDeskOf who (record p { live = old.live })
      → Leads who sent (record p { live = old.live }) (record p { live = (fold (after_deed many_sides today) old dues).live })
  deeds_lead today old [] of = none_leads who sent (record p { live = old.live })
  deeds_lead today old (due ∷ dues) of =
      let result = desk_acts old.live due.txn (actions.Deed due.deed today) in
      let first : Leads who sent (record p { live = old.live })
      (record p { live = (after_deed many_sides today old due).live }) =
      deed_leads due result old
      (action_leads who sent (record p { live = old.live }) of due.txn (actions.Deed due.deed today) result refl) in
      then_leads first (deeds_lead today (after_deed many_sides today old due) dues (leads_keep_role first who of))
