-- Proves that a night is a run, and that what leaves in it may be sent.
use Rattle.std.proofs.Common.{◌≡◌, ◌⊎◌, inl, inr, ℕ, Bool, List, [], Option, Some, None, Result, Ok, Err, sym, subst}
use Rattle.ill_values.specs.Day.{Date}
use Rattle.ill_values.specs.declared.apdu.Apdu.{Apdu}
use Rattle.ill_record.specs.declared.role.Role.{Role}
use Rattle.ill_saved.specs.ManySides.{DeskContents, many_sides, sides_held}
use Rattle.ill_text.specs.declared.fault.ToolFault.{ToolFault}
use Rattle.ill_desk.specs.Performing.{HeldAndCommitted, CommandState}
use Rattle.ill_text.specs.declared.form.Form.{Form}
use Rattle.ill_night.specs.declared.verdict.MessageFile.{MessageFile}
use Rattle.ill_night.specs.declared.verdict.Verdict.{Verdict}
use Rattle.ill_night.specs.declared.night.Dates.{Dates}
use Rattle.ill_inbox.specs.Inbox.{Arrived, RunsInbox, after_all, inbox_run, unsorted}
use Rattle.ill_inbox.specs.Dates.{after_deeds, all_due, deeds_run, doing}
use Rattle.ill_exchange.specs.Nights.{AskedNight, Night, TakesMessageFiles, ExchangesAt, PerformsDueDeeds, SettlesRun, arrived_in}
use Rattle.ill_world.specs.Desks.{DeskParty, Sending}
use Rattle.ill_world.specs.DeskSafety.{IsDeskOf}
use Rattle.ill_runs.specs.Events.{Leads, IsReadAs, IsDesk, EndsAs, IsRun}
use Rattle.ill_runs.specs.MessageFile.{WasSent, Bring, message_files_taken, message_files_of, IsOutbox, LeavesIfDone, Leaves}
use Rattle.ill_runs.proofs.EventLemmas.{none_leads, then_leads, leads_keep_role, ends_as, store_of_end}
use Rattle.ill_runs.proofs.CommandLemmas.{ended_is_run, message_files_lead, deeds_lead}

module _ (who : Role) (sent : List Sending) (p : DeskParty) (of : IsDeskOf who p) where
  -- If the desk is as before, a command is a run without an event.
  same_is_run : {X : Type 0} (result : Result X ToolFault) (old new : HeldAndCommitted DeskContents) → IsDesk old p → new ≡ old
      → IsRun who sent p result new
  same_is_run result old new at same =
      (p, none_leads who sent p, ends_as result new p (subst (λ desk. IsDesk desk p) (sym same) at))

  -- ---- the inbox

  -- Taking message files is a run, if the other desk has sent the message of each.
  inbox_is_run : (arrived : Arrived) (old new : CommandState DeskContents) (result : Result (List Verdict) ToolFault)
      → IsDesk old.desk p → Bring (WasSent sent) arrived.message_files → RunsInbox many_sides arrived old result new
      → IsRun who sent p result new.desk
  inbox_is_run arrived old new result at were is =
      ended_is_run who sent p (inbox_run (after_all many_sides arrived old.desk.live) arrived.waiting) old new result at.committed
      (subst (λ live. Leads who sent p (record p { live = (after_all many_sides arrived live).live })) (sym at.live)
      (message_files_lead who sent p (unsorted arrived.form p.live) arrived.message_files were)) is.1

  -- If a run ended at a desk, the settling of its message files ends there.
  settling_ends : (message_files : List MessageFile) (waiting : ℕ) (answer : Result (List Verdict) ToolFault)
      (result : Result Night ToolFault)
      (desk : HeldAndCommitted DeskContents) (q : DeskParty) → SettlesRun message_files waiting answer result
      → EndsAs answer desk q
      → EndsAs result desk q
  settling_ends message_files waiting (Ok verdicts) result desk q is ends = ends_as result desk q ends
  settling_ends message_files waiting (Err fault) result desk q is ends =
      subst (λ (r : Result Night ToolFault). EndsAs r desk q) (sym is) ends

  -- Taking the message files of a folder is a run, if the other desk has sent the message of each.
  pub taking_is_run : (form : Form) (old new : CommandState DeskContents) (result : Result Night ToolFault) → IsDesk old.desk p
      → (taken : TakesMessageFiles form old result new) → Bring (WasSent sent) (message_files_taken taken)
      → IsRun who sent p result new.desk
  taking_is_run form old new result at (inl failed) were = same_is_run result old.desk new.desk at failed.1
  taking_is_run form old new result at (inr took) were =
      let answer = took.2 in
      let run = inbox_is_run (arrived_in form took.0 took.1) old new answer at were took.3 in
      (run.0, run.1, settling_ends took.0 took.1 answer result new.desk run.0 took.4 run.2)

  -- ---- the deeds of the day

  -- The deeds of the day of a night are a run.
  deeds_are_run : (form : Form) (dates : Option (Date × Dates)) (old new : CommandState DeskContents)
      (result : Result (Unit {0}) ToolFault)
      → IsDesk old.desk p → PerformsDueDeeds form dates old result new → IsRun who sent p result new.desk
  deeds_are_run form None old new result at is = same_is_run result old.desk new.desk at is.2
  deeds_are_run form (Some (today, which)) old new result at is =
      let dues = all_due which today (sides_held old.desk.live).sides in
      ended_is_run who sent p (deeds_run form many_sides (after_deeds many_sides today old.desk.live dues)) old new result
      at.committed
      (subst (λ live. Leads who sent p (record p { live = (after_deeds many_sides today live dues).live })) (sym at.live)
      (deeds_lead who sent p today (doing p.live []) dues of)) is

-- ---- the night

-- `left` leave the desk `p` in an outbox, or none leaves.
abbrev pub LeaveIfAny : DeskParty → List Apdu → Type 0
LeaveIfAny p left = (left ≡ []) ⊎ IsOutbox p.live left

-- If deeds ended at a desk, what leaves after them leaves that desk.
left_after_deeds : (said : Result (Unit {0}) ToolFault) (desk : HeldAndCommitted DeskContents) (q : DeskParty) (left : List Apdu)
    → EndsAs said desk q → LeavesIfDone said desk.live left → LeaveIfAny q left
left_after_deeds (Ok done) desk q left ends leaves = inr (subst (λ live. IsOutbox live left) ends.live leaves)
left_after_deeds (Err fault) desk q left ends leaves = inl leaves

-- A night is a run, if the other desk has sent the message of each message file.
pub night_is_run : (who : Role) (sent : List Sending) (asked : AskedNight) (p : DeskParty) → IsDeskOf who p
    → (old new : CommandState DeskContents) (result : Result Bool ToolFault) (left : List Apdu) → IsDesk old.desk p
    → (night : ExchangesAt asked old result new) → Bring (WasSent sent) (message_files_of asked night) → Leaves asked night left
    → (q : DeskParty) × Leads who sent p q × IsReadAs new.desk.committed q.committed × LeaveIfAny q left
night_is_run who sent asked p of old new result left at (met, Err fault, taken, ends) were leaves =
    let run = taking_is_run who sent p of asked.form old met (Err fault) at taken were in
    (run.0, run.1, subst (λ desk. IsReadAs desk.committed run.0.committed) (sym ends.2) run.2, inl leaves)
night_is_run who sent asked p of old new result left at (met, Ok night, taken, ends) were leaves =
    let run = taking_is_run who sent p of asked.form old met (Ok night) at taken were in
    let between : CommandState DeskContents = ends.0 in
    let said : Result (Unit {0}) ToolFault = ends.1 in
    let deeds = deeds_are_run who sent run.0 (leads_keep_role run.1 who of) asked.form asked.dates met between said run.2
    ends.2 in (
      deeds.0,
      then_leads run.1 deeds.1,
      subst (λ desk. IsReadAs desk.committed deeds.0.committed) (sym ends.4) (store_of_end said between.desk deeds.0 deeds.2),
      left_after_deeds said between.desk deeds.0 left deeds.2 leaves,
    )
