-- Proves to which side of a transaction the parts of a night lead: the start, the message files, and the deeds of the
-- day.
use Rattle.std.proofs.Common.{rules, ◌≡◌, inl, inr, Bool, true, false, if◌then◌else◌, List, [], ◌∷◌, ◌++◌, length, fold, Option}
use Rattle.std.proofs.Common.{Some}
use Rattle.std.proofs.Common.{None, Result, Ok, Err, refl, sym, ap, ◌∙◌, subst}
use Rattle.ill_values.specs.Day.{Date}
use Rattle.ill_values.specs.TxnId.{Qualifiers}
use Rattle.ill_core.specs.declared.responder.Deed.{Deed}
use Rattle.ill_core.specs.declared.refusal.Refusal.TheVariants.{WrongRole}
use Rattle.ill_saved.specs.declared.fault.DeskFault.{DeskFault}
use Rattle.ill_saved.specs.declared.fault.DeskFault.TheVariants as faults
use Rattle.ill_record.specs.declared.role.Role.{Role}
use Rattle.ill_record.specs.declared.role.Role.TheVariants as who
use Rattle.ill_record.specs.declared.side.Side.{Side}
use Rattle.ill_record.specs.declared.side.Action.TheVariants as actions
use Rattle.ill_record.specs.Side.{issued_of, acts, other}
use Rattle.ill_record.specs.Sides.{is_same_role}
use Rattle.ill_saved.specs.Holdings.{IsReadAgain}
use Rattle.ill_saved.specs.ManySides.{DeskContents, desk_acts, many_sides, side_for, sides_held}
use Rattle.ill_text.specs.declared.fault.ToolFault.{ToolFault}
use Rattle.ill_desk.specs.Performing.{CommandState, HeldAndCommitted, has_any, saved, with_sides}
use Rattle.ill_text.specs.declared.form.Form.{Form}
use Rattle.ill_night.specs.declared.night.Dates.{Dates}
use Rattle.ill_night.specs.declared.verdict.MessageFile.{MessageFile}
use Rattle.ill_night.specs.declared.verdict.Verdict.{Verdict}
use Rattle.ill_inbox.specs.Dates.{Doing, after_act, after_deed, after_deeds, all_due, doing}
use Rattle.ill_inbox.specs.Inbox.{RunsInbox, after_message_files, unsorted}
use Rattle.ill_exchange.specs.Nights.{Night, PerformsDueDeeds, SettlesRun, TakesMessageFiles, arrived_in}
use Rattle.ill_world.specs.declared.event.Event.TheVariants as events
use Rattle.ill_world.specs.declared.event.DeskEvent.{DeskEvent}
use Rattle.ill_world.specs.declared.event.DeskEvent.TheVariants as desk_events
use Rattle.ill_words.specs.declared.outcome.DeskOutcome.{DeskOutcome}
use Rattle.ill_world.specs.World.{Party, Parties, party, happens}
use Rattle.ill_world.specs.Desks.{DeskParty, DeskParties, desk_decides, desk_restarts, desk_saves, desks_happen, project}
use Rattle.ill_world.specs.Desks.{is_event_of, IsSeenAs}
use Rattle.ill_world.specs.DeskSafety.{DesksInvariant}
use Rattle.ill_world.proofs.Desks.{EachProjects, EachStands}
use Rattle.ill_world.proofs.DeskArrivals.{EachReaches}
use Rattle.ill_world.proofs.DeskRounds.{shown}
use Rattle.ill_world.proofs.Rounds.{takes_all}
use Rattle.ill_runs.specs.Events.{IsDesk}
use Rattle.ill_runs.specs.Libraries.{IsAt, Library, StartsFrom}
use Rattle.ill_runs.specs.MessageFile.{Bring, WasSent, message_files_taken}
use Rattle.ill_runs.proofs.EventLemmas.{committed_again}
use Rattle.ill_runs.proofs.LibraryLemmas.{started}
use Rattle.ill_nights.specs.Messages.{after_deeds_of, messages_for}
use Rattle.ill_nights.specs.Nights.{messages_of}
use Rattle.ill_nights.proofs.Deliveries.{desk_led, other_stays}
use Rattle.ill_nights.proofs.SideNights.{decides_so, deeds_join}
use Rattle.ill_nights.proofs.Takings.{EachChanges, Led, message_files_led}

-- ---- one party after an event of its whole desk

-- After a save the live side of a party is committed, and all its messages are released.
save_commits : (role : Role) (v : Parties) → let new = party (happens v (events.Save role)).1 role in
    (new.live ≡ (party v role).live) × (new.committed ≡ (party v role).live)
    × (new.released ≡ length (issued_of (party v role).live))
save_commits who.Requester v = (refl, refl, refl)
save_commits who.Responder v = (refl, refl, refl)

-- After a restart the live side of a party is the one that is committed, and all its messages are released.
restart_commits : (role : Role) (v : Parties) → let new = party (happens v (events.Restart role)).1 role in
    (new.live ≡ (party v role).committed) × (new.committed ≡ (party v role).committed)
    × (new.released ≡ length (issued_of (party v role).committed))
restart_commits who.Requester v = (refl, refl, refl)
restart_commits who.Responder v = (refl, refl, refl)

-- A requester's desk refuses each deed.
requester_refuses : (live new : DeskContents) (txn : Qualifiers) (deed : Deed) (today : Date) → live.role ≡ who.Requester
    → desk_acts live txn (actions.Deed deed today) ≡ Ok new → ⊥
requester_refuses live new txn deed today is done =
    refused (is_same_role live.role who.Responder) (ap (λ r. is_same_role r who.Responder) is) _ done
  where
    -- A desk of another role refuses the deed, so it is not done.
    refused : (own : Bool) → own ≡ false → (result : Result DeskContents DeskFault)
        → (if own then result else Err (faults.Core WrongRole)) ≡ Ok new → ⊥
    refused true is result done = absurd cc
    refused false is result done = absurd cc

module _ (projects : EachProjects) (reaches : EachReaches) (stand : EachStands) (changes : EachChanges) (txn : Qualifiers)
    (role : Role) where
  -- Events at the desk of `role` lead from `w` to the world `now`, in which this desk is `desk`. The other desk is as
  -- before. The side of `txn` at `desk` is `side`. It is committed, and all its messages are released.
  pub record Reached (w : DeskParties) (desk : HeldAndCommitted DeskContents) (side : Side) : Type 0 where
    pub now : DeskParties
    pub stands : DesksInvariant now
    pub at : IsDesk desk (party now role)
    pub there : party now (other role) ≡ party w (other role)
    pub live : (party (project txn now) role).live ≡ side
    pub committed : (party (project txn now) role).committed ≡ side
    pub released : (party (project txn now) role).released ≡ length (issued_of side)

  -- ---- the start

  -- If a command at `library` starts from `desk`, a restart of the desk of `role` reaches it. Its side of `txn` is the
  -- committed one.
  pub starts_from : (w : DeskParties) → DesksInvariant w → (library : Library) (desk : HeldAndCommitted DeskContents)
      → IsAt library (party w role) → StartsFrom library.file desk → Reached w desk (side_for txn (party w role).committed)
  starts_from w stands library desk at starts =
      let p : DeskParty = party w role in
      let next : DeskParties = (desks_happen w (desk_events.Restart role)).1 in
      let here : party next role ≡ desk_restarts p = desk_led role w (desk_restarts p) in
      let seen : project txn next ≡ (happens (project txn w) (events.Restart role)).1 =
      (projects txn w (desk_events.Restart role) stands).1 in
      let commits = restart_commits role (project txn w) in
      let side : (party (project txn w) role).committed ≡ side_for txn p.committed =
      ap (λ (q : Party). q.committed) (shown txn w role) in
      record {
        now = next;
        stands = stand w (desk_events.Restart role) stands;
        at = subst (IsDesk desk) (sym here) (started library p desk at starts);
        there = other_stays role w (desk_restarts p);
        live = ap (λ (v : Parties). (party v role).live) seen ∙ commits.0 ∙ side;
        committed = ap (λ (v : Parties). (party v role).committed) seen ∙ commits.1 ∙ side;
        released = ap (λ (v : Parties). (party v role).released) seen ∙ commits.2 ∙ ap (λ s. length (issued_of s)) side;
      }

  -- ---- the save after many changes

  -- Changes lead from `start` to the world `mid`, with the live side `next`. If `has_changed`, they are saved; if not,
  -- `txn` is as before. Either way `new` is reached, and `next` is committed.
  saved_reaches : (w : DeskParties) (old new : HeldAndCommitted DeskContents) (side next : Side) (live : DeskContents)
      (start : Reached w old side) (mid : DeskParties) → DesksInvariant mid
      → party mid role ≡ record (party start.now role) { live = live } → party mid (other role) ≡ party start.now (other role)
      → (party (project txn mid) role).live ≡ next → (has_changed : Bool)
      → (has_changed ≡ false → project txn mid ≡ project txn start.now)
      → new ≡ (if has_changed then saved many_sides (with_sides old live) else with_sides old live)
      → (has_changed ≡ true → IsReadAgain many_sides live) → Reached w new next
  saved_reaches w old new side next live start mid stands here there leads true quiet same again =
      let p : DeskParty = record (party start.now role) { live = live } in
      let end : DeskParties = (desks_happen mid (desk_events.Save role)).1 in
      let at : party end role ≡ desk_saves p = desk_led role mid (desk_saves (party mid role)) ∙ ap desk_saves here in
      let seen : project txn end ≡ (happens (project txn mid) (events.Save role)).1 =
      (projects txn mid (desk_events.Save role) stands).1 in
      let commits = save_commits role (project txn mid) in
      record {
        now = end;
        stands = stand mid (desk_events.Save role) stands;
        at = subst (λ desk. IsDesk desk (party end role)) (sym same) (subst (IsDesk (saved many_sides (with_sides old live)))
            (sym at) (record {
              live = refl;
              committed = committed_again old.committed (party start.now role).committed live
                  start.at.committed (again refl);
            }));
        there = other_stays role mid (desk_saves (party mid role)) ∙ there ∙ start.there;
        live = ap (λ (v : Parties). (party v role).live) seen ∙ commits.0 ∙ leads;
        committed = ap (λ (v : Parties). (party v role).committed) seen ∙ commits.1 ∙ leads;
        released = ap (λ (v : Parties). (party v role).released) seen ∙ commits.2 ∙ ap (λ s. length (issued_of s)) leads;
      }
  saved_reaches w old new side next live start mid stands here there leads false quiet same again =
      let kept : project txn mid ≡ project txn start.now = quiet refl in
      let one : side ≡ next =
      sym start.live ∙ sym (ap (λ (v : Parties). (party v role).live) kept) ∙ leads in
      record {
        now = mid;
        stands = stands;
        at = subst (λ desk. IsDesk desk (party mid role)) (sym same) (subst (IsDesk (with_sides old live)) (sym here)
            (record { live = refl; committed = start.at.committed }));
        there = there ∙ start.there;
        live = leads;
        committed = ap (λ (v : Parties). (party v role).committed) kept ∙ start.committed ∙ one;
        released = ap (λ (v : Parties). (party v role).released) kept ∙ start.released ∙ ap (λ s. length (issued_of s)) one;
      }

  -- ---- the message files

  -- If a command took its message files (`taken`), and the other desk sent each of their messages, `met.desk` is
  -- reached. Its side is `side` after their messages of `txn`, in order.
  pub message_files_reach : (w : DeskParties) (form : Form) (old met : CommandState DeskContents) (night : Night) (side : Side)
      → Reached w old.desk side → (taken : TakesMessageFiles form old (Ok night) met)
      → Bring (WasSent (party w (other role)).sent) (message_files_taken taken)
      → Reached w met.desk (takes_all side (messages_for txn (messages_of (message_files_taken taken))))
  message_files_reach w form old met night side start (inl failed) were = absurd failed.0.0
  message_files_reach w form old met night side start (inr took) were = go took.2 took.3 took.4
    where
      -- The message files that were taken.
      message_files : List MessageFile
      message_files = took.0

      -- The message files lead from the start to the world `led.now`, by their messages of `txn`.
      led : Led projects reaches stand changes txn role start.now
          (after_message_files many_sides form old.desk.live message_files).live
          (messages_for txn (messages_of message_files)) [] (after_message_files many_sides form old.desk.live message_files).kept
      led = message_files_led projects reaches stand changes txn role start.now start.stands (unsorted form old.desk.live)
          (sym start.at.live) message_files
          (subst (λ (p : DeskParty). Bring (WasSent p.sent) message_files) (sym start.there) were)

      -- The message files led to the world `led.now`; the save then commits its side. An inbox that failed gives
      -- no `night`.
      go : (answer : Result (List Verdict) ToolFault) → RunsInbox many_sides (arrived_in form message_files took.1) old answer met
          → SettlesRun message_files took.1 answer (Ok night)
          → Reached w met.desk (takes_all side (messages_for txn (messages_of message_files)))
      go (Ok verdicts) runs settles =
          saved_reaches w old.desk met.desk side (takes_all side (messages_for txn (messages_of message_files)))
          (after_message_files many_sides form old.desk.live message_files).live start led.now led.stands led.here led.there
          (led.side ∙ ap (λ s. takes_all s (messages_for txn (messages_of message_files))) start.live)
          (has_any (after_message_files many_sides form old.desk.live message_files).kept) (λ none. (led.quiet none).0) runs.1.2.0
          runs.1.2.1
      go (Err fault) runs settles = absurd cc

-- ---- the deeds of the day

module _ (projects : EachProjects) (reaches : EachReaches) (stand : EachStands) (changes : EachChanges) (txn : Qualifiers) where
  -- Deeds lead from the world `w` to the world `now`. The desk of `role` then has the sides of `end`, and the other
  -- desk is as before. `deeds` lead the side of `txn` on. If `end` lists no deed that was done, `old` lists none, and
  -- the parties of `txn` are unchanged.
  record Did (role : Role) (w : DeskParties) (old end : Doing DeskContents) : Type 0 where
    now : DeskParties
    stands : DesksInvariant now
    here : party now role ≡ record (party w role) { live = end.live }
    there : party now (other role) ≡ party w (other role)
    deeds : List (Deed × Date)
    side : (party (project txn now) role).live ≡ after_deeds_of (party (project txn w) role).live deeds
    quiet : has_any end.done ≡ false → (project txn now ≡ project txn w) × (has_any old.done ≡ false)

  -- Without a deed the world stays `w`, and the state stays `old`.
  none_did : (role : Role) (w : DeskParties) → DesksInvariant w → (old : Doing DeskContents) → (party w role).live ≡ old.live
      → Did role w old old
  unfolding after_deeds_of
  none_did role w stands old is = record {
    now = w;
    stands = stands;
    here = ap (λ l. record (party w role) { live = l }) is;
    there = refl;
    deeds = [];
    side = refl;
    quiet = λ none. (refl, none);
  }

  -- If deeds lead from `old` to `between`, and further deeds to `end`, all deeds together lead from `old` to `end`.
  then_did : (role : Role) (w : DeskParties) (old between end : Doing DeskContents) (first : Did role w old between)
      → Did role first.now between end → Did role w old end
  then_did role w old between end first second = record {
    now = second.now;
    stands = second.stands;
    here = second.here ∙ ap (λ (p : DeskParty). record p { live = end.live }) first.here;
    there = second.there ∙ first.there;
    deeds = first.deeds ++ second.deeds;
    side = second.side ∙ ap (λ s. after_deeds_of s second.deeds) first.side
        ∙ sym (deeds_join (party (project txn w) role).live first.deeds second.deeds);
    quiet = λ none. (let later = second.quiet none in let sooner = first.quiet later.1 in (later.0 ∙ sooner.0, sooner.1));
  }

  -- If a deed is of `txn` (`own`), its event leads the responder's side on by this deed. If not, the side is unchanged.
  seen_deed : (v new : Parties) (deed : Deed) (today : Date) (own : Bool) (outcome : DeskOutcome)
      → IsSeenAs own (happens v (events.Deed deed today)) v outcome new
      → (deeds : List (Deed × Date)) × (new.responder.live ≡ after_deeds_of v.responder.live deeds)
  unfolding after_deeds_of
  seen_deed v new deed today true outcome seen = (
    (deed, today) ∷ [],
    ap (λ (u : Parties). u.responder.live) seen.1
        ∙ decides_so v.responder (acts v.responder.live (actions.Deed deed today)),
  )
  seen_deed v new deed today false outcome seen = ([], ap (λ (u : Parties). u.responder.live) seen)

  -- A list with one more item is not empty.
  some_done : {X : Type 0} (done : List X) (due : X) → has_any (done ++ due ∷ []) ≡ false → ⊥
  some_done [] due none = search rules
  some_done (first ∷ done) due none = search rules

  -- If the desk does a deed on the loan `of`, the deed leads from `old` to `end`. It leads the side of `txn` on by the
  -- deed, or by no deed. A requester's desk does no deed.
  done_did : (role : Role) (w : DeskParties) → DesksInvariant w → (old end : Doing DeskContents)
      → (party w role).live ≡ old.live → (of : Qualifiers) (deed : Deed) (today : Date)
      → desk_acts old.live of (actions.Deed deed today) ≡ Ok end.live → (has_any end.done ≡ false → ⊥) → Did role w old end
  done_did who.Requester w stands old end is of deed today done some =
      absurd (requester_refuses old.live end.live of deed today
      (ap (λ (l : DeskContents). l.role) (sym is) ∙ stands.requester.0) done)
  done_did who.Responder w stands old end is of deed today done some =
      let event : DeskEvent = desk_events.Deed of deed today in
      let next : DeskParties = (desks_happen w event).1 in
      let seen = seen_deed (project txn w) (project txn next) deed today (is_event_of txn w event) (desks_happen w event).0
      (projects txn w event stands) in
      record {
        now = next;
        stands = stand w event stands;
        here = ap (λ l. (desk_decides w.responder (desk_acts l of (actions.Deed deed today))).1) is
            ∙ ap (λ result. (desk_decides w.responder result).1) done;
        there = refl;
        deeds = seen.0;
        side = seen.1;
        quiet = λ none. absurd (some none);
      }

  -- If the desk answers a deed with `result`, the attempt leads on by the deed, or changes nothing.
  tried_did : (role : Role) (w : DeskParties) → DesksInvariant w → (old : Doing DeskContents) → (party w role).live ≡ old.live
      → (of : Qualifiers) (deed : Deed) (today : Date) (due : _) (result : Result DeskContents DeskFault)
      → desk_acts old.live of (actions.Deed deed today) ≡ result → Did role w old (after_act due result old)
  tried_did role w stands old is of deed today due (Ok new) done =
      done_did role w stands old (doing new (old.done ++ due ∷ [])) is of deed today done (some_done old.done due)
  tried_did role w stands old is of deed today due (Err fault) done = none_did role w stands old is

  -- Attempts at the deeds `dues`, one after another, lead on by those that were done.
  all_did : (role : Role) (w : DeskParties) → DesksInvariant w → (old : Doing DeskContents) → (party w role).live ≡ old.live
      → (today : Date) (dues : List _) → Did role w old (fold (after_deed many_sides today) old dues)
  all_did role w stands old is today [] = none_did role w stands old is
  all_did role w stands old is today (due ∷ dues) =
      let next : Doing DeskContents = after_deed many_sides today old due in
      let first : Did role w old next = tried_did role w stands old is due.txn due.deed today due
      (desk_acts old.live due.txn (actions.Deed due.deed today)) refl in
      then_did role w old next (fold (after_deed many_sides today) next dues) first
      (all_did role first.now first.stands next (ap (λ (p : DeskParty). p.live) first.here) today dues)

  -- The state `desk` is reached, and its side of `txn` is `side` after some deeds.
  pub record ReachedByDeeds (role : Role) (w : DeskParties) (desk : HeldAndCommitted DeskContents) (side : Side) : Type 0 where
    pub deeds : List (Deed × Date)
    pub reached : Reached projects reaches stand changes txn role w desk (after_deeds_of side deeds)

  -- If the due deeds were done and saved, `met.desk` is reached, with `side` after some deeds. Without a day (`dates`)
  -- no deed is due.
  pub deeds_reach : (role : Role) (w : DeskParties) (form : Form) (dates : Option (Date × Dates))
      (old met : CommandState DeskContents)
      (done : Unit {0}) (side : Side) → Reached projects reaches stand changes txn role w old.desk side
      → PerformsDueDeeds form dates old (Ok done) met → ReachedByDeeds role w met.desk side
  unfolding after_deeds_of
  deeds_reach role w form None old met done side start is = record {
    deeds = [];
    reached = subst (λ desk. Reached projects reaches stand changes txn role w desk side) (sym is.2) start;
  }
  deeds_reach role w form (Some (today, which)) old met done side start is =
      let dues = all_due which today (sides_held old.desk.live).sides in
      let end : Doing DeskContents = after_deeds many_sides today old.desk.live dues in
      let did = all_did role start.now start.stands (doing old.desk.live []) (sym start.at.live) today dues in
      record {
        deeds = did.deeds;
        reached = saved_reaches projects reaches stand changes txn role w old.desk met.desk side (after_deeds_of side did.deeds)
            end.live start did.now did.stands did.here did.there
            (did.side ∙ ap (λ s. after_deeds_of s did.deeds) start.live) (has_any end.done) (λ none. (did.quiet none).0)
            is.2.0 is.2.1;
      }
