-- Proves that a command of a library is a run of the model: events at its desk, with a Send for each message that
-- leaves.
use Rattle.std.proofs.Common.{◌≡◌, ◌⊎◌, inl, inr, ℕ, zero, suc, ◌<◌, nat_le, Bool, true, false, List, [], ◌∷◌, ◌++◌, length}
use Rattle.std.proofs.Common.{cond}
use Rattle.std.proofs.Common.{Option, Some, None, is_some, Result, Ok}
use Rattle.std.proofs.Common.{refl, sym, ap, ◌∙◌, subst, arith, true≢false}
use Rattle.std.proofs.lemmas.Option.{slice_get_within}
use Rattle.ill_values.specs.TxnId.{Qualifiers}
use Rattle.ill_values.specs.declared.apdu.Apdu.{Apdu}
use Rattle.ill_core.specs.Issued.{message}
use Rattle.ill_record.specs.declared.fault.RecordFault.{RecordFault}
use Rattle.ill_record.specs.declared.role.Role.{Role}
use Rattle.ill_record.specs.declared.role.Role.TheVariants as who
use Rattle.ill_record.specs.declared.side.Side.{Side}
use Rattle.ill_record.specs.declared.side.Side.TheVariants as sides
use Rattle.ill_record.specs.Side.{other, issued_of}
use Rattle.ill_record.specs.Ranges.{Each}
use Rattle.ill_saved.specs.Holdings.{DeskEntry, map_ok}
use Rattle.ill_saved.specs.ManySides.{DeskContents, whole_of, found_by, found_or, txn_held, held_for, idle_held}
use Rattle.ill_record.proofs.Finding.{same_self}
use Rattle.ill_desk.specs.Performing.{HeldAndCommitted}
use Rattle.ill_night.specs.declared.verdict.MessageFile.{MessageFile}
use Rattle.ill_world.specs.declared.event.DeskEvent.{DeskEvent}
use Rattle.ill_world.specs.declared.event.DeskEvent.TheVariants.{Send, Restart}
use Rattle.ill_world.specs.World.{party, who_of, happens_at, run_by, sent_message, with_sent, sends_by}
use Rattle.ill_world.specs.Desks.{DeskParty, DeskParties, Sending, plain, sent_for, with_sent_for, desk_sends, desk_restarts}
use Rattle.ill_world.specs.Desks.{desk_happens_to}
use Rattle.ill_world.specs.Desks.{desks_happen, desks_run, project}
use Rattle.ill_world.specs.Invariant.{RequesterSideInvariant, ResponderSideInvariant}
use Rattle.ill_world.specs.DeskCounts.{AreApart, live_txns}
use Rattle.ill_world.specs.Changes.{KeepsSent}
use Rattle.ill_world.specs.DeskSafety.{IsDeskOf, DesksInvariant}
use Rattle.ill_world.proofs.Desks.{EachStands, desks_stand_on}
use Rattle.ill_world.proofs.Projections.{sent_after}
use Rattle.ill_world.proofs.Rounds.{put_here}
use Rattle.ill_runs.specs.Events.{desk_after, HappenAt, Leads, IsReadAs, IsDesk}
use Rattle.ill_runs.specs.MessageFile.{IsOneOf, WasSent, IsReleased, IsOutbox, Bring, messages_taken, message_of}
use Rattle.ill_runs.specs.Libraries.{Library, StartsFrom, IsCommand, Acts, Takes, TakesMessageFile, Sends, Exchanges, Commands}
use Rattle.ill_runs.specs.Libraries.{IsAt}
use Rattle.ill_runs.specs.Libraries.{LeadsTo}
use Rattle.ill_runs.proofs.EventLemmas.{one_leads, then_leads, leads_keep_role, store_of_end}
use Rattle.ill_runs.proofs.CommandLemmas.{act_is_run, take_is_run}
use Rattle.ill_runs.proofs.NightLemmas.{LeaveIfAny, taking_is_run, night_is_run}
use Rattle.ill_runs.proofs.LeavingLemmas.{outbox_released}
use Rattle.ill_runs.proofs.Lists.{each_append, each_at, each_so}

-- ---- events of one desk in a world

-- The desks after an event at the desk of `role`.
abbrev pub after_event : (w : DeskParties) → (role : Role) → DeskEvent → DeskParties
after_event w role event = (happens_at w role (λ p partner. desk_happens_to p partner.sent event)).1

-- An event at the desk of `who` leads this desk on, and leaves the other.
event_there : (who : Role) (w : DeskParties) (event : DeskEvent) → who_of (plain event) ≡ who
    → (party (desks_happen w event).1 who ≡ (desk_happens_to (party w who) (party w (other who)).sent event).1)
    × (party (desks_happen w event).1 (other who) ≡ party w (other who))
event_there who.Requester w event here =
    (ap (λ role. (after_event w role event).requester) here, ap (λ role. (after_event w role event).responder) here)
event_there who.Responder w event here =
    (ap (λ role. (after_event w role event).responder) here, ap (λ role. (after_event w role event).requester) here)

-- Events at the desk of `who` lead this desk on, and leave the other.
pub events_there : (who : Role) (w : DeskParties) (events : List DeskEvent) → HappenAt who events
    → (party (desks_run w events) who ≡ desk_after (party w who) (party w (other who)).sent events)
    × (party (desks_run w events) (other who) ≡ party w (other who))
unfolding run_by desk_after HappenAt
events_there who w [] here = (refl, refl)
events_there who w (event ∷ events) here =
    let one = event_there who w event here.0 in
    let on = events_there who (desks_happen w event).1 events here.1 in (
      on.0 ∙ ap (λ sent. desk_after (party (desks_happen w event).1 who) sent events) (ap (λ p. p.sent) one.1)
          ∙ ap (λ p. desk_after p (party w (other who)).sent events) one.0,
      on.1 ∙ one.1,
    )

-- Events and then `more` lead to the desks to which `more` lead from those after the events.
pub run_join : (w : DeskParties) (events more : List DeskEvent)
    → desks_run w (events ++ more) ≡ desks_run (desks_run w events) more
unfolding run_by
run_join w [] more = refl
run_join w (event ∷ events) more = run_join (desks_happen w event).1 events more

-- If both lists of events happen at one desk, so does their join.
pub here_both : (who : Role) (events more : List DeskEvent) → HappenAt who events → HappenAt who more
    → HappenAt who (events ++ more)
unfolding HappenAt
here_both who [] more here others = others
here_both who (event ∷ events) more here others = (here.0, here_both who events more here.1 others)

-- ---- facts of two desks that satisfy their invariant

-- Each desk has its role.
role_of_desk : (who : Role) (w : DeskParties) → DesksInvariant w → IsDeskOf who (party w who)
role_of_desk who.Requester w stands = stands.requester
role_of_desk who.Responder w stands = stands.responder

-- No desk holds a transaction twice.
apart_at : (who : Role) (w : DeskParties) → DesksInvariant w → AreApart (live_txns (party w who))
apart_at who.Requester w stands = stands.counts.0.0
apart_at who.Responder w stands = stands.counts.2.0

-- A requester's side that satisfies its invariant has issued at most 255 messages.
requester_few : (txn : Qualifiers) (side : Side) (sent : List (Option Apdu)) → RequesterSideInvariant txn side sent
    → length (issued_of side) < 256
requester_few txn (sides.Requester x) sent stands = omega (arith, stands.few)
requester_few txn (sides.Responder y) sent stands = absurd stands

-- A responder's side that satisfies its invariant has issued at most 255 messages.
responder_few : (txn : Qualifiers) (side : Side) (sent : List (Option Apdu)) → ResponderSideInvariant txn side sent
    → length (issued_of side) < 256
responder_few txn (sides.Responder y) sent stands = omega (arith, stands.few)
responder_few txn (sides.Requester x) sent stands = absurd stands

-- Each side has issued at most 255 messages. The list of what its desk has sent has 255 places for them.
few_at : (who : Role) (w : DeskParties) → DesksInvariant w → (txn : Qualifiers)
    → (length (issued_of (held_for txn (party w who).live).side) < 256) × (length (sent_for txn (party w who).sent) ≡ 255)
few_at who.Requester w stands txn =
    let each = stands.each txn in (requester_few txn _ _ each.requester.live, each.requester.saved.places)
few_at who.Responder w stands txn =
    let each = stands.each txn in (responder_few txn _ _ each.responder.live, each.responder.saved.places)

-- ---- the start of a command

-- The desk of a library starts as the model's desk does after a restart.
pub started : (library : Library) (p : DeskParty) (desk : HeldAndCommitted DeskContents) → IsAt library p
    → StartsFrom library.file desk → IsDesk desk (desk_restarts p)
started library p desk at starts =
    let read : ◌≡◌ {A = Result DeskContents RecordFault} (Ok (whole_of p.committed)) (Ok desk.live) =
    sym (ap (map_ok whole_of) at.file) ∙ starts.0 in
    let same : whole_of p.committed ≡ desk.live = cc in
    record { live = sym same; committed = subst (λ content. IsReadAs content p.committed) (sym starts.1) at.file }

-- If each message of `others` was sent, so was each that message files bring from `others`.
pub brought : (sent : List Sending) (others : List Apdu) → Each (WasSent sent) others → (message_files : List MessageFile)
    → Bring (IsOneOf others) message_files → Bring (WasSent sent) message_files
brought sent others were message_files bring =
    each_so (λ message_file. Each (IsOneOf others) (message_of message_file))
    (λ message_file. Each (WasSent sent) (message_of message_file)) message_files
    (λ message_file each. each_so (IsOneOf others) (WasSent sent) (message_of message_file)
    (λ a one. each_at (WasSent sent) others one.0 a were one.1) each) bring

-- ---- messages that were sent

-- Premises: each event keeps the invariant of two desks (`stand`). A message that was sent stays sent (`stay`).
module _ (stand : EachStands) (stay : (txn : Qualifiers) (w : DeskParties) (event : DeskEvent) → DesksInvariant w
    → KeepsSent (project txn w) (project txn (desks_happen w event).1)) where
  -- A message that was sent stays sent after an event.
  still_sent : (who : Role) (w : DeskParties) (event : DeskEvent) (a : Apdu) → DesksInvariant w
      → WasSent (party w who).sent a → WasSent (party (desks_happen w event).1 who).sent a
  still_sent who.Requester w event a stands was =
      (was.0, was.1, stay was.0 w event stands who.Requester was.1 a was.2)
  still_sent who.Responder w event a stands was =
      (was.0, was.1, stay was.0 w event stands who.Responder was.1 a was.2)

  -- A message that was sent stays sent after events.
  sent_on : (who : Role) (w : DeskParties) (events : List DeskEvent) (a : Apdu) → DesksInvariant w
      → WasSent (party w who).sent a → WasSent (party (desks_run w events) who).sent a
  unfolding run_by
  sent_on who w [] a stands was = was
  sent_on who w (event ∷ events) a stands was =
      sent_on who (desks_happen w event).1 events a (stand w event stands) (still_sent who w event a stands was)

  -- ---- messages that leave

  -- A message that is issued and released is sent by a Send.
  sends_it : (p : DeskParty) (sending : Apdu → DeskParty) (issued : Option Apdu) (is_released : Bool) (a : Apdu)
      → issued ≡ Some a → is_released ≡ true → (sends_by p sending issued is_released).1 ≡ sending a
  sends_it p sending (Some b) true a there free = (let same : b ≡ a = cc in ap sending same)
  sends_it p sending (Some b) false a there free = absurd (true≢false (sym free))
  sends_it p sending None is_released a there free = absurd (true≢false (sym (ap is_some there)))

  -- Desk `p` after it has sent `a` as message n of `txn`.
  abbrev sent_by : DeskParty → Qualifiers → ℕ → Apdu → DeskParty
  sent_by p txn n a = record p { sent = with_sent_for txn p.sent n a }

  -- If message n of `txn` may be sent, a Send of it is an event, which leads to the desk that has sent it.
  send_leads : (who : Role) (sent : List Sending) (p : DeskParty) (a : Apdu) → (may : IsReleased p.live a)
      → (desk_happens_to p sent (Send who may.0 may.1)).1 ≡ sent_by p may.0 may.1 a
  send_leads who sent p a (txn, n, held, found, there, free) =
      ap (λ entry. (desk_sends p txn n entry).1) found
      ∙ sends_it p (λ b. sent_by p txn n b) (message (issued_of held.side) n) (nat_le n held.released) a there free

  -- If the desk has a place for message n, `a` is among its sent messages after this Send.
  was_sent : (p : DeskParty) (txn : Qualifiers) (n : ℕ) (a : Apdu) (issued : List Apdu) → message issued n ≡ Some a
      → length issued < 256 → length (sent_for txn p.sent) ≡ 255
      → WasSent (sent_by p txn n a).sent a
  was_sent p txn zero a issued there few places = absurd (true≢false (sym (ap is_some there)))
  was_sent p txn (suc i) a issued there few places = (
    txn,
    suc i,
    ap (λ sent. sent_message sent (suc i))
        (sent_after txn txn p.sent (suc i) a
        ∙ ap (λ same. cond same (with_sent (sent_for txn p.sent) (suc i) a) (sent_for txn p.sent)) (same_self txn))
        ∙ put_here (sent_for txn p.sent) i a (omega (arith, slice_get_within issued i a there, few, places)),
  )

  -- The side that is found for a transaction is the one that the desk holds for it.
  found_side : (live : DeskContents) (txn : Qualifiers) (held : DeskEntry) → found_by txn_held txn live.held ≡ Some held
      → held_for txn live ≡ held
  found_side live txn held found = ap (found_or (idle_held live.role txn)) found

  -- The events `events` at the desk of `who` send the messages `left`. They change neither the live nor the committed
  -- sides of this desk.
  record HasSent (who : Role) (w : DeskParties) (left : List Apdu) : Type 0 where
    events : List DeskEvent
    here : HappenAt who events
    live : (party (desks_run w events) who).live ≡ (party w who).live
    committed : (party (desks_run w events) who).committed ≡ (party w who).committed
    sent : Each (WasSent (party (desks_run w events) who).sent) left

  -- Messages that may be sent are sent by events.
  sends_all : (who : Role) (w : DeskParties) (left : List Apdu) → DesksInvariant w → Each (IsReleased (party w who).live) left
      → HasSent who w left
  unfolding Each run_by HappenAt
  sends_all who w [] stands may = record { events = []; here = tt; live = refl; committed = refl; sent = tt }
  sends_all who w (a ∷ left) stands may =
      let first : IsReleased (party w who).live a = may.0 in
      let txn = first.0 in
      let n = first.1 in
      let held = first.2 in
      let event : DeskEvent = Send who txn n in
      let next : DeskParties = (desks_happen w event).1 in
      let one : party next who ≡ sent_by (party w who) txn n a =
      (event_there who w event refl).0 ∙ send_leads who (party w (other who)).sent (party w who) a first in
      let few = few_at who w stands txn in
      let issued : length (issued_of held.side) < 256 =
      subst (λ h. length (issued_of h.side) < 256) (found_side (party w who).live txn held first.3) few.0 in
      let was : WasSent (party next who).sent a =
      subst (λ p. WasSent p.sent a) (sym one)
      (was_sent (party w who) txn n a (issued_of held.side) first.4 issued few.1) in
      let more = sends_all who next left (stand w event stands)
      (subst (λ p. Each (IsReleased p.live) left) (sym one) may.1) in
      record {
        events = event ∷ more.events;
        here = (refl, more.here);
        live = more.live ∙ ap (λ p. p.live) one;
        committed = more.committed ∙ ap (λ p. p.committed) one;
        sent = (sent_on who next more.events a (stand w event stands) was, more.sent);
      }

  -- ---- one command

  -- A command that began at the model's desk `p` has led it to the desk `end`. The store, with this content, has the
  -- committed sides of `end`. If `end` holds no transaction twice, the messages `leaving` may be sent there.
  record HasRun (who : Role) (sent : List Sending) (p : DeskParty) (leaving : List Apdu) (content : Option (Option (List ℕ)))
      : Type 0 where
    end : DeskParty
    leads : Leads who sent p end
    committed : IsReadAs content end.committed
    may_leave : ((apart : AreApart (live_txns end)) → Each (IsReleased end.live) leaving)

  -- No message leaves a desk, so each that leaves may be sent.
  none_leave : (live : DeskContents) (leaving : List Apdu) → leaving ≡ [] → Each (IsReleased live) leaving
  unfolding Each
  none_leave live leaving none = subst (Each (IsReleased live)) (sym none) tt

  -- What leaves a desk by `outbox` or `send` may be sent, if no transaction is twice.
  may_be_sent : (p : DeskParty) (leaving : List Apdu) → AreApart (live_txns p)
      → IsOutbox p.live leaving ⊎ Each (IsReleased p.live) leaving → Each (IsReleased p.live) leaving
  may_be_sent p leaving apart (inl is) = outbox_released p.live leaving apart is
  may_be_sent p leaving apart (inr may) = may

  -- What leaves a desk in a night may be sent, if no transaction is twice.
  leave_if_any : (p : DeskParty) (leaving : List Apdu) → LeaveIfAny p leaving → AreApart (live_txns p)
      → Each (IsReleased p.live) leaving
  leave_if_any p leaving (inl none) apart = none_leave p.live leaving none
  leave_if_any p leaving (inr is) apart = outbox_released p.live leaving apart is

  -- A command begins at the library `before`, which is the desk `p` of `who`. The other desk has sent each of `others`.
  module _ (who : Role) (sent : List Sending) (p : DeskParty) (of : IsDeskOf who p) (others : List Apdu)
      (were : Each (WasSent sent) others) (before after : Library) (at : IsAt before p) where
    -- A desk is restarted by an event, which is a run.
    restart_leads : Leads who sent p (desk_restarts p)
    restart_leads = one_leads who sent p (Restart who) refl

    -- A desk that restarts keeps its role.
    restarted_of : IsDeskOf who (desk_restarts p)
    restarted_of = leads_keep_role restart_leads who of

    -- The command `act` is a run.
    act_ran : (is : IsCommand Acts before after) → HasRun who sent p is.leaving is.new.desk.committed
    act_ran is =
        let acts = is.runs in
        let run = act_is_run who sent (desk_restarts p) restarted_of acts.0 acts.1 is.old is.new acts.2
        (started before p is.old.desk at is.starts) acts.3 in
        record {
          end = run.0;
          leads = then_leads restart_leads run.1;
          committed = run.2;
          may_leave = λ apart. none_leave run.0.live is.leaving acts.4;
        }

    -- The command `take` is a run.
    take_ran : (is : IsCommand (Takes others) before after) → HasRun who sent p is.leaving is.new.desk.committed
    take_ran is =
        let takes = is.runs in
        let run = take_is_run who sent takes.0 takes.1 (desk_restarts p) is.old is.new takes.2
        (started before p is.old.desk at is.starts) takes.3
        (each_so (IsOneOf others) (WasSent sent) (messages_taken {printed = takes.1} takes.3)
        (λ a one. each_at (WasSent sent) others one.0 a were one.1)
        takes.4) in
        record {
          end = run.0;
          leads = then_leads restart_leads run.1;
          committed = run.2;
          may_leave = λ apart. none_leave run.0.live is.leaving takes.5;
        }

    -- The command `inbox` is a run.
    inbox_ran : (is : IsCommand (TakesMessageFile others) before after) → HasRun who sent p is.leaving is.new.desk.committed
    inbox_ran is =
        let takes = is.runs in
        let run = taking_is_run who sent (desk_restarts p) restarted_of takes.0 is.old is.new takes.1
        (started before p is.old.desk at is.starts) takes.2 (brought sent others were _ takes.3) in
        record {
          end = run.0;
          leads = then_leads restart_leads run.1;
          committed = store_of_end takes.1 is.new.desk run.0 run.2;
          may_leave = λ apart. none_leave run.0.live is.leaving takes.4;
        }

    -- The commands `outbox` and `send` are a run.
    send_ran : (is : IsCommand Sends before after) → HasRun who sent p is.leaving is.new.desk.committed
    send_ran is =
        let desk = started before p is.old.desk at is.starts in
        record {
          end = desk_restarts p;
          leads = restart_leads;
          committed = subst (λ d. IsReadAs d.committed p.committed) (sym is.runs.0) desk.committed;
          may_leave = λ apart. may_be_sent (desk_restarts p) is.leaving apart
              (subst (λ live. IsOutbox live is.leaving ⊎ Each (IsReleased live) is.leaving) desk.live is.runs.1);
        }

    -- The command `exchange` is a run.
    exchange_ran : (is : IsCommand (Exchanges others) before after) → HasRun who sent p is.leaving is.new.desk.committed
    exchange_ran is =
        let night = is.runs in
        let run = night_is_run who sent night.0 (desk_restarts p) restarted_of is.old is.new night.1 is.leaving
        (started before p is.old.desk at is.starts) night.2 (brought sent others were _ night.3) night.4 in
        record {
          end = run.0;
          leads = then_leads restart_leads run.1;
          committed = run.2;
          may_leave = λ apart. leave_if_any run.0 is.leaving run.3 apart;
        }

  -- If a command has run from `before`, events lead to `after`: its own, then a Send for each message.
  ran_leads : (who : Role) (w : DeskParties) → DesksInvariant w → (before after : Library) → IsAt before (party w who)
      → (leaving : List Apdu) (content : Option (Option (List ℕ)))
      → content ≡ Some (Some after.file) → after.left ≡ before.left ++ leaving
      → HasRun who (party w (other who)).sent (party w who) leaving content → LeadsTo who w after
  ran_leads who w stands before after at leaving content committed left ran =
      let next : DeskParties = desks_run w ran.leads.events in
      let stands_next : DesksInvariant next = desks_stand_on stand w ran.leads.events stands in
      let is : party next who ≡ ran.end = (events_there who w ran.leads.events ran.leads.here).0 ∙ ran.leads.after in
      let may : Each (IsReleased (party next who).live) leaving =
      subst (λ p. Each (IsReleased p.live) leaving) (sym is)
      (ran.may_leave (subst (λ p. AreApart (live_txns p)) is (apart_at who next stands_next))) in
      let sent = sends_all who next leaving stands_next may in
      let joined = run_join w ran.leads.events sent.events in
      let on : (a : Apdu) → WasSent (party w who).sent a → WasSent (party (desks_run next sent.events) who).sent a =
      λ a was. sent_on who next sent.events a stands_next (sent_on who w ran.leads.events a stands was) in
      record {
        events = ran.leads.events ++ sent.events;
        here = here_both who ran.leads.events sent.events ran.leads.here sent.here;
        at = subst (λ v. IsAt after (party v who)) (sym joined) (record {
          file = subst (λ c. IsReadAs c (party (desks_run next sent.events) who).committed) committed
              (subst (IsReadAs content) (sym (sent.committed ∙ ap (λ p. p.committed) is)) ran.committed);
          left = subst (Each (WasSent (party (desks_run next sent.events) who).sent)) (sym left)
              (each_append (WasSent (party (desks_run next sent.events) who).sent) before.left leaving
              (each_so (WasSent (party w who).sent) (WasSent (party (desks_run next sent.events) who).sent) before.left on
              at.left)
              sent.sent);
        });
      }

  -- If a command leaves the library as it was, an empty list of events leads there.
  stays_there : (who : Role) (w : DeskParties) (before after : Library) → IsAt before (party w who) → after ≡ before
      → LeadsTo who w after
  unfolding run_by HappenAt
  stays_there who w before after at same =
      record { events = []; here = tt; at = subst (λ library. IsAt library (party w who)) (sym same) at }

  -- A command of a library is events at its desk.
  pub command_leads : (who : Role) (w : DeskParties) → DesksInvariant w → (others : List Apdu) (before after : Library)
      → Each (WasSent (party w (other who)).sent) others → IsAt before (party w who) → Commands others before after
      → LeadsTo who w after
  command_leads who w stands others before after were at commands =
      let sent = (party w (other who)).sent in
      let p = party w who in
      let of = role_of_desk who w stands in elim commands [
        | inl acts ↦ ran_leads who w stands before after at acts.leaving acts.new.desk.committed acts.committed acts.left
            (act_ran who sent p of others were before after at acts)
        | inr further ↦ elim further [
          | inl takes ↦ ran_leads who w stands before after at takes.leaving takes.new.desk.committed takes.committed takes.left
              (take_ran who sent p of others were before after at takes)
          | inr beyond ↦ elim beyond [
            | inl message_files ↦ ran_leads who w stands before after at message_files.leaving message_files.new.desk.committed
                message_files.committed message_files.left
                (inbox_ran who sent p of others were before after at message_files)
            | inr last ↦ elim last [
              | inl sends ↦ ran_leads who w stands before after at sends.leaving sends.new.desk.committed sends.committed
                  sends.left (send_ran who sent p of others were before after at sends)
              | inr rest ↦ elim rest [
                | inl night ↦ ran_leads who w stands before after at night.leaving night.new.desk.committed night.committed
                    night.left (exchange_ran who sent p of others were before after at night)
                | inr same ↦ stays_there who w before after at same
              ]
            ]
          ]
        ]
      ]
