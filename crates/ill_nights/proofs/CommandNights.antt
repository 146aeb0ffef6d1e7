-- Proves that a good night of commands brings both sides of a transaction to convergence or to rest, in the files.
use Rattle.std.proofs.Common.{◌≡◌, inl, inr, Bool, true, false, not, ◌&&◌, if◌then◌else◌, List, [], ◌∷◌, Option, Some, Result}
use Rattle.std.proofs.Common.{Ok, Err, length, map, refl, sym, ap, ◌∙◌, subst}
use Rattle.std.specs.List.{list_all, zip}
use Rattle.ill_values.specs.Day.{Date}
use Rattle.ill_values.specs.TxnId.{Qualifiers}
use Rattle.ill_values.specs.declared.apdu.Apdu.{Apdu}
use Rattle.ill_core.specs.declared.responder.Deed.{Deed}
use Rattle.ill_core.specs.Issued.{is_none}
use Rattle.ill_core.specs.Requester.{RequesterRecord}
use Rattle.ill_core.specs.RequesterDeliveries as requester_deliveries
use Rattle.ill_record.specs.declared.role.Role.{Role}
use Rattle.ill_record.specs.declared.role.Role.TheVariants as who
use Rattle.ill_record.specs.declared.side.Side.{Side}
use Rattle.ill_record.specs.declared.side.Side.TheVariants as sides
use Rattle.ill_record.specs.Side.{issued_of, other}
use Rattle.ill_record.specs.Sides.{SidesOf}
use Rattle.ill_record.specs.Ranges.{Each}
use Rattle.ill_record.specs.RecordsV2.{records_at}
use Rattle.ill_saved.specs.ManySides.{DeskContents, held_for, side_for}
use Rattle.ill_text.specs.declared.fault.ToolFault.{ToolFault}
use Rattle.ill_text.specs.Input.{AreIn}
use Rattle.ill_words.specs.Sending.{is_over, wants_sending}
use Rattle.ill_words.proofs.SendingLemmas.{open_wants}
use Rattle.ill_desk.specs.Performing.{CommandState, HeldAndCommitted}
use Rattle.ill_text.specs.declared.form.Form.{Form}
use Rattle.ill_night.specs.declared.verdict.MessageFile.{MessageFile}
use Rattle.ill_night.specs.declared.verdict.Verdict.{Verdict}
use Rattle.ill_night.specs.Outbox.{Issue, asked_by, is_asked, leaving_desk}
use Rattle.ill_exchange.specs.Nights.{AskedNight, Night, ExchangesAt, PerformsDueDeeds, SettlesRun, TakesMessageFiles, night_asks}
use Rattle.ill_world.specs.declared.event.Event.{Event}
use Rattle.ill_world.specs.declared.event.Event.TheVariants as events
use Rattle.ill_world.specs.declared.event.DeskEvent.{DeskEvent}
use Rattle.ill_world.specs.declared.event.DeskEvent.TheVariants.{Restart}
use Rattle.ill_world.specs.World.{Party, Parties, party, happens, run_of}
use Rattle.ill_world.specs.Desks.{DeskParty, DeskParties, desks_happen, desks_run, project}
use Rattle.ill_world.specs.DeskSafety.{DesksInvariant}
use Rattle.ill_world.specs.Invariant.{Invariant, RequesterSideInvariant}
use Rattle.ill_world.specs.Night.{asks, AreConvergedOrAtRest}
use Rattle.ill_world.specs.Round.{CanAnswer}
use Rattle.ill_world.proofs.Desks.{EachProjects, EachStands, desks_stand_on}
use Rattle.ill_world.proofs.DeskArrivals.{EachReaches}
use Rattle.ill_world.proofs.DeskRounds.{shown}
use Rattle.ill_world.proofs.Hearing.{taking}
use Rattle.ill_world.proofs.OneRound.{requester_taking}
use Rattle.ill_world.proofs.Rounds.{takes_all}
use Rattle.ill_progress.specs.NightWithPeople.{is_by_responder, asked_and_worked, worked_night_of}
use Rattle.ill_runs.specs.Events.{IsReadAs}
use Rattle.ill_runs.specs.Libraries.{AreAt, Commands, IsAt, IsHistory, LeadsTo, Libraries, Library, libraries_after}
use Rattle.ill_runs.specs.MessageFile.{Bring, IsOneOf, WasSent, message_files_of, message_files_taken}
use Rattle.ill_runs.proofs.BadLibraries.{read_once}
use Rattle.ill_runs.proofs.LibraryLemmas.{brought, events_there}
use Rattle.ill_nights.specs.Messages.{ConvergedOrAtRest, after_deeds_of, messages_for, sent_by}
use Rattle.ill_nights.specs.Nights.{AreBytes, AreDone, AreConvergedIn, CanAnswerIn, IsGoodNight, IsNight}
use Rattle.ill_nights.specs.Nights.{IsWhole, LeftOf, TakesAll, TookOf, by_inbox, by_night, messages_came, messages_of}
use Rattle.ill_nights.specs.Nights.{messages_of_all}
use Rattle.ill_nights.specs.Nights.{verdicts_of}
use Rattle.ill_nights.proofs.Askings.{PrefixOrFault, ReadsAgain, asks_right}
use Rattle.ill_nights.proofs.Leavings.{outbox_leaves}
use Rattle.ill_nights.proofs.SideNights.{sides_converged, takes_messages}
use Rattle.ill_nights.proofs.Stages.{Reached, ReachedByDeeds, deeds_reach, message_files_reach, starts_from}
use Rattle.ill_nights.proofs.Takings.{EachChanges}

-- ---- a requester's side

-- A requester refuses each deed, so its side stays as it was.
requester_undone : (x : RequesterRecord) (deeds : List (Deed × Date))
    → after_deeds_of (sides.Requester x) deeds ≡ sides.Requester x
unfolding after_deeds_of
requester_undone x [] = refl
requester_undone x (deed ∷ deeds) = requester_undone x deeds

-- A requester's side takes messages, and no deed changes it then.
taken_undone : (txn : Qualifiers) (side : Side) (sent : List (Option Apdu)) (apdus : List Apdu) (deeds : List (Deed × Date))
    → RequesterSideInvariant txn side sent → after_deeds_of (takes_all side apdus) deeds ≡ takes_all side apdus
taken_undone txn (sides.Requester x) sent apdus deeds stands =
    let is = requester_taking x apdus in
    ap (λ side. after_deeds_of side deeds) is
    ∙ requester_undone (taking (λ r a. (requester_deliveries.takes r a).1) x apdus) deeds ∙ sym is
taken_undone txn (sides.Responder y) sent apdus deeds stands = absurd stands

-- A requester's side sends alike, whether it was asked or not.
sends_alike : (txn : Qualifiers) (side : Side) (sent : List (Option Apdu)) (was_asked : Bool)
    → RequesterSideInvariant txn side sent → sent_by was_asked side ≡ sent_by false side
sends_alike txn (sides.Requester x) sent was_asked stands = refl
sends_alike txn (sides.Responder y) sent was_asked stands = absurd stands

-- ---- who was asked

-- A side sends `issued` if it `wants` to. It sends none just if it does not want to, or if `issued` is empty.
none_sent : (wants : Bool) (issued : List Apdu) → is_none (if wants then issued else []) ≡ not (wants && not (is_none issued))
none_sent true [] = refl
none_sent true (a ∷ apdus) = refl
none_sent false issued = refl

-- Two truth values are equal if their negations are equal.
same_under_not : (a b : Bool) → not a ≡ not b → a ≡ b
same_under_not true true is = refl
same_under_not false false is = refl
same_under_not true false is = absurd cc
same_under_not false true is = absurd cc

-- If the loan is over for `y`, `was_asked` says if `x` sends a message (premise). Then `y` sends as if it was asked
-- just when `x` asks.
asked_alike : (x y : Side) (was_asked : Bool) → (is_over y ≡ true → not was_asked ≡ is_none (sent_by false x))
    → sent_by was_asked y ≡ sent_by (asks x) y
asked_alike x y was_asked right = go (is_over y) refl
  where
    -- An open loan sends all in either case. If the loan is over, the premise says that `was_asked` is `asks x`.
    go : (over : Bool) → is_over y ≡ over → sent_by was_asked y ≡ sent_by (asks x) y
    go false is_open = ap (λ wants. if wants then issued_of y else [])
        (open_wants was_asked y is_open ∙ sym (open_wants (asks x) y is_open))
    go true over = ap (λ asked. sent_by asked y)
        (same_under_not was_asked (asks x) (right over ∙ none_sent (wants_sending false x) (issued_of x)))

-- ---- one command of a night

-- The message files of a night are those that were taken.
night_message_files : (form : Form) (old met : CommandState DeskContents) (night : Night)
    (taken : TakesMessageFiles form old (Ok night) met)
    → night.message_files ≡ message_files_taken taken
night_message_files form old met night (inl failed) = absurd failed.0.0
night_message_files form old met night (inr took) = go took.2 took.4
  where
    -- Only an inbox that succeeded settles to a night.
    go : (answer : Result (List Verdict) ToolFault) → SettlesRun took.0 took.1 answer (Ok night) → night.message_files ≡ took.0
    go (Ok verdicts) settles = elim settles [
      | inl is ↦ (let same : night ≡ record { verdicts = verdicts; message_files = took.0; waiting = took.1 } = cc in
          ap (λ (n : Night). n.message_files) same)
      | inr failed ↦ absurd failed
    ]
    go (Err fault) settles = absurd cc

-- A responder's desk has its role.
responders_role : (role : Role) (w : DeskParties) → DesksInvariant w → role ≡ who.Responder
    → (party w role).live.role ≡ who.Responder
responders_role who.Responder w stands is = stands.responder.0
responders_role who.Requester w stands is = absurd cc

module _ (projects : EachProjects) (reaches : EachReaches) (stand : EachStands) (changes : EachChanges)
    (prefix : PrefixOrFault) (again : ReadsAgain) (txn : Qualifiers) where
  -- A command at `p` took the messages `came`. The file of the library `after` can then be read. Its side of `txn` is
  -- the committed side of `p`, after the messages of `txn` among `came` and after `deeds`.
  pub record Took (p : DeskParty) (after : Library) (came : List Apdu) : Type 0 where
    held : SidesOf
    file : records_at after.file ≡ Ok held
    deeds : List (Deed × Date)
    side : side_for txn held ≡ after_deeds_of (takes_all (side_for txn p.committed) (messages_for txn came)) deeds

  -- If a command reached `desk`, whose committed record is its file, the file can be read. Its side of `txn` has taken
  -- `came`, and then done the deeds.
  reached_took : (role : Role) (w : DeskParties) (after : Library) (came : List Apdu) (side : Side)
      (desk : HeldAndCommitted DeskContents)
      → (reached : ReachedByDeeds projects reaches stand changes txn role w desk side)
      → side ≡ takes_all (side_for txn (party w role).committed) (messages_for txn came)
      → desk.committed ≡ Some (Some after.file) → Took (party w role) after came
  reached_took role w after came side desk by_deeds is content =
      let reached = by_deeds.reached in
      let held : SidesOf = (party reached.now role).committed in
      record {
        held = held;
        file = subst (λ c. IsReadAs c held) content reached.at.committed;
        deeds = by_deeds.deeds;
        side = ap (λ (p : Party). p.committed) (sym (shown txn reached.now role)) ∙ reached.committed
            ∙ ap (λ s. after_deeds_of s by_deeds.deeds) is;
      }

  -- A night took `message_files`. The messages of `txn` among `left` are all that its side sends. A message of `txn`
  -- asks just if `message_files` have one (`right`). Premises: the loan is over for a responder, and each message file
  -- of `txn` was done with.
  pub record Sent (role : Role) (p : DeskParty) (after : Library) (message_files : List MessageFile) (verdicts : List Verdict)
      (left asking : List Apdu) : Type 0 where
    took : Took p after (messages_of message_files)
    left_all : messages_for txn left ≡ sent_by (is_asked asking txn) (side_for txn took.held)
    right : role ≡ who.Responder → AreBytes message_files → AreDone txn message_files verdicts
        → is_over (side_for txn took.held) ≡ true
        → not (is_asked asking txn) ≡ is_none (messages_for txn (messages_of message_files))

  module _ (role : Role) (w : DeskParties) (stands : DesksInvariant w) (others : List Apdu)
      (were : Each (WasSent (party w (other role)).sent) others) (before after : Library) (at : IsAt before (party w role)) where
    -- The committed side of `txn` at the desk of `role`.
    abbrev committed : Side
    committed = side_for txn (party w role).committed

    -- If an inbox succeeds (`night`), its file has the committed side of `txn` after the messages of its message files.
    inbox_took : (form : Form) (old new : CommandState DeskContents) (result : Result Night ToolFault) (night : Night)
        → result ≡ Ok night
        → Reached projects reaches stand changes txn role w old.desk committed → (taken : TakesMessageFiles form old result new)
        → Bring (IsOneOf others) (message_files_taken taken) → new.desk.committed ≡ Some (Some after.file)
        → Took (party w role) after (messages_of (message_files_taken taken))
    unfolding after_deeds_of
    inbox_took form old new (Ok some) night is start taken bring content =
        let came : List Apdu = messages_of (message_files_taken taken) in
        let side : Side = takes_all committed (messages_for txn came) in
        reached_took role w after came side new.desk (record {
          deeds = [];
          reached = message_files_reach projects reaches stand changes txn role w form old new some committed start taken
              (brought (party w (other role)).sent others were (message_files_taken taken) bring);
        }) refl content
    inbox_took form old new (Err fault) night is start taken bring content = absurd cc

    -- A night reached `desk`, with the side of its file. If `left` is all that leaves `desk`, `Sent` holds of it.
    outbox_sent : (message_files : List MessageFile) (night : Night) (asking left : List Apdu)
        → night.message_files ≡ message_files
        → (took : Took (party w role) after (messages_of message_files)) (desk : HeldAndCommitted DeskContents) (side : Side)
        (reached : Reached projects reaches stand changes txn role w desk side) → side ≡ side_for txn took.held
        → AreIn (night_asks desk.live night) asking
        → left ≡ map (λ (issue : Issue). issue.apdu) (leaving_desk asking desk.live.held)
        → Sent role (party w role) after message_files night.verdicts left asking
    outbox_sent message_files night asking left are took desk side reached is asks leave =
        let now : DeskParties = reached.now in
        let p : DeskParty = party now role in
        let held_is : (held_for txn p.live).side ≡ side =
        ap (λ (q : Party). q.live) (sym (shown txn now role)) ∙ reached.live in
        let all : (held_for txn p.live).released ≡ length (issued_of (held_for txn p.live).side) =
        ap (λ (q : Party). q.released) (sym (shown txn now role)) ∙ reached.released
        ∙ ap (λ s. length (issued_of s)) (sym held_is) in
        let came : AreIn (asked_by p.live (zip message_files night.verdicts)) asking =
        subst (λ l. AreIn (asked_by l (zip message_files night.verdicts)) asking) reached.at.live
        (subst (λ m. AreIn (asked_by desk.live (zip m night.verdicts)) asking) are asks) in
        record {
          took = took;
          left_all = ap (messages_for txn) leave
              ∙ ap (λ live. messages_for txn (map (λ (issue : Issue). issue.apdu) (leaving_desk asking live.held)))
              reached.at.live
              ∙ outbox_leaves now role reached.stands txn asking all
              ∙ ap (λ s. sent_by (is_asked asking txn) s) (held_is ∙ is);
          right = λ responder bytes done over.
              asks_right prefix again p.live (responders_role role now reached.stands responder) txn message_files night.verdicts
              asking
              bytes done came (ap is_over (held_is ∙ is) ∙ over);
        }

    -- The message files led to `met`, and the due deeds then to `rested`. If `left` is all that leaves there, `Sent`
    -- holds of it.
    rest_sent : (message_files : List MessageFile) (asking left : List Apdu) (asked : AskedNight) (night : Night)
        → night.message_files ≡ message_files → (met rested : CommandState DeskContents) (done : Unit {0})
        → Reached projects reaches stand changes txn role w met.desk
        (takes_all committed (messages_for txn (messages_of message_files)))
        → PerformsDueDeeds asked.form asked.dates met (Ok done) rested → AreIn (night_asks rested.desk.live night) asking
        → left ≡ map (λ (issue : Issue). issue.apdu) (leaving_desk asking rested.desk.live.held)
        → rested.desk.committed ≡ Some (Some after.file) → Sent role (party w role) after message_files night.verdicts left asking
    unfolding reached_took
    rest_sent message_files asking left asked night are met rested done start deeds asks leave content =
        let side : Side = takes_all committed (messages_for txn (messages_of message_files)) in
        let by_deeds = deeds_reach projects reaches stand changes txn role w asked.form asked.dates met rested done side start
        deeds in
        let took = reached_took role w after (messages_of message_files) side rested.desk by_deeds refl content in
        outbox_sent message_files night asking left are took rested.desk (after_deeds_of side by_deeds.deeds) by_deeds.reached
        (sym took.side) asks leave

    -- If a night is whole, and its file is what is committed, `Sent` holds of its message files, verdicts and messages.
    -- Each case but the last is of a night that is not whole.
    exchange_sent : (asking left : List Apdu) (asked : AskedNight) (old new : CommandState DeskContents)
        (result : Result Bool ToolFault) → Reached projects reaches stand changes txn role w old.desk committed
        → (exchange : ExchangesAt asked old result new) → Bring (IsOneOf others) (message_files_of asked exchange)
        → IsWhole asked exchange asking left → new.desk.committed ≡ Some (Some after.file)
        → Sent role (party w role) after (message_files_of asked exchange) (verdicts_of asked exchange) left asking
    exchange_sent asking left asked old new result start (met, Err fault, taken, ends) bring whole content = absurd whole
    exchange_sent asking left asked old new result start (met, Ok night, taken, (rested, Err fault, deeds, sends, same)) bring
        whole content = absurd whole
    exchange_sent asking left asked old new result start (met, Ok night, taken, (rested, Ok done, deeds, inl failed, same))
        bring whole content = absurd whole
    exchange_sent asking left asked old new result start
        (met, Ok night, taken, (rested, Ok done, deeds, inr (sent, inl failed, ends), same)) bring whole content = absurd whole
    exchange_sent asking left asked old new result start
        (met, Ok night, taken, (rested, Ok done, deeds, inr (sent, inr (said, are, printed), ends), same)) bring whole content =
        rest_sent (message_files_taken taken) asking left asked night (night_message_files asked.form old met night taken) met
        rested done
        (message_files_reach projects reaches stand changes txn role w asked.form old met night committed start taken
        (brought (party w (other role)).sent others were (message_files_taken taken) bring))
        deeds (subst (AreIn (night_asks rested.desk.live night)) whole.0 are) whole.1
        (ap (λ (d : HeldAndCommitted DeskContents). d.committed) (sym same) ∙ content)

    -- A whole night from `before` to `after` takes what came, and sends all of the side of `txn`, or none.
    pub night_sent : (night : IsNight others before after)
        → Sent role (party w role) after (message_files_of night.command.runs.0 night.command.runs.2)
        (verdicts_of night.command.runs.0 night.command.runs.2) night.command.leaving night.asking
    night_sent night =
        let command = night.command in
        exchange_sent night.asking command.leaving command.runs.0 command.old command.new command.runs.1
        (starts_from projects reaches stand changes txn role w stands before command.old.desk at command.starts)
        command.runs.2 command.runs.3 night.whole command.committed

    -- A library that takes all its message files, by `inbox` or in a whole night, takes what came.
    pub all_took : (takes : TakesAll others before after) → Took (party w role) after (messages_of_all takes)
    all_took (by_night night) = (night_sent night).took
    all_took (by_inbox inbox) =
        let command = inbox.command in
        inbox_took command.runs.0 command.old command.new command.runs.1 inbox.night inbox.taken
        (starts_from projects reaches stand changes txn role w stands before command.old.desk at command.starts)
        command.runs.2 command.runs.3 command.committed

  -- ---- what a night does to a loan

  -- The messages of `txn` that left in a night are all that its side has issued, or none.
  pub left_of : (role : Role) (w : DeskParties) → DesksInvariant w → (others : List Apdu)
      → Each (WasSent (party w (other role)).sent) others → (before after : Library) → IsAt before (party w role)
      → (night : IsNight others before after) → LeftOf txn after night.asking night.command.leaving
  left_of role w stands others were before after at night =
      let sent = night_sent role w stands others were before after at night in
      (sent.took.held, sent.took.file, sent.left_all)

  -- The side of `txn` took its messages among those that came, in order, and then did some deeds.
  pub took_of : (role : Role) (w : DeskParties) → DesksInvariant w → (others : List Apdu)
      → Each (WasSent (party w (other role)).sent) others → (before after : Library) → IsAt before (party w role)
      → (takes : TakesAll others before after) → TookOf txn before after (messages_of_all takes)
  took_of role w stands others were before after at takes =
      let took = all_took role w stands others were before after at takes in
      let old : SidesOf = (party w role).committed in (
        old,
        took.held,
        took.deeds,
        at.file,
        took.file,
        took.side ∙ ap (λ s. after_deeds_of s took.deeds)
            (takes_messages (side_for txn old) (messages_for txn (messages_of_all takes))),
      )

  -- ---- a good night

  -- Premises: each event keeps the invariant (`after_event`), and a night with people is enough (`enough`). A command
  -- is events of its desk (`leads`), and a history is events of both (`follows`).
  module _ (after_event : (w : Parties) (event : Event) → Invariant txn w → Invariant txn (happens w event).1)
      (enough : (w : Parties) (people : List Event) → Invariant txn w → list_all is_by_responder people ≡ true
      → CanAnswer (run_of w (asked_and_worked people w)).responder.live
      → AreConvergedOrAtRest (run_of w (worked_night_of people w)))
      (leads : (role : Role) (w : DeskParties) → DesksInvariant w → (others : List Apdu) (before after : Library)
      → Each (WasSent (party w (other role)).sent) others → IsAt before (party w role) → Commands others before after
      → LeadsTo role w after)
      (follows : (w : DeskParties) (now : Libraries) (later : List Libraries) → DesksInvariant w → AreAt now w
      → IsHistory now later → (events : List DeskEvent) × AreAt (libraries_after now later) (desks_run w events)) where
    -- If both desks restart, a night from their committed sides ends converged or at rest. `answers` is the responder's
    -- side after the requester's messages and `deeds`.
    restarted_step : (w : DeskParties) → DesksInvariant w → (deeds : List (Deed × Date))
        → let x = side_for txn w.requester.committed in
        let answers = after_deeds_of (takes_all (side_for txn w.responder.committed) (sent_by false x)) deeds in
        CanAnswer answers → ConvergedOrAtRest (takes_all x (sent_by (asks x) answers)) answers
    restarted_step w stands deeds =
        let one : DeskParties = (desks_happen w (Restart who.Requester)).1 in
        let both : DeskParties = (desks_happen one (Restart who.Responder)).1 in
        let first = (projects txn w (Restart who.Requester) stands).1 in
        let stands_one = stand w (Restart who.Requester) stands in
        let second = (projects txn one (Restart who.Responder) stands_one).1 in
        let shows : project txn both
        ≡ (happens (happens (project txn w) (events.Restart who.Requester)).1 (events.Restart who.Responder)).1 =
        second ∙ ap (λ (v : Parties). (happens v (events.Restart who.Responder)).1) first in
        let stands_both = (stand one (Restart who.Responder) stands_one).each txn in
        subst (λ (v : Parties). Ends v.requester.live v.responder.live) shows
        (sides_converged txn after_event (project txn both) stands_both deeds
        (λ people. enough (project txn both) people stands_both))
      where
        -- States the conclusion for the requester's side `x` and the responder's side `y`.
        Ends : Side → Side → Type 0
        Ends x y =
            let answers = after_deeds_of (takes_all y (sent_by false x)) deeds in
            CanAnswer answers → ConvergedOrAtRest (takes_all x (sent_by (asks x) answers)) answers

    -- After a good night the sides of `txn` in both files are converged or at rest. The world is `one` after the
    -- requester's night, and `two` after the work of people.
    pub good_night : (w : DeskParties) → DesksInvariant w → (before after : Libraries) → AreAt before w
        → (good : IsGoodNight txn before after) → CanAnswerIn txn after.responder → AreConvergedIn txn after
    good_night w stands before after at good can =
        let asked : Library = good.asked in
        let leads_one = leads who.Requester w stands before.responder.left before.requester asked at.responder.left
        at.requester (inr (inr (inr (inr (inl good.asks.command))))) in
        let one : DeskParties = desks_run w leads_one.events in
        let first = night_sent who.Requester w stands before.responder.left at.responder.left before.requester asked
        at.requester good.asks in
        let responder_at : IsAt before.responder one.responder =
        subst (IsAt before.responder) (sym (events_there who.Requester w leads_one.events leads_one.here).1) at.responder in
        let stands_one : DesksInvariant one = desks_stand_on stand w leads_one.events stands in
        let work = follows one (record { requester = asked; responder = before.responder }) good.people.people stands_one
        (record { requester = leads_one.at; responder = responder_at }) good.people.work in
        let two : DeskParties = desks_run one work.0 in
        answered two (desks_stand_on stand one work.0 stands_one)
        (subst (λ (libraries : Libraries). AreAt libraries two) good.people.met_then work.1) first
      where
        -- The responder's night leads from `two` to `three`. The requester then takes the answers.
        answered : (two : DeskParties) → DesksInvariant two → AreAt good.met two
            → Sent who.Requester w.requester good.asked (message_files_of good.asks.command.runs.0 good.asks.command.runs.2)
            (verdicts_of good.asks.command.runs.0 good.asks.command.runs.2) good.asks.command.leaving good.asks.asking
            → AreConvergedIn txn after
        answered two stands_two met_at first =
            let met : Libraries = good.met in
            let leads_three = leads who.Responder two stands_two met.requester.left met.responder after.responder
            met_at.requester.left met_at.responder (inr (inr (inr (inr (inl good.answers.command))))) in
            let three : DeskParties = desks_run two leads_three.events in
            let stands_three : DesksInvariant three = desks_stand_on stand two leads_three.events stands_two in
            let second = night_sent who.Responder two stands_two met.requester.left met_at.requester.left met.responder
            after.responder met_at.responder good.answers in
            let still : three.requester ≡ two.requester =
            (events_there who.Responder two leads_three.events leads_three.here).1 in
            let third = all_took who.Requester three stands_three after.responder.left leads_three.at.left met.requester
            after.requester (subst (IsAt met.requester) (sym still) met_at.requester) good.takes in
            ends two stands_two three still first second third
            (ap (λ (library : Library). records_at library.file) (sym good.people.requester) ∙ met_at.requester.file)
          where
            -- The sides `x` and `y` are converged or at rest.
            Ends : Side → Side → Type 0
            Ends x y = ConvergedOrAtRest x y

            -- By what the three commands took and sent, the files have the sides of `restarted_step`.
            ends : (one : DeskParties) → DesksInvariant one → (two : DeskParties) → two.requester ≡ one.requester
                → Sent who.Requester w.requester good.asked (message_files_of good.asks.command.runs.0 good.asks.command.runs.2)
                (verdicts_of good.asks.command.runs.0 good.asks.command.runs.2) good.asks.command.leaving good.asks.asking
                → Sent who.Responder one.responder after.responder
                (message_files_of good.answers.command.runs.0 good.answers.command.runs.2)
                (verdicts_of good.answers.command.runs.0 good.answers.command.runs.2) good.answers.command.leaving
                good.answers.asking
                → Took two.requester after.requester (messages_of_all good.takes)
                → records_at good.asked.file ≡ Ok one.requester.committed → AreConvergedIn txn after
            ends one stands_one two still first second third file =
                let x : Side = side_for txn one.requester.committed in
                let y : Side = side_for txn one.responder.committed in
                let is_requester : RequesterSideInvariant txn x (project txn one).responder.sent =
                (stands_one.each txn).requester.committed in
                let first_held : side_for txn first.took.held ≡ x =
                ap (side_for txn) (read_once (records_at good.asked.file) first.took.held one.requester.committed first.took.file
                file) in
                let there : messages_for txn (messages_came good.answers) ≡ sent_by false x =
                good.there ∙ first.left_all ∙ ap (sent_by (is_asked good.asks.asking txn)) first_held
                ∙ sends_alike txn x (project txn one).responder.sent (is_asked good.asks.asking txn) is_requester in
                let answers : Side = after_deeds_of (takes_all y (sent_by false x)) second.took.deeds in
                let answers_is : side_for txn second.took.held ≡ answers =
                second.took.side ∙ ap (λ apdus. after_deeds_of (takes_all y apdus) second.took.deeds) there in
                let right : is_over answers ≡ true → not (is_asked good.answers.asking txn) ≡ is_none (sent_by false x) =
                λ over. second.right refl good.done.0 good.done.1 (ap is_over answers_is ∙ over) ∙ ap is_none there in
                let back : messages_for txn (messages_of_all good.takes) ≡ sent_by (asks x) answers =
                good.back ∙ second.left_all ∙ ap (sent_by (is_asked good.answers.asking txn)) answers_is
                ∙ asked_alike x answers (is_asked good.answers.asking txn) right in
                let taken : side_for txn third.held ≡ takes_all x (sent_by (asks x) answers) =
                third.side
                ∙ ap (λ (p : DeskParty). after_deeds_of (takes_all (side_for txn p.committed)
                (messages_for txn (messages_of_all good.takes))) third.deeds) still
                ∙ taken_undone txn x (project txn one).responder.sent (messages_for txn (messages_of_all good.takes)) third.deeds
                is_requester
                ∙ ap (takes_all x) back in
                let step : ConvergedOrAtRest (takes_all x (sent_by (asks x) answers)) answers =
                restarted_step one stands_one second.took.deeds
                (subst CanAnswer answers_is (can second.took.held second.took.file)) in (
                  third.held,
                  second.took.held,
                  third.file,
                  second.took.file,
                  subst (λ s. Ends s (side_for txn second.took.held)) (sym taken) (subst (Ends (takes_all x
                      (sent_by (asks x) answers))) (sym answers_is) step),
                )
