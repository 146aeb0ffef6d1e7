-- In each transaction an event of two desks is an event of two parties, or changes nothing. So two desks are safe in
-- each transaction.
use Rattle.std.proofs.Common.{rules, ◌≡◌, ℕ, Bool, true, false, if◌then◌else◌, List, [], ◌∷◌, Option, Some, None, Result, Ok, Err}
use Rattle.std.proofs.Common.{refl, sym, ap, ◌∙◌, subst}
use Rattle.ill_values.specs.TxnId.{Qualifiers}
use Rattle.ill_values.specs.declared.apdu.Apdu.{Apdu}
use Rattle.ill_core.specs.declared.refusal.Refusal.{Refusal}
use Rattle.ill_core.specs.declared.refusal.Refusal.TheVariants.{WrongRole}
use Rattle.ill_core.specs.Issued.{message}
use Rattle.ill_saved.specs.declared.fault.DeskFault.{DeskFault}
use Rattle.ill_saved.specs.declared.fault.DeskFault.TheVariants as faults
use Rattle.ill_record.specs.declared.role.Role.{Role}
use Rattle.ill_record.specs.declared.role.Role.TheVariants as who
use Rattle.ill_record.specs.declared.side.Side.{Side}
use Rattle.ill_record.specs.declared.side.Side.TheVariants as sides
use Rattle.ill_record.specs.declared.side.Action.{Action}
use Rattle.ill_record.specs.declared.side.Action.TheVariants as actions
use Rattle.ill_record.specs.Side.{issued_of, role_of, other, acts, takes, begins}
use Rattle.ill_record.specs.Sides.{is_same_role}
use Rattle.ill_values.specs.Bodies.{is_ill_request}
use Rattle.ill_saved.specs.Holdings.{DeskEntry}
use Rattle.ill_saved.specs.ManySides.{held_for, side_for_call, acted as acted_at, acts_reached, contents_after_message as took_at}
use Rattle.ill_saved.specs.ManySides.{takes_reached, is_own, found_by, txn_held}
use Rattle.ill_record.proofs.Finding.{same_is}
use Rattle.ill_world.specs.declared.event.Event.{Event}
use Rattle.ill_world.specs.declared.event.DeskEvent.{DeskEvent}
use Rattle.ill_world.specs.declared.event.DeskEvent.TheVariants as events
use Rattle.ill_words.specs.declared.outcome.Outcome.{Outcome}
use Rattle.ill_words.specs.declared.outcome.DeskOutcome.{DeskOutcome}
use Rattle.ill_world.specs.World.{Parties, sent_message, sends_by, happens_to, happens_at, happens, party, with_party, who_of}
use Rattle.ill_world.specs.World.{run_by, run_of, first_world}
use Rattle.ill_world.specs.Desks.{DeskParty, DeskParties, Sending, sent_for, plain, desk_decides, desk_sends, desk_receives}
use Rattle.ill_world.specs.Desks.{desk_happens_to, desks_happen, desks_run, first_desks, party_for, project, concerns, if_reached}
use Rattle.ill_world.specs.Desks.{is_event_of, events_for, IsSeenAs, Projects}
use Rattle.ill_world.specs.Agreement.{KeepsDates}
use Rattle.ill_world.specs.Invariant.{RequesterSideInvariant, ResponderSideInvariant, Invariant}
use Rattle.ill_world.specs.Changes.{MayChange, OnlyCommittedChanges, KeepsSent}
use Rattle.ill_world.specs.DeskChanges.{DeskMayChange}
use Rattle.ill_words.specs.declared.outcome.DeskOutcome.TheVariants.{Plain, NoSuchTransaction, DeskFull}
use Rattle.ill_world.specs.DeskCounts.{DesksCount}
use Rattle.ill_world.specs.DeskSafety.{IsDeskOf, DesksInvariant}
use Rattle.ill_world.proofs.Parties.{RowsGrow}
use Rattle.ill_world.proofs.Changes.{RefusalsChangeNothing, After, same_changes}
use Rattle.ill_world.proofs.Uniqueness.{message_number}
use Rattle.ill_world.proofs.Worlds.{same_dates}
use Rattle.ill_world.proofs.Projections.{PartySeen, KeepsTo, party_seen, first_project}

-- ---- an event of two desks, seen in one transaction

-- If `IsSeenAs` holds of two values, it holds of the part `f` of each.
seen_in : {P Q : Type 0} (f : P → Q) (own : Bool) (expected : Outcome × P) (old new : P) (outcome : DeskOutcome)
    → IsSeenAs own expected old outcome new → IsSeenAs own (expected.0, f expected.1) (f old) outcome (f new)
seen_in f true expected old new outcome seen = (seen.0, ap f seen.1)
seen_in f false expected old new outcome seen = ap f seen

-- The outcome and the projection to `txn` are as expected after an event at the desk of `role`. Or the projection is
-- unchanged.
abbrev SeenAt : Qualifiers → DeskParties → Role → DeskEvent → Type 0
SeenAt txn w role event =
    let after = happens_at w role (λ p partner. desk_happens_to p partner.sent event) in
    IsSeenAs (if_reached after.0 (concerns txn event))
    (happens_at (project txn w) role (λ p partner. happens_to p partner.sent (plain event))) (project txn w) after.0
    (project txn after.1)

-- If `PartySeen` holds at the desk of `role`, `SeenAt` holds of both desks. The other desk is unchanged.
seen_at : (txn : Qualifiers) (w : DeskParties) (role : Role) (event : DeskEvent)
    → PartySeen txn (party w role) (party w (other role)).sent event → SeenAt txn w role event
seen_at txn w who.Requester event seen =
    let after = desk_happens_to w.requester w.responder.sent event in
    seen_in (with_party (project txn w) who.Requester) (if_reached after.0 (concerns txn event))
    (happens_to (party_for txn w.requester) (sent_for txn w.responder.sent) (plain event)) (party_for txn w.requester)
    (party_for txn after.1) after.0 seen
seen_at txn w who.Responder event seen =
    let after = desk_happens_to w.responder w.requester.sent event in
    seen_in (with_party (project txn w) who.Responder) (if_reached after.0 (concerns txn event))
    (happens_to (party_for txn w.responder) (sent_for txn w.requester.sent) (plain event)) (party_for txn w.responder)
    (party_for txn after.1) after.0 seen

-- ---- the roles of two desks

-- If `RequesterSideInvariant` holds of a side, its role is the requester's.
requesters : (txn : Qualifiers) (side : Side) (partner_sent : List (Option Apdu)) → RequesterSideInvariant txn side partner_sent
    → role_of side ≡ who.Requester
requesters txn (sides.Requester x) partner_sent stands = refl
requesters txn (sides.Responder y) partner_sent stands = absurd stands

-- If `ResponderSideInvariant` holds of a side, its role is the responder's.
responders : (txn : Qualifiers) (side : Side) (partner_sent : List (Option Apdu)) → ResponderSideInvariant txn side partner_sent
    → role_of side ≡ who.Responder
responders txn (sides.Responder y) partner_sent stands = refl
responders txn (sides.Requester x) partner_sent stands = absurd stands

-- If `RequesterSideInvariant` holds of a side, each message that it has issued is of `txn`.
requesters_txn : (txn : Qualifiers) (side : Side) (partner_sent : List (Option Apdu)) (n : ℕ) (a : Apdu)
    → RequesterSideInvariant txn side partner_sent → message (issued_of side) n ≡ Some a → txn ≡ a.txn
requesters_txn txn (sides.Requester x) partner_sent n a stands at =
    sym (same_is a.txn x.txn (message_number x.txn x.issued n a stands.rules.numbered at).0 ∙ stands.same_txn)
requesters_txn txn (sides.Responder y) partner_sent n a stands at = absurd stands

-- If `ResponderSideInvariant` holds of a side, each message that it has issued is of `txn`.
responders_txn : (txn : Qualifiers) (side : Side) (partner_sent : List (Option Apdu)) (n : ℕ) (a : Apdu)
    → ResponderSideInvariant txn side partner_sent → message (issued_of side) n ≡ Some a → txn ≡ a.txn
responders_txn txn (sides.Responder y) partner_sent n a stands at =
    sym (same_is a.txn y.txn (message_number y.txn y.issued n a stands.rules.numbered at).0 ∙ stands.same_txn)
responders_txn txn (sides.Requester x) partner_sent n a stands at = absurd stands

-- If `DesksInvariant` holds of two desks, `KeepsTo` holds of each.
pub keeps_to : (w : DeskParties) (role : Role) → DesksInvariant w → KeepsTo role (party w role) (party w (other role)).sent
keeps_to w who.Requester stands = record {
  role_is = stands.requester.0;
  role_held = λ txn. requesters txn (held_for txn w.requester.live).side (sent_for txn w.responder.sent)
      (stands.each txn).requester.live;
  txn_of_sent = λ txn n a at. let responder = (stands.each txn).responder in
      responders_txn txn _ _ n a responder.committed (responder.saved.committed n a at);
}
keeps_to w who.Responder stands = record {
  role_is = stands.responder.0;
  role_held = λ txn. responders txn (held_for txn w.responder.live).side (sent_for txn w.requester.sent)
      (stands.each txn).responder.live;
  txn_of_sent = λ txn n a at. let requester = (stands.each txn).requester in
      requesters_txn txn _ _ n a requester.committed (requester.saved.committed n a at);
}

-- `Projects` holds of each event at two desks that satisfy `DesksInvariant`.
pub desk_projects : RowsGrow → RefusalsChangeNothing → (txn : Qualifiers) (w : DeskParties) (event : DeskEvent) → DesksInvariant w
    → Projects txn w event
desk_projects grows rows txn w event stands =
    let role = who_of (plain event) in
    seen_at txn w role event (party_seen grows rows (party w role) (party w (other role)).sent event (keeps_to w role stands) txn)

-- ---- a desk keeps its role

-- A decision at a held side leaves both roles of a desk unchanged, live and committed.
acted_role : (role : Role) (p : DeskParty) (held : DeskEntry) (result : Result Side Refusal) → IsDeskOf role p
    → IsDeskOf role (desk_decides p (acted_at p.live held result)).1
acted_role role p held (Ok new) is = is
acted_role role p held (Err refusal) is = is

-- A decision leaves both roles of a desk unchanged, if its side is reached or not.
reached_role : (role : Role) (p : DeskParty) (action : Action) (found : Result DeskEntry DeskFault) → IsDeskOf role p
    → IsDeskOf role (desk_decides p (acts_reached p.live action found)).1
reached_role role p action (Ok held) is = acted_role role p held (acts held.side action) is
reached_role role p action (Err fault) is = is

-- A decision leaves both roles of a desk unchanged, if the desk's role may act or not.
decided_role : (role : Role) (p : DeskParty) (action : Action) (found : Result DeskEntry DeskFault) (may : Bool) → IsDeskOf role p
    → IsDeskOf role (desk_decides p (if may then acts_reached p.live action found else Err (faults.Core WrongRole))).1
decided_role role p action found true is = reached_role role p action found is
decided_role role p action found false is = is

-- A message that a held side takes leaves the live role of a desk unchanged.
took_role : (role : Role) (p : DeskParty) (held : DeskEntry) (answer : Result _ Refusal) (new : Side) → IsDeskOf role p
    → (took_at p.live held (answer, new)).1.role ≡ role
took_role role p held (Ok _) new is = is.0
took_role role p held (Err refusal) new is = is.0

-- A message leaves the live role of a desk unchanged, if its side is reached or not.
takes_role : (role : Role) (p : DeskParty) (a : Apdu) (found : Result DeskEntry DeskFault) → IsDeskOf role p
    → (takes_reached p.live a found).1.role ≡ role
takes_role role p a (Ok held) is = took_role role p held (takes held.side a).0 (takes held.side a).1 is
takes_role role p a (Err fault) is = is.0

-- A delivery leaves both roles of a desk unchanged.
pub receives_role : (role : Role) (p : DeskParty) (found : Option Apdu) → IsDeskOf role p
    → IsDeskOf role (desk_receives p found).1
receives_role role p None is = is
receives_role role p (Some a) is = (go (is_own p.live.role a.body), is.1)
  where
    -- The desk keeps its role if it refuses a message of its own role, and if it takes another one.
    go : (own : Bool) → (if own then (Err (faults.Core WrongRole), p.live) else
        takes_reached p.live a (side_for_call p.live a.txn (is_ill_request a.body))).1.role ≡ role
    go true = is.0
    go false = takes_role role p a (side_for_call p.live a.txn (is_ill_request a.body)) is

-- A Send leaves both roles of a desk unchanged, if the desk `after` the sent message has them.
sends_role : (role : Role) (p : DeskParty) (after : Apdu → DeskParty) (issued : Option Apdu) (released : Bool)
    → IsDeskOf role p → ((a : Apdu) → IsDeskOf role (after a)) → IsDeskOf role (sends_by p after issued released).1
sends_role role p after None released is sent = is
sends_role role p after (Some a) false is sent = is
sends_role role p after (Some a) true is sent = sent a

-- A Send of message n in transaction `of` leaves both roles of a desk unchanged.
send_role : (role : Role) (p : DeskParty) (of : Qualifiers) (n : ℕ) (found : Option DeskEntry) → IsDeskOf role p
    → IsDeskOf role (desk_sends p of n found).1
send_role role p of n None is = is
send_role role p of n (Some held) is = sends_role role p _ _ _ is (λ a. is)

-- Each event leaves both roles of its desk unchanged.
pub role_kept : (role : Role) (p : DeskParty) (partner_sent : List Sending) (event : DeskEvent) → IsDeskOf role p
    → IsDeskOf role (desk_happens_to p partner_sent event).1
role_kept role p partner_sent (events.Wish of wish) is =
    decided_role role p (actions.Wish wish) (side_for_call p.live of (begins (actions.Wish wish)))
    (is_same_role p.live.role who.Requester) is
role_kept role p partner_sent (events.Deed of deed today) is =
    decided_role role p (actions.Deed deed today) (side_for_call p.live of (begins (actions.Deed deed today)))
    (is_same_role p.live.role who.Responder) is
role_kept role p partner_sent (events.Save at) is = (is.0, is.0)
role_kept role p partner_sent (events.SaveFault at true) is = (is.0, is.0)
role_kept role p partner_sent (events.SaveFault at false) is = is
role_kept role p partner_sent (events.Send at of n) is = send_role role p of n (found_by txn_held of p.live.held) is
role_kept role p partner_sent (events.Deliver at of n) is = receives_role role p (sent_message (sent_for of partner_sent) n) is
role_kept role p partner_sent (events.Noise at bytes) is = is
role_kept role p partner_sent (events.Restart at) is = (is.1, is.1)

-- Each event leaves the roles of both desks unchanged.
roles_kept : (w : DeskParties) (role : Role) (event : DeskEvent) → IsDeskOf who.Requester w.requester
    → IsDeskOf who.Responder w.responder
    → let after = (happens_at w role (λ p partner. desk_happens_to p partner.sent event)).1 in
    IsDeskOf who.Requester after.requester × IsDeskOf who.Responder after.responder
roles_kept w who.Requester event requester responder =
    (role_kept who.Requester w.requester w.responder.sent event requester, responder)
roles_kept w who.Responder event requester responder =
    (requester, role_kept who.Responder w.responder w.requester.sent event responder)

-- ---- worlds

-- If `F` holds of the old world and of the expected one, it holds of the world that is seen.
seen_keeps : {P : Type 0} (F : P → Type 0) (own : Bool) (expected : Outcome × P) (old new : P) (outcome : DeskOutcome)
    → IsSeenAs own expected old outcome new → F old → F expected.1 → F new
seen_keeps F true expected old new outcome seen before after = subst F (sym seen.1) after
seen_keeps F false expected old new outcome seen before after = subst F (sym seen) before

-- Two desks that hold nothing satisfy `DesksInvariant`.
pub desks_first : DesksCount first_desks → ((txn : Qualifiers) → Invariant txn (first_world txn)) → DesksInvariant first_desks
desks_first counts stands = record {
  requester = (refl, refl);
  responder = (refl, refl);
  counts = counts;
  each = λ txn. subst (Invariant txn) (sym (first_project txn)) (stands txn);
}

-- If two desks satisfy `DesksInvariant`, and `DesksCount` holds after an event, `DesksInvariant` holds after it.
pub desks_after : RowsGrow → RefusalsChangeNothing → ((txn : Qualifiers) → After txn) → (w : DeskParties) (event : DeskEvent)
    → DesksInvariant w → DesksCount (desks_happen w event).1 → DesksInvariant (desks_happen w event).1
desks_after grows rows after w event stands counts =
    let roles = roles_kept w (who_of (plain event)) event stands.requester stands.responder in
    record {
      requester = roles.0;
      responder = roles.1;
      counts = counts;
      each = λ txn.
          seen_keeps (Invariant txn) (is_event_of txn w event) (happens (project txn w) (plain event)) (project txn w) _ _
          (desk_projects grows rows txn w event stands) (stands.each txn)
          (after txn (project txn w) (plain event) (stands.each txn));
    }

-- ---- runs

-- `Projects` holds of each event at two desks that satisfy `DesksInvariant`.
abbrev pub EachProjects : Type 0
EachProjects = (txn : Qualifiers) (w : DeskParties) (event : DeskEvent) → DesksInvariant w → Projects txn w event

-- Each event keeps `DesksInvariant`.
abbrev pub EachStands : Type 0
EachStands = (w : DeskParties) (event : DeskEvent) → DesksInvariant w → DesksInvariant (desks_happen w event).1

-- The event was seen in the transaction, and led from `w` to `new`. If `own` is true, `more` leads from `new` to the
-- world of `event` and `more` from `w`. Else it leads to the world of `more` alone from `w`.
leads_on : (own : Bool) (w : Parties) (event : Event) (more : List Event) (new : Parties) (outcome : DeskOutcome)
    → IsSeenAs own (happens w event) w outcome new
    → run_of new more ≡ run_of w (if own then event ∷ more else more)
unfolding run_by
leads_on true w event more new outcome seen = ap (λ v. run_of v more) seen.1
leads_on false w event more new outcome seen = ap (λ v. run_of v more) seen

-- Any events keep `DesksInvariant`.
pub desks_stand_on : EachStands → (w : DeskParties) (events : List DeskEvent) → DesksInvariant w
    → DesksInvariant (desks_run w events)
unfolding run_by
desks_stand_on after w [] stands = stands
desks_stand_on after w (event ∷ events) stands = desks_stand_on after (desks_happen w event).1 events (after w event stands)

-- The projection of two desks after events is the world after the events of the transaction.
pub run_projects : EachProjects → EachStands → (txn : Qualifiers) (w : DeskParties) (events : List DeskEvent)
    → DesksInvariant w → project txn (desks_run w events) ≡ run_of (project txn w) (events_for txn w events)
unfolding run_by events_for
run_projects projects after txn w [] stands = refl
run_projects projects after txn w (event ∷ events) stands =
    let next = (desks_happen w event).1 in
    run_projects projects after txn next events (after w event stands)
    ∙ leads_on (is_event_of txn w event) (project txn w) (plain event) (events_for txn next events) (project txn next)
    (desks_happen w event).0 (projects txn w event stands)

-- The projection of two desks that held nothing at first is the world after the events of the transaction.
pub first_run_projects : EachProjects → EachStands → DesksInvariant first_desks
    → (txn : Qualifiers) (events : List DeskEvent)
    → project txn (desks_run first_desks events) ≡ run_of (first_world txn) (events_for txn first_desks events)
first_run_projects projects after first txn events =
    run_projects projects after txn first_desks events first
    ∙ ap (λ w. run_of w (events_for txn first_desks events)) (first_project txn)

-- ---- dates

-- If an event of two parties keeps the due dates, an event of two desks keeps them in each transaction.
pub desk_dates : EachProjects → ((txn : Qualifiers) (w : Parties) (event : Event) → Invariant txn w
    → KeepsDates w event (happens w event).1) → (txn : Qualifiers) (w : DeskParties) (event : DeskEvent) → DesksInvariant w
    → KeepsDates (project txn w) (plain event) (project txn (desks_happen w event).1)
desk_dates projects stay txn w event stands =
    seen_keeps (KeepsDates (project txn w) (plain event)) (is_event_of txn w event) (happens (project txn w) (plain event))
    (project txn w) _ _ (projects txn w event stands) (same_dates (project txn w) (plain event))
    (stay txn (project txn w) (plain event) (stands.each txn))

-- ---- changes

-- If two outcomes are equal as outcomes of desks, they are equal.
pub same_plain : (a b : Outcome) → ◌≡◌ {A = DeskOutcome} (Plain a) (Plain b) → a ≡ b
same_plain a b e = search rules

-- If the expected outcome allows the expected change, the outcome at the desks allows the change of the projection.
unchanged : (own : Bool) (expected : Outcome × Parties) (old new : Parties) (outcome : DeskOutcome)
    → IsSeenAs (if_reached outcome own) expected old outcome new
    → MayChange OnlyCommittedChanges expected.0 old expected.1
    → ((outcome : Outcome) → MayChange OnlyCommittedChanges outcome old old) → DeskMayChange outcome old new
unchanged true expected old new (Plain outcome) seen changes same =
    let is : expected.0 ≡ outcome = sym (same_plain outcome expected.0 seen.0) in
    subst (λ o. MayChange OnlyCommittedChanges o old new) is
    (subst (MayChange OnlyCommittedChanges expected.0 old) (sym seen.1) changes)
unchanged false expected old new (Plain outcome) seen changes same =
    subst (MayChange OnlyCommittedChanges outcome old) (sym seen) (same outcome)
unchanged own expected old new NoSuchTransaction seen changes same = seen
unchanged own expected old new DeskFull seen changes same = seen

-- If `MayChange` holds of each event of two parties, `DeskMayChange` holds of each event of two desks.
pub desk_changes : EachProjects
    → ((w : Parties) (event : Event) → MayChange OnlyCommittedChanges (happens w event).0 w (happens w event).1)
    → (txn : Qualifiers) (w : DeskParties) (event : DeskEvent) → DesksInvariant w
    → DeskMayChange (desks_happen w event).0 (project txn w) (project txn (desks_happen w event).1)
desk_changes projects changes txn w event stands =
    unchanged (concerns txn event) (happens (project txn w) (plain event)) (project txn w) (project txn (desks_happen w event).1)
    (desks_happen w event).0 (projects txn w event stands)
    (changes (project txn w) (plain event)) (same_changes (project txn w))

-- If an event of two parties keeps the sent messages, an event of two desks keeps them in each transaction.
pub desk_keeps_sent : EachProjects
    → ((txn : Qualifiers) (w : Parties) (event : Event) → Invariant txn w → KeepsSent w (happens w event).1)
    → (txn : Qualifiers) (w : DeskParties) (event : DeskEvent) → DesksInvariant w
    → KeepsSent (project txn w) (project txn (desks_happen w event).1)
desk_keeps_sent projects keeps txn w event stands =
    seen_keeps (KeepsSent (project txn w)) (is_event_of txn w event) (happens (project txn w) (plain event)) (project txn w) _ _
    (projects txn w event stands) (λ of n a was. was)
    (keeps txn (project txn w) (plain event) (stands.each txn))
