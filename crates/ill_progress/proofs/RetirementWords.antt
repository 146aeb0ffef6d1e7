-- If a responder's library has retired a group, the last word of a loan brings both sides to rest.
use Rattle.std.proofs.Common.{arith, rules, cond, ◌≡◌, ◌⊎◌, inl, inr, ℕ, zero, suc, ◌<◌, ◌≤◌, Bool, true, false, not, ◌||◌}
use Rattle.std.proofs.Common.{if◌then◌else◌, List, []}
use Rattle.std.proofs.Common.{◌∷◌, length, nat_le, nat_lt, Option, Some, None, is_some, refl, sym, ap, ◌∙◌, subst, true≢false}
use Rattle.std.specs.Prelude.{◌==◌, bytes_eq, slice_get}
use Rattle.std.specs.List.{slice_set}
use Rattle.std.specs.Option.{option_flatten}
use Rattle.std.proofs.lemmas.Bool.{eq-eqb}
use Rattle.std.proofs.lemmas.Slice.Eq.{bytes_eq-Decides}
use Rattle.ill_values.specs.declared.apdu.Apdu.{Apdu}
use Rattle.ill_values.specs.Body.{Body}
use Rattle.ill_values.specs.declared.apdu.BodyWith.TheVariants as types
use Rattle.ill_values.specs.Bodies.{is_end, is_ill_request, is_cancelled, is_shipped}
use Rattle.ill_values.specs.TxnId.{Qualifiers}
use Rattle.ill_core.specs.declared.state.State.{State}
use Rattle.ill_core.specs.declared.state.State.TheVariants.{Pending, Received, NotReceivedOverdue, Returned, Cancelled}
use Rattle.ill_core.specs.declared.state.State.TheVariants.{NotSupplied, CheckedIn}
use Rattle.ill_core.specs.State.{is_among, place_of}
use Rattle.ill_core.specs.Issued.{message, is_same_txn}
use Rattle.ill_core.specs.ResponderRules.{PartsFit}
use Rattle.ill_core.specs.Verbs.{responder_turn_in}
use Rattle.ill_record.specs.declared.role.Role.TheVariants as who
use Rattle.ill_record.specs.declared.side.Side.{Side}
use Rattle.ill_record.specs.declared.side.Side.TheVariants as sides
use Rattle.ill_record.specs.Side.{issued_of, state_of, takes}
use Rattle.ill_saved.specs.Holdings.{DeskEntry}
use Rattle.ill_saved.specs.ManySides.{found_by, txn_held, found_or, idle_held, held_for}
use Rattle.ill_record.proofs.Finding.{same_self}
use Rattle.ill_words.specs.Sending.{is_nobodys, is_over}
use Rattle.ill_words.specs.declared.outcome.Outcome.{Outcome}
use Rattle.ill_words.specs.declared.outcome.DeskOutcome.{DeskOutcome}
use Rattle.ill_words.specs.declared.outcome.DeskOutcome.TheVariants.{Plain, NoSuchTransaction, DeskFull}
use Rattle.ill_world.specs.declared.event.Event.{Event}
use Rattle.ill_world.specs.declared.event.Event.TheVariants as plain_events
use Rattle.ill_world.specs.declared.event.DeskEvent.TheVariants as events
use Rattle.ill_world.specs.World.{Parties, sent_message, with_sent, sends_by, happens, receives, first_world, run_by}
use Rattle.ill_world.specs.Desks.{DeskParty, DeskParties, first_desks, desk_sends, sent_for, with_sent_for, desks_happen}
use Rattle.ill_world.specs.Desks.{project, plain, concerns, if_reached, IsSeenAs, events_for}
use Rattle.ill_world.specs.DeskChanges.{IsPlain, Reaches}
use Rattle.ill_world.specs.DeskSafety.{DesksInvariant}
use Rattle.ill_world.specs.Invariant.{RequesterSideInvariant, ResponderSideInvariant, Invariant}
use Rattle.ill_world.specs.Agreement.{Agrees, Arrives, Facing, SaysTrue, settled_by}
use Rattle.ill_world.specs.Night.{AreAtRest}
use Rattle.ill_world.specs.Shelves.{ShelfEvent, first_shelves, events_at}
use Rattle.ill_world.proofs.Kept.{RowsGrow}
use Rattle.ill_world.proofs.Desks.{EachProjects, EachStands, keeps_to, first_run_projects}
use Rattle.ill_world.proofs.DeskArrivals.{EachReaches}
use Rattle.ill_world.proofs.DeskCounts.{none_sent}
use Rattle.ill_world.proofs.Projections.{sent_after}
use Rattle.ill_world.proofs.Shelves.{shelves_run_at}
use Rattle.ill_progress.specs.Retirement.{MarkedShelves, first_marked_shelves, has_mark, RetiringEvent, can_happen}
use Rattle.ill_progress.specs.Retirement.{marked_shelves_happen}
use Rattle.ill_progress.specs.Retirement.{retiring_run, shelf_events_of, last_word_of}
use Rattle.ill_progress.proofs.Retirement.{after_if, run_shelves}
use Rattle.ill_progress.proofs.RetirementLoans.{retired_is_over, retired_is_released, retiring_stands}
use Rattle.ill_progress.proofs.LastWords.{tells_end, SideTells, ResponderTells, run_tells, first_tells, ended_over}
use Rattle.ill_progress.proofs.LastWords.{checked_in_over}

-- ---- the message

-- If a message tells the end in `state`, it ends the request, and settles its receiver in NOT-SUPPLIED or CANCELLED. Or
-- it is a Checked-In, and `state` is CHECKED-IN.
ends_or_is_back : (state : State) (body : Body) → tells_end state body ≡ true
    → ((is_end body ≡ true)
    × ((s : State) → is_among (settled_by body) s ≡ true → is_among (NotSupplied ∷ Cancelled ∷ []) s ≡ true))
    ⊎ ((body ≡ types.CheckedIn) × (state ≡ CheckedIn))
ends_or_is_back Cancelled (types.CancelReply c true) is = inl (refl, λ s. second (NotSupplied) s)
  where
    -- CANCELLED is among CANCELLED and another state.
    second : (other s : State) → is_among (Cancelled ∷ []) s ≡ true → is_among (other ∷ Cancelled ∷ []) s ≡ true
    second other s is = go (place_of other == place_of s) is
      where
        -- The test of two states is true if the test of the second is.
        go : (b : Bool) → is_among (Cancelled ∷ []) s ≡ true → b || is_among (Cancelled ∷ []) s ≡ true
        go true is = refl
        go false is = is
ends_or_is_back NotSupplied (types.IllAnswer answer) is =
    inl (ap (λ b. b || (is_cancelled (types.IllAnswer answer) || is_shipped (types.IllAnswer answer))) is, λ s. first s)
  where
    -- NOT-SUPPLIED is among NOT-SUPPLIED and CANCELLED.
    first : (s : State) → is_among (NotSupplied ∷ []) s ≡ true → is_among (NotSupplied ∷ Cancelled ∷ []) s ≡ true
    first s is = go (place_of NotSupplied == place_of s) is
      where
        -- The test of two states is true if the test of the first is.
        go : (b : Bool) → b || false ≡ true → b || is_among (Cancelled ∷ []) s ≡ true
        go true is = refl
        go false is = absurd (true≢false (sym is))
ends_or_is_back NotSupplied types.Expired is = inl (refl, λ s. first s)
  where
    -- NOT-SUPPLIED is among NOT-SUPPLIED and CANCELLED.
    first : (s : State) → is_among (NotSupplied ∷ []) s ≡ true → is_among (NotSupplied ∷ Cancelled ∷ []) s ≡ true
    first s is = go (place_of NotSupplied == place_of s) is
      where
        -- The test of two states is true if the test of the first is.
        go : (b : Bool) → b || false ≡ true → b || is_among (Cancelled ∷ []) s ≡ true
        go true is = refl
        go false is = absurd (true≢false (sym is))
ends_or_is_back CheckedIn types.CheckedIn is = inr (refl, refl)
ends_or_is_back state body is = absurd (true≢false (sym is))

-- If the loan is over for a responder, its state is final.
over_is_final : (state : State) (has_request has_accepted has_cancel has_renew is_marked none : Bool)
    → PartsFit state has_request has_accepted has_cancel has_renew is_marked none
    → is_nobodys (responder_turn_in state) ≡ true → is_among (NotSupplied ∷ Cancelled ∷ CheckedIn ∷ []) state ≡ true
over_is_final state has_request has_accepted has_cancel has_renew is_marked none fit over = go state fit.role over
  where
    -- By `role` the state is not one of a requester alone, so few states are left.
    go : (state : State) → is_among (Pending ∷ Received ∷ NotReceivedOverdue ∷ []) state ≡ false
        → is_nobodys (responder_turn_in state) ≡ true → is_among (NotSupplied ∷ Cancelled ∷ CheckedIn ∷ []) state ≡ true
    go state role over = search rules

-- If the loan is over for a responder's side, its last message tells so.
last_tells : (txn : Qualifiers) (side : Side) (sent : List (Option Apdu)) → ResponderSideInvariant txn side sent
    → SideTells side sent → is_over side ≡ true
    → (a : Apdu) × (message (issued_of side) (length (issued_of side)) ≡ Some a) × (tells_end (state_of side) a.body ≡ true)
last_tells txn (sides.Requester x) sent stands tells over = absurd stands
last_tells txn (sides.Responder y) sent stands tells over =
    tells (over_is_final y.state _ _ _ _ _ _ stands.rules.parts over)

-- A responder's side has issued at most 255 messages.
few_issued : (txn : Qualifiers) (side : Side) (sent : List (Option Apdu)) → ResponderSideInvariant txn side sent
    → length (issued_of side) ≤ 255
few_issued txn (sides.Requester x) sent stands = absurd stands
few_issued txn (sides.Responder y) sent stands = stands.few

-- ---- the Send

-- After `a` is put at place i, it is there.
set_here : (slots : List (Option Apdu)) (i : ℕ) (a : Apdu) → i < length slots
    → option_flatten (slice_get (slice_set slots i (Some a)) i) ≡ Some a
set_here [] i a less = absurd (omega (arith, less))
set_here (slot ∷ slots) zero a less = refl
set_here (slot ∷ slots) (suc i) a less = set_here slots i a (omega (arith, less))

-- After the last message of a list is sent, it is among the sent ones.
sent_here : (sent : List (Option Apdu)) (apdus : List Apdu) (n : ℕ) (a : Apdu) → length sent ≡ 255 → length apdus ≤ 255
    → n ≡ length apdus → message apdus n ≡ Some a → sent_message (with_sent sent n a) n ≡ Some a
sent_here sent apdus zero a places few is at = absurd (true≢false (sym (ap is_some at)))
sent_here sent apdus (suc i) a places few is at = set_here sent i a (omega (arith, places, few, is))

-- A Send of a released message of a held side leads to the desk that has sent it.
desk_sent : (p : DeskParty) (txn : Qualifiers) (n : ℕ) (found : Option DeskEntry) (held : DeskEntry) (a : Apdu)
    → found ≡ Some held → message (issued_of held.side) n ≡ Some a → nat_le n held.released ≡ true
    → (desk_sends p txn n found).1 ≡ record p { sent = with_sent_for txn p.sent n a }
desk_sent p txn n found held a is at free =
    let sending : Apdu → DeskParty = λ b. record p { sent = with_sent_for txn p.sent n b } in
    ap (λ f. (desk_sends p txn n f).1) is
    ∙ ap (λ m. (sends_by p sending m (nat_le n held.released)).1) at
    ∙ ap (λ b. (sends_by p sending (Some a) b).1) free

-- ---- the delivery

-- If a Checked-In arrives from a responder in CHECKED-IN, the loan is over for the requester.
back_over : (txn : Qualifiers) (x y : Side) (sent : List (Option Apdu)) (a : Apdu) → RequesterSideInvariant txn x sent
    → Facing SaysTrue x y → state_of y ≡ CheckedIn → txn ≡ a.txn → a.body ≡ types.CheckedIn → is_over (takes x a).1 ≡ true
back_over txn (sides.Requester x) (sides.Responder y) sent a stands says state of body =
    checked_in_over x a (says.returned (ap (is_among (Returned ∷ CheckedIn ∷ [])) state))
    (subst (λ t. is_same_txn t x.txn ≡ true) (stands.same_txn ∙ of) (same_self x.txn)) body
back_over txn (sides.Requester x) (sides.Requester y) sent a stands says state of body = absurd says
back_over txn (sides.Responder x) y sent a stands says state of body = absurd stands

-- If an event reaches a side (`IsPlain`), and is of the transaction (`own`), the projection `new` is the expected one.
seen_plain : (outcome : DeskOutcome) (own : Bool) (expected : Outcome × Parties) (old new : Parties) → IsPlain outcome
    → own ≡ true → IsSeenAs (if_reached outcome own) expected old outcome new → new ≡ expected.1
seen_plain (Plain outcome) true expected old new is own seen = seen.1
seen_plain (Plain outcome) false expected old new is own seen = absurd (true≢false (sym own))
seen_plain NoSuchTransaction own_event expected old new is own seen = absurd is
seen_plain DeskFull own_event expected old new is own seen = absurd is

-- A message that was sent is delivered to the requester's desk as in the world of two parties.
delivered : EachProjects → EachReaches → (txn : Qualifiers) (w : DeskParties) (n : ℕ) (a : Apdu) → DesksInvariant w
    → sent_message (sent_for txn w.responder.sent) n ≡ Some a
    → project txn (desks_happen w (events.Deliver who.Requester txn n)).1
    ≡ (happens (project txn w) (plain_events.Deliver who.Requester n)).1
delivered projects reaches txn w n a stands sent =
    let event = events.Deliver who.Requester txn n in
    seen_plain (desks_happen w event).0 (concerns txn event) (happens (project txn w) (plain event)) (project txn w)
    (project txn (desks_happen w event).1)
    (reached (desks_happen w event).0 (nat_lt (length w.requester.live.held) 1000) (found_by txn_held txn w.requester.live.held)
    refl (reaches w event stands a sent)) (same_self txn) (projects txn w event stands)
  where
    -- A message of `txn` was sent, so the requester holds the loan, and the delivery reaches its side.
    reached : (outcome : DeskOutcome) (has_room : Bool) (found : Option DeskEntry)
        → found_by txn_held txn w.requester.live.held ≡ found → Reaches (is_ill_request a.body) has_room found outcome
        → IsPlain outcome
    reached outcome has_room (Some held) is plain = plain
    reached outcome has_room None is plain = absurd (none_sent w stands txn n a sent is)

-- ---- the last word

-- Each premise is a law. Events of desks project, reach what a desk holds, and keep the invariant (`projects`,
-- `reaches`, `after`). Those of a world keep it too (`stand`), and a message that arrives settles its receiver
-- (`arrives`). Both sides agree (`agree`), and if the loan is over for the requester, they are at rest (`rests`).
module _ (projects : EachProjects) (reaches : EachReaches) (after : EachStands)
    (arrives : (txn : Qualifiers) (w : Parties) (event : Event) → Invariant txn w → Arrives w event)
    (stand : (txn : Qualifiers) (w : Parties) (event : Event) → Invariant txn w → Invariant txn (happens w event).1)
    (agree : (txn : Qualifiers) (w : Parties) → Invariant txn w → Agrees w)
    (rests : (txn : Qualifiers) (w : Parties) → Invariant txn w → is_over w.requester.live ≡ true → AreAtRest w) where
  -- If a message that tells the end was sent, its arrival ends the loan for the requester.
  word_over : (txn : Qualifiers) (v : Parties) (n : ℕ) (a : Apdu) → Invariant txn v
      → sent_message v.responder.sent n ≡ Some a → txn ≡ a.txn → tells_end (state_of v.responder.live) a.body ≡ true
      → is_over (happens v (plain_events.Deliver who.Requester n)).1.requester.live ≡ true
  word_over txn v n a stands sent of tells =
      let deliver = plain_events.Deliver who.Requester n in
      let new = (happens v deliver).1 in
      elim (ends_or_is_back (state_of v.responder.live) a.body tells) [
        | inl ends ↦ ended_over txn new.requester.live new.responder.sent (stand txn v deliver stands).requester.live
            (ends.1 (state_of new.requester.live) (arrives txn v deliver stands a sent ends.0).1)
        | inr back ↦ ap (λ found. is_over (receives v.requester found).1.live) sent
            ∙ back_over txn v.requester.live v.responder.live v.responder.sent a stands.requester.live
            (agree txn v stands).says.live back.1 of back.0
      ]

  -- If a loan is over for the responder, with all messages released, the last one brings both sides to rest. The Send
  -- leads to the desks `first`, and its delivery there ends the loan for the requester.
  desks_word : (txn : Qualifiers) (d : DeskParties) (held : DeskEntry) → DesksInvariant d → ResponderTells (project txn d)
      → found_by txn_held txn d.responder.live.held ≡ Some held → is_over held.side ≡ true
      → nat_le (length (issued_of held.side)) held.released ≡ true
      → let n = length (issued_of (held_for txn d.responder.live).side) in
      AreAtRest (project txn
      (desks_happen (desks_happen d (events.Send who.Responder txn n)).1 (events.Deliver who.Requester txn n)).1)
  desks_word txn d held stands tells found over released =
      let v = project txn d in
      let shown = stands.each txn in
      let n : ℕ = length (issued_of (held_for txn d.responder.live).side) in
      let deliver = events.Deliver who.Requester txn n in
      let side_is : v.responder.live ≡ held.side =
      ap (λ o. (found_or (idle_held d.responder.live.role txn) o).side) found in
      let word = last_tells txn v.responder.live v.requester.sent shown.responder.live tells.live (ap is_over side_is ∙ over) in
      let a : Apdu = word.0 in
      let at : message (issued_of held.side) n ≡ Some a =
      ap (λ side. message (issued_of side) n) (sym side_is) ∙ word.1 in
      let free : nat_le n held.released ≡ true =
      ap (λ side. nat_le (length (issued_of side)) held.released) side_is ∙ released in
      let first : DeskParties =
      record d { responder = record d.responder { sent = with_sent_for txn d.responder.sent n a } } in
      let goes : (desks_happen d (events.Send who.Responder txn n)).1 ≡ first =
      ap (λ p. record d { responder = p })
      (desk_sent d.responder txn n (found_by txn_held txn d.responder.live.held) held a found at free) in
      let first_stands : DesksInvariant first =
      subst DesksInvariant goes (after d (events.Send who.Responder txn n) stands) in
      let sent : sent_message (sent_for txn first.responder.sent) n ≡ Some a =
      ap (λ s. sent_message s n)
      (sent_after txn txn d.responder.sent n a
      ∙ ap (λ b. cond b (with_sent (sent_for txn d.responder.sent) n a) (sent_for txn d.responder.sent)) (same_self txn))
      ∙ sent_here (sent_for txn d.responder.sent) (issued_of v.responder.live) n a shown.responder.saved.places
      (few_issued txn v.responder.live v.requester.sent shown.responder.live) refl word.1 in
      let of : txn ≡ a.txn = (keeps_to first who.Requester first_stands).txn_of_sent txn n a sent in
      subst (λ u. AreAtRest (project txn (desks_happen u deliver).1)) (sym goes)
      (rests txn (project txn (desks_happen first deliver).1) ((after first deliver first_stands).each txn)
      (ap (λ (u : Parties). is_over u.requester.live) (delivered projects reaches txn first n a first_stands sent)
      ∙ word_over txn (project txn first) n a (first_stands.each txn) sent of word.2))

-- A disjunction with `true` is true.
or_true : (b : Bool) → b || true ≡ true
or_true true = refl
or_true false = refl

-- If the requester's library has not retired a group, both events of a last word happen at its desks.
word_run : (w : MarkedShelves) (txn : Qualifiers) → has_mark w who.Requester txn.group ≡ false
    → let d = w.shelves txn.group in
    let n = length (issued_of (held_for txn d.responder.live).side) in
    (retiring_run w (last_word_of txn d)).shelves txn.group
    ≡ (desks_happen (desks_happen d (events.Send who.Responder txn n)).1 (events.Deliver who.Requester txn n)).1
unfolding run_by
word_run w txn unmarked =
    let group : List ℕ = txn.group in
    let d = w.shelves group in
    let n : ℕ = length (issued_of (held_for txn d.responder.live).side) in
    let send : ShelfEvent = record { group = group; event = events.Send who.Responder txn n } in
    let deliver : ShelfEvent = record { group = group; event = events.Deliver who.Requester txn n } in
    let self : bytes_eq group group ≡ true = (bytes_eq-Decides group group).1 refl in
    let kept : Bool = not (has_mark w who.Responder group) in
    let sends : can_happen w send ≡ true = ap (λ b. kept || b) (eq-eqb n n refl) ∙ or_true kept in
    let first : MarkedShelves = (after_if w send true).1 in
    let delivers : can_happen first deliver ≡ true = ap (λ b. not b || false) unmarked in
    let sent : first.shelves group ≡ (desks_happen d send.event).1 =
    ap (λ b. if b then (desks_happen d send.event).1 else d) self in
    ap (λ b. (marked_shelves_happen (after_if w send b).1 deliver).1.shelves group) sends
    ∙ ap (λ b. (after_if first deliver b).1.shelves group) delivers
    ∙ ap (λ b. if b then (desks_happen (first.shelves group) deliver.event).1 else first.shelves group) self
    ∙ ap (λ u. (desks_happen u deliver.event).1) sent

-- After any retiring events the last message of each responder in a final state tells the end.
shelves_tell : RowsGrow → EachProjects → EachStands → DesksInvariant first_desks
    → ((txn : Qualifiers) → Invariant txn (first_world txn)) → (all : List RetiringEvent) (txn : Qualifiers) (group : List ℕ)
    → ResponderTells (project txn ((retiring_run first_marked_shelves all).shelves group))
shelves_tell grows projects after first world all txn group =
    let those = events_at group (shelf_events_of first_marked_shelves all) in
    subst (λ shelves. ResponderTells (project txn (shelves group))) (sym (run_shelves first_marked_shelves all))
    (subst (λ d. ResponderTells (project txn d))
    (sym (shelves_run_at first_shelves group (shelf_events_of first_marked_shelves all)))
    (subst ResponderTells (sym (first_run_projects projects after first txn those))
    (run_tells grows (first_world txn) (events_for txn first_desks those) (first_tells txn (world txn)))))

-- If a responder's library has retired a group, the last word of a loan brings both sides to rest.
pub word_is_enough : RowsGrow → EachProjects → EachReaches → EachStands → DesksInvariant first_desks
    → ((txn : Qualifiers) → Invariant txn (first_world txn))
    → ((txn : Qualifiers) (w : Parties) (event : Event) → Invariant txn w → Invariant txn (happens w event).1)
    → ((txn : Qualifiers) (w : Parties) (event : Event) → Invariant txn w → Arrives w event)
    → ((txn : Qualifiers) (w : Parties) → Invariant txn w → Agrees w)
    → ((txn : Qualifiers) (w : Parties) → Invariant txn w → is_over w.requester.live ≡ true → AreAtRest w)
    → (all : List RetiringEvent) (txn : Qualifiers) (held : DeskEntry) → let w = retiring_run first_marked_shelves all in
    has_mark w who.Responder txn.group ≡ true → has_mark w who.Requester txn.group ≡ false
    → found_by txn_held txn (w.shelves txn.group).responder.live.held ≡ Some held
    → AreAtRest (project txn ((retiring_run w (last_word_of txn (w.shelves txn.group))).shelves txn.group))
word_is_enough grows projects reaches after first world stand arrives agree rests all txn held marked unmarked found =
    let w = retiring_run first_marked_shelves all in
    subst (λ d. AreAtRest (project txn d)) (sym (word_run w txn unmarked))
    (desks_word projects reaches after arrives stand agree rests txn (w.shelves txn.group) held
    (retiring_stands after first all txn.group) (shelves_tell grows projects after first world all txn txn.group) found
    (retired_is_over all who.Responder txn.group txn held marked found)
    (retired_is_released all who.Responder txn.group txn held marked found))
