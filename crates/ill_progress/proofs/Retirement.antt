-- A group that is retired keeps its mark, and nothing changes its desk but last words that leave.
use Rattle.std.proofs.Common.{◌≡◌, ℕ, Bool, true, false, not, ◌||◌, if◌then◌else◌, List, [], ◌∷◌, ◌++◌, length, Option, Some}
use Rattle.std.proofs.Common.{None, refl, sym, ap, ◌∙◌, subst, true≢false, zero, suc, nat_le}
use Rattle.std.specs.Prelude.{◌==◌, bytes_eq, slice_get}
use Rattle.std.specs.List.{slice_set}
use Rattle.std.specs.Option.{option_flatten}
use Rattle.std.proofs.lemmas.Bool.{eqb-true}
use Rattle.std.proofs.lemmas.Slice.Eq.{bytes_eq-Decides}
use Rattle.ill_values.specs.declared.apdu.Apdu.{Apdu}
use Rattle.ill_values.specs.TxnId.{Qualifiers}
use Rattle.ill_core.specs.Issued.{message, is_same_txn}
use Rattle.ill_record.specs.declared.role.Role.{Role}
use Rattle.ill_record.specs.declared.role.Role.TheVariants as who
use Rattle.ill_record.specs.Side.{issued_of}
use Rattle.ill_saved.specs.Holdings.{DeskEntry}
use Rattle.ill_saved.specs.ManySides.{found_by, txn_held, held_for}
use Rattle.ill_record.proofs.Finding.{same_is}
use Rattle.ill_world.specs.declared.event.DeskEvent.{DeskEvent}
use Rattle.ill_world.specs.declared.event.DeskEvent.TheVariants as events
use Rattle.ill_world.specs.World.{TwoOf, party, with_party, who_of, run_by, sends_by, sent_message, with_sent}
use Rattle.ill_world.specs.Desks.{DeskParty, DeskParties, plain, desk_sends, sent_for, with_sent_for, desks_happen, desks_run}
use Rattle.ill_world.specs.Shelves.{Shelves, ShelfEvent, home, shelves_happen, shelves_run, events_at}
use Rattle.ill_progress.specs.Retirement.{MarkedShelves, has_mark, with_mark, RetiringEvent, on_shelf, retire, RetiringOutcome}
use Rattle.ill_progress.specs.Retirement.{at_desk, no_desk, done, not_now, is_last_word, can_happen, are_loans_over, opens_desk}
use Rattle.ill_progress.specs.Retirement.{retiring_happens, retiring_run, shelf_event_of, shelf_events_of, events_named}
use Rattle.ill_progress.specs.Retirement.{IsKeptByBoth, marked_shelves_happen, retires}
use Rattle.ill_world.proofs.Projections.{sent_after}

-- ---- the two cases of an event

-- Returns the outcome of an event of shelves, and the shelves after it. If `happens` is false, nothing changes.
abbrev pub after_if : MarkedShelves → ShelfEvent → Bool → RetiringOutcome × MarkedShelves
after_if w e happens =
    let after = shelves_happen w.shelves e in
    if happens then (at_desk after.0, record w { shelves = after.1 }) else (no_desk, w)

-- Returns the outcome of a retirement, and the shelves after it. `marked` says that there is a mark already. `over`
-- says that all committed loans are over.
abbrev pub retired_if : MarkedShelves → Role → List ℕ → Bool → Bool → RetiringOutcome × MarkedShelves
retired_if w role group marked over =
    if marked then (done, w)
    else if over
    then (
      done,
      record {
        shelves = (shelves_happen w.shelves (opens_desk role group)).1;
        marks = with_mark w.marks role group;
      },
    )
    else (not_now, w)

-- A library without a mark may open its desk.
opens : (w : MarkedShelves) (role : Role) (group : List ℕ) → has_mark w role group ≡ false
    → can_happen w (opens_desk role group) ≡ true
opens w role group unmarked = ap (λ b. not b || false) unmarked

-- Premises: `P` holds of the shelves of `w` (`same`). It holds of those after each event of shelves that can happen
-- (`leads`).
module _ (P : Shelves → Type 0) (w : MarkedShelves) (same : P w.shelves)
    (leads : (e : ShelfEvent) → can_happen w e ≡ true → P (shelves_happen w.shelves e).1) where
  -- An event of shelves keeps `P`.
  shelf_keeps : (e : ShelfEvent) (happens : Bool) → can_happen w e ≡ happens → P (after_if w e happens).1.shelves
  shelf_keeps e true can = leads e can
  shelf_keeps e false can = same

  -- A retirement keeps `P`.
  retired_keeps : (role : Role) (group : List ℕ) (marked over : Bool) → has_mark w role group ≡ marked
      → P (retired_if w role group marked over).1.shelves
  retired_keeps role group true over is = same
  retired_keeps role group false true is = leads (opens_desk role group) (opens w role group is)
  retired_keeps role group false false is = same

  -- A retiring event keeps `P`.
  step_keeps : (event : RetiringEvent) → P (retiring_happens w event).1.shelves
  step_keeps (on_shelf e) = shelf_keeps e (can_happen w e) refl
  step_keeps (retire role group) =
      retired_keeps role group (has_mark w role group) (are_loans_over (party (w.shelves group) role)) refl

-- If each event keeps `P`, a run keeps it.
pub run_keeps : (P : MarkedShelves → Type 0)
    → ((w : MarkedShelves) (event : RetiringEvent) → P w → P (retiring_happens w event).1)
    → (w : MarkedShelves) (all : List RetiringEvent) → P w → P (retiring_run w all)
unfolding run_by
run_keeps P keeps w [] holds = holds
run_keeps P keeps w (event ∷ more) holds = run_keeps P keeps (retiring_happens w event).1 more (keeps w event holds)

-- ---- marks

-- A mark stays when a mark is set.
set_stays : (marks : TwoOf Bool) (at role : Role) → party marks role ≡ true → party (with_party marks at true) role ≡ true
set_stays marks who.Requester who.Requester is = refl
set_stays marks who.Requester who.Responder is = is
set_stays marks who.Responder who.Requester is = is
set_stays marks who.Responder who.Responder is = refl

-- An event of shelves changes no mark.
pub marks_same : (w : MarkedShelves) (e : ShelfEvent) (happens : Bool) → (after_if w e happens).1.marks ≡ w.marks
marks_same w e true = refl
marks_same w e false = refl

-- A retirement keeps each mark.
marks_kept : (w : MarkedShelves) (at : Role) (of : List ℕ) (marked over : Bool) (role : Role) (group : List ℕ)
    → has_mark w role group ≡ true → has_mark (retired_if w at of marked over).1 role group ≡ true
marks_kept w at of true over role group is = is
marks_kept w at of false false role group is = is
marks_kept w at of false true role group is = go (bytes_eq group of)
  where
    -- If `same` is true, `group` is the group that retires.
    go : (same : Bool) → party (if same then with_party (w.marks group) at true else w.marks group) role ≡ true
    go true = set_stays (w.marks group) at role is
    go false = is

-- A retiring event keeps each mark.
mark_kept : (role : Role) (group : List ℕ) (w : MarkedShelves) (event : RetiringEvent) → has_mark w role group ≡ true
    → has_mark (retiring_happens w event).1 role group ≡ true
mark_kept role group w (on_shelf e) is = ap (λ marks. party (marks group) role) (marks_same w e (can_happen w e)) ∙ is
mark_kept role group w (retire at of) is =
    marks_kept w at of (has_mark w at of) (are_loans_over (party (w.shelves of) at)) role group is

-- A mark stays after any events.
pub mark_stays : (w : MarkedShelves) (all : List RetiringEvent) (role : Role) (group : List ℕ) → has_mark w role group ≡ true
    → has_mark (retiring_run w all) role group ≡ true
mark_stays w all role group is = run_keeps (λ v. has_mark v role group ≡ true) (mark_kept role group) w all is

-- ---- a desk that is retired

-- The sides of a desk are unchanged, in memory and committed.
abbrev SameSides : DeskParty → DeskParty → Type 0
SameSides old new = (new.live ≡ old.live) × (new.committed ≡ old.committed)

-- A Send leaves the sides of its desk unchanged.
sends_same : (p : DeskParty) (txn : Qualifiers) (n : ℕ) (found : Option DeskEntry) → SameSides p (desk_sends p txn n found).1
sends_same p txn n None = (refl, refl)
sends_same p txn n (Some held) = go (message (issued_of held.side) n) (nat_le n held.released)
  where
    -- A Send changes at most what is sent.
    go : (issued : Option Apdu) (released : Bool)
        → SameSides p (sends_by p (λ a. record p { sent = with_sent_for txn p.sent n a }) issued released).1
    go None released = (refl, refl)
    go (Some a) false = (refl, refl)
    go (Some a) true = (refl, refl)

-- An event that sends no last word cannot happen at a marked desk.
kept_out : {P : Type 0} (marked : Bool) → marked ≡ true → not marked || false ≡ true → P
kept_out true is can = absurd (true≢false (sym can))
kept_out false is can = absurd (true≢false (sym is))

-- An event that can happen leaves the sides of a marked desk unchanged.
desk_same : (w : DeskParties) (marks : TwoOf Bool) (event : DeskEvent) (role : Role) → party marks role ≡ true
    → not (party marks (who_of (plain event))) || is_last_word w event ≡ true
    → SameSides (party w role) (party (desks_happen w event).1 role)
desk_same w marks (events.Wish txn wish) who.Requester is can = kept_out marks.requester is can
desk_same w marks (events.Wish txn wish) who.Responder is can = (refl, refl)
desk_same w marks (events.Deed txn deed today) who.Requester is can = (refl, refl)
desk_same w marks (events.Deed txn deed today) who.Responder is can = kept_out marks.responder is can
desk_same w marks (events.Save who.Requester) who.Requester is can = kept_out marks.requester is can
desk_same w marks (events.Save who.Requester) who.Responder is can = (refl, refl)
desk_same w marks (events.Save who.Responder) who.Requester is can = (refl, refl)
desk_same w marks (events.Save who.Responder) who.Responder is can = kept_out marks.responder is can
desk_same w marks (events.SaveFault who.Requester committed) who.Requester is can = kept_out marks.requester is can
desk_same w marks (events.SaveFault who.Requester committed) who.Responder is can = (refl, refl)
desk_same w marks (events.SaveFault who.Responder committed) who.Requester is can = (refl, refl)
desk_same w marks (events.SaveFault who.Responder committed) who.Responder is can = kept_out marks.responder is can
desk_same w marks (events.Send who.Requester txn n) who.Requester is can = kept_out marks.requester is can
desk_same w marks (events.Send who.Requester txn n) who.Responder is can = (refl, refl)
desk_same w marks (events.Send who.Responder txn n) who.Requester is can = (refl, refl)
desk_same w marks (events.Send who.Responder txn n) who.Responder is can = sends_same w.responder txn n _
desk_same w marks (events.Deliver who.Requester txn n) who.Requester is can = kept_out marks.requester is can
desk_same w marks (events.Deliver who.Requester txn n) who.Responder is can = (refl, refl)
desk_same w marks (events.Deliver who.Responder txn n) who.Requester is can = (refl, refl)
desk_same w marks (events.Deliver who.Responder txn n) who.Responder is can = kept_out marks.responder is can
desk_same w marks (events.Noise who.Requester bytes) who.Requester is can = (refl, refl)
desk_same w marks (events.Noise who.Requester bytes) who.Responder is can = (refl, refl)
desk_same w marks (events.Noise who.Responder bytes) who.Requester is can = (refl, refl)
desk_same w marks (events.Noise who.Responder bytes) who.Responder is can = (refl, refl)
desk_same w marks (events.Restart who.Requester) who.Requester is can = kept_out marks.requester is can
desk_same w marks (events.Restart who.Requester) who.Responder is can = (refl, refl)
desk_same w marks (events.Restart who.Responder) who.Requester is can = (refl, refl)
desk_same w marks (events.Restart who.Responder) who.Responder is can = kept_out marks.responder is can

-- An event of shelves that can happen leaves the sides of a marked desk unchanged.
shelf_same : (w : MarkedShelves) (e : ShelfEvent) (role : Role) (group : List ℕ) → has_mark w role group ≡ true
    → can_happen w e ≡ true → SameSides (party (w.shelves group) role) (party ((shelves_happen w.shelves e).1 group) role)
shelf_same w e role group is can = go (bytes_eq group (home e)) refl
  where
    -- If `same` is true, `group` is the home of the event; if not, its desks stay.
    go : (same : Bool) → bytes_eq group (home e) ≡ same
        → SameSides (party (w.shelves group) role)
        (party (if same then (desks_happen (w.shelves (home e)) e.event).1 else w.shelves group) role)
    go true same =
        let here : group ≡ home e = (bytes_eq-Decides group (home e)).0 same in
        subst (λ g. SameSides (party (w.shelves g) role) (party (desks_happen (w.shelves (home e)) e.event).1 role)) (sym here)
        (desk_same (w.shelves (home e)) (w.marks (home e)) e.event role (subst (λ g. has_mark w role g ≡ true) here is) can)
    go false same = (refl, refl)

-- A retiring event leaves the sides of a marked desk unchanged.
pub step_same : (role : Role) (group : List ℕ) (w : MarkedShelves) (event : RetiringEvent) → has_mark w role group ≡ true
    → SameSides (party (w.shelves group) role) (party ((retiring_happens w event).1.shelves group) role)
step_same role group w event is =
    step_keeps (λ shelves. SameSides (party (w.shelves group) role) (party (shelves group) role)) w (refl, refl)
    (λ e can. shelf_same w e role group is can) event

-- Any events leave the sides of a marked desk unchanged.
pub sides_stay : (w : MarkedShelves) (all : List RetiringEvent) (role : Role) (group : List ℕ) → has_mark w role group ≡ true
    → SameSides (party (w.shelves group) role) (party ((retiring_run w all).shelves group) role)
sides_stay w all role group is =
    (run_keeps
    (λ v. (has_mark v role group ≡ true) × SameSides (party (w.shelves group) role) (party (v.shelves group) role))
    (λ v event holds.
    let new = step_same role group v event holds.0 in
    (mark_kept role group v event holds.0, (new.0 ∙ holds.1.0, new.1 ∙ holds.1.1))) w all (is, (refl, refl))).1

-- ---- a requester's desk that is retired

-- An event that can happen leaves a marked requester's desk unchanged.
requester_same : (w : DeskParties) (marks : TwoOf Bool) (event : DeskEvent) → marks.requester ≡ true
    → not (party marks (who_of (plain event))) || is_last_word w event ≡ true
    → (desks_happen w event).1.requester ≡ w.requester
requester_same w marks (events.Wish txn wish) is can = kept_out marks.requester is can
requester_same w marks (events.Deed txn deed today) is can = refl
requester_same w marks (events.Save who.Requester) is can = kept_out marks.requester is can
requester_same w marks (events.Save who.Responder) is can = refl
requester_same w marks (events.SaveFault who.Requester committed) is can = kept_out marks.requester is can
requester_same w marks (events.SaveFault who.Responder committed) is can = refl
requester_same w marks (events.Send who.Requester txn n) is can = kept_out marks.requester is can
requester_same w marks (events.Send who.Responder txn n) is can = refl
requester_same w marks (events.Deliver who.Requester txn n) is can = kept_out marks.requester is can
requester_same w marks (events.Deliver who.Responder txn n) is can = refl
requester_same w marks (events.Noise who.Requester bytes) is can = refl
requester_same w marks (events.Noise who.Responder bytes) is can = refl
requester_same w marks (events.Restart who.Requester) is can = kept_out marks.requester is can
requester_same w marks (events.Restart who.Responder) is can = refl

-- An event of shelves that can happen leaves a marked requester's desk unchanged.
shelf_requester : (w : MarkedShelves) (e : ShelfEvent) (group : List ℕ) → has_mark w who.Requester group ≡ true
    → can_happen w e ≡ true → ((shelves_happen w.shelves e).1 group).requester ≡ (w.shelves group).requester
shelf_requester w e group is can = go (bytes_eq group (home e)) refl
  where
    -- If `same` is true, `group` is the home of the event; if not, its desks stay.
    go : (same : Bool) → bytes_eq group (home e) ≡ same
        → (if same then (desks_happen (w.shelves (home e)) e.event).1 else w.shelves group).requester
        ≡ (w.shelves group).requester
    go true same =
        let here : group ≡ home e = (bytes_eq-Decides group (home e)).0 same in
        requester_same (w.shelves (home e)) (w.marks (home e)) e.event (subst (λ g. has_mark w who.Requester g ≡ true) here is)
        can
        ∙ ap (λ g. (w.shelves g).requester) (sym here)
    go false same = refl

-- Any events leave a marked requester's desk unchanged.
pub requester_stays : (w : MarkedShelves) (all : List RetiringEvent) (group : List ℕ) → has_mark w who.Requester group ≡ true
    → ((retiring_run w all).shelves group).requester ≡ (w.shelves group).requester
requester_stays w all group is =
    (run_keeps
    (λ v. (has_mark v who.Requester group ≡ true) × ((v.shelves group).requester ≡ (w.shelves group).requester))
    (λ v event holds. (
      mark_kept who.Requester group v event holds.0,
      step_keeps (λ shelves. (shelves group).requester ≡ (v.shelves group).requester) v refl
          (λ e can. shelf_requester v e group holds.0 can) event
          ∙ holds.1,
    )) w all (is, refl)).1

-- ---- a responder's desk that is retired

-- After `a` is put at place i, each other place is unchanged.
set_other : (slots : List (Option Apdu)) (i j : ℕ) (a : Apdu) → (j ≡ i → ⊥)
    → option_flatten (slice_get (slice_set slots i (Some a)) j) ≡ option_flatten (slice_get slots j)
set_other [] i j a apart = refl
set_other (slot ∷ slots) zero zero a apart = absurd (apart refl)
set_other (slot ∷ slots) zero (suc j) a apart = refl
set_other (slot ∷ slots) (suc i) zero a apart = refl
set_other (slot ∷ slots) (suc i) (suc j) a apart = set_other slots i j a (λ is. apart (ap suc is))

-- After `a` is sent as message m, each other message is unchanged.
with_other : (sent : List (Option Apdu)) (m n : ℕ) (a : Apdu) → (n ≡ m → ⊥)
    → sent_message (with_sent sent m a) n ≡ sent_message sent n
with_other sent zero n a apart = refl
with_other sent (suc m) zero a apart = refl
with_other sent (suc m) (suc n) a apart = set_other sent m n a (λ is. apart (ap suc is))

-- A Send of message m in `of` changes no other message that is sent.
sends_silent : (p : DeskParty) (of : Qualifiers) (m : ℕ) (found : Option DeskEntry) (txn : Qualifiers) (n : ℕ)
    → (txn ≡ of → n ≡ m → ⊥)
    → sent_message (sent_for txn (desk_sends p of m found).1.sent) n ≡ sent_message (sent_for txn p.sent) n
sends_silent p of m None txn n apart = refl
sends_silent p of m (Some held) txn n apart = go (message (issued_of held.side) m) (nat_le m held.released)
  where
    -- If `same` is true, `txn` is `of`, and only its message m is sent.
    by : (a : Apdu) (same : Bool) → is_same_txn txn of ≡ same
        → sent_message (if same then with_sent (sent_for of p.sent) m a else sent_for txn p.sent) n
        ≡ sent_message (sent_for txn p.sent) n
    by a true same =
        let is = same_is txn of same in
        with_other (sent_for of p.sent) m n a (apart is) ∙ ap (λ t. sent_message (sent_for t p.sent) n) (sym is)
    by a false same = refl

    -- Message m is sent only if it is issued and released.
    go : (issued : Option Apdu) (released : Bool)
        → sent_message (sent_for txn
        (sends_by {P = DeskParty} p (λ a. record p { sent = with_sent_for of p.sent m a }) issued released).1.sent) n
        ≡ sent_message (sent_for txn p.sent) n
    go None released = refl
    go (Some a) false = refl
    go (Some a) true = ap (λ sent. sent_message sent n) (sent_after txn of p.sent m a) ∙ by a (is_same_txn txn of) refl

-- If an event can happen at a marked desk, it sends a last word.
is_let_out : (marked last : Bool) → marked ≡ true → not marked || last ≡ true → last ≡ true
is_let_out true last is can = can
is_let_out false last is can = absurd (true≢false (sym is))

-- Message n of `txn` that is sent at `new` is that of `old`, or neither desk has sent one.
abbrev SameSent : Qualifiers → ℕ → DeskParty → DeskParty → Type 0
SameSent txn n old new = sent_message (sent_for txn new.sent) n ≡ sent_message (sent_for txn old.sent) n

-- An event that can happen sends no message of a marked responder's desk but last words.
responder_silent : (w : DeskParties) (marks : TwoOf Bool) (event : DeskEvent) (txn : Qualifiers) (n : ℕ)
    → marks.responder ≡ true → not (party marks (who_of (plain event))) || is_last_word w event ≡ true
    → (n ≡ length (issued_of (held_for txn w.responder.live).side) → ⊥)
    → SameSent txn n w.responder (desks_happen w event).1.responder
responder_silent w marks (events.Wish of wish) txn n is can apart = refl
responder_silent w marks (events.Deed of deed today) txn n is can apart = kept_out marks.responder is can
responder_silent w marks (events.Save who.Requester) txn n is can apart = refl
responder_silent w marks (events.Save who.Responder) txn n is can apart = kept_out marks.responder is can
responder_silent w marks (events.SaveFault who.Requester committed) txn n is can apart = refl
responder_silent w marks (events.SaveFault who.Responder committed) txn n is can apart = kept_out marks.responder is can
responder_silent w marks (events.Send who.Requester of m) txn n is can apart = refl
responder_silent w marks (events.Send who.Responder of m) txn n is can apart =
    let last : ℕ = length (issued_of (held_for of w.responder.live).side) in
    let m_is : m ≡ last = eqb-true m last (is_let_out marks.responder (m == last) is can) in
    sends_silent w.responder of m (found_by txn_held of w.responder.live.held) txn n
    (λ same n_is. apart (n_is ∙ m_is ∙ ap (λ t. length (issued_of (held_for t w.responder.live).side)) (sym same)))
responder_silent w marks (events.Deliver who.Requester of m) txn n is can apart = refl
responder_silent w marks (events.Deliver who.Responder of m) txn n is can apart = kept_out marks.responder is can
responder_silent w marks (events.Noise who.Requester bytes) txn n is can apart = refl
responder_silent w marks (events.Noise who.Responder bytes) txn n is can apart = refl
responder_silent w marks (events.Restart who.Requester) txn n is can apart = refl
responder_silent w marks (events.Restart who.Responder) txn n is can apart = kept_out marks.responder is can

-- An event of shelves that can happen sends no message of a marked responder's desk but last words.
shelf_silent : (w : MarkedShelves) (e : ShelfEvent) (group : List ℕ) (txn : Qualifiers) (n : ℕ)
    → has_mark w who.Responder group ≡ true
    → (n ≡ length (issued_of (held_for txn (w.shelves group).responder.live).side) → ⊥) → can_happen w e ≡ true
    → SameSent txn n (w.shelves group).responder ((shelves_happen w.shelves e).1 group).responder
shelf_silent w e group txn n is apart can = go (bytes_eq group (home e)) refl
  where
    -- If `same` is true, `group` is the home of the event; if not, its desks stay.
    go : (same : Bool) → bytes_eq group (home e) ≡ same
        → SameSent txn n (w.shelves group).responder
        (if same then (desks_happen (w.shelves (home e)) e.event).1 else w.shelves group).responder
    go true same =
        let here : group ≡ home e = (bytes_eq-Decides group (home e)).0 same in
        responder_silent (w.shelves (home e)) (w.marks (home e)) e.event txn n
        (subst (λ g. has_mark w who.Responder g ≡ true) here is) can
        (subst (λ g. n ≡ length (issued_of (held_for txn (w.shelves g).responder.live).side) → ⊥) here apart)
        ∙ ap (λ g. sent_message (sent_for txn (w.shelves g).responder.sent) n) (sym here)
    go false same = refl

-- Any events send no message of a marked responder's desk but last words.
pub responder_stays_silent : (w : MarkedShelves) (all : List RetiringEvent) (group : List ℕ) (txn : Qualifiers) (n : ℕ)
    → has_mark w who.Responder group ≡ true
    → (n ≡ length (issued_of (held_for txn (w.shelves group).responder.live).side) → ⊥)
    → SameSent txn n (w.shelves group).responder ((retiring_run w all).shelves group).responder
responder_stays_silent w all group txn n is apart =
    (run_keeps
    (λ v. (has_mark v who.Responder group ≡ true) × ((v.shelves group).responder.live ≡ (w.shelves group).responder.live)
    × SameSent txn n (w.shelves group).responder (v.shelves group).responder)
    (λ v event holds. (
      mark_kept who.Responder group v event holds.0,
      (step_same who.Responder group v event holds.0).0 ∙ holds.1,
      step_keeps (λ shelves. SameSent txn n (v.shelves group).responder (shelves group).responder) v refl
          (λ e can. shelf_silent v e group txn n holds.0
          (subst (λ live. n ≡ length (issued_of (held_for txn live).side) → ⊥) (sym holds.1) apart) can) event
          ∙ holds.2,
    )) w all (is, refl, refl)).2

-- ---- the events that happen

-- The shelves after a retiring event and further events are those after the event of shelves that happens.
event_leads : (w : MarkedShelves) (event : RetiringEvent) (more : List ShelfEvent)
    → shelves_run (retiring_happens w event).1.shelves more ≡ shelves_run w.shelves (shelf_event_of w event ++ more)
unfolding run_by
event_leads w (on_shelf e) more = go (can_happen w e)
  where
    -- The event happens, or leads nowhere.
    go : (happens : Bool) → shelves_run (after_if w e happens).1.shelves more
        ≡ shelves_run w.shelves ((if happens then e ∷ [] else []) ++ more)
    go true = refl
    go false = refl
event_leads w (retire role group) more = go (has_mark w role group) (are_loans_over (party (w.shelves group) role))
  where
    -- A retirement opens the desk if there is no mark, and all loans are over.
    go : (marked over : Bool) → shelves_run (retired_if w role group marked over).1.shelves more
        ≡ shelves_run w.shelves ((if marked then [] else if over then opens_desk role group ∷ [] else []) ++ more)
    go true over = refl
    go false true = refl
    go false false = refl

-- The shelves after retiring events are those after the events of shelves that happen.
pub run_shelves : (w : MarkedShelves) (all : List RetiringEvent)
    → (retiring_run w all).shelves ≡ shelves_run w.shelves (shelf_events_of w all)
unfolding run_by shelf_events_of
run_shelves w [] = refl
run_shelves w (event ∷ more) =
    let next = (retiring_happens w event).1 in
    run_shelves next more ∙ event_leads w event (shelf_events_of next more)

-- ---- a group that neither library has retired

-- If a library has no mark at `group` after an event, it had none before.
unmarked_before : (w : MarkedShelves) (event : RetiringEvent) (role : Role) (group : List ℕ)
    → has_mark (retiring_happens w event).1 role group ≡ false → has_mark w role group ≡ false
unmarked_before w event role group after = go (has_mark w role group) refl
  where
    -- A mark before the event would stay (`mark_kept`).
    go : (marked : Bool) → has_mark w role group ≡ marked → marked ≡ false
    go true is = absurd (true≢false (sym (mark_kept role group w event is) ∙ after))
    go false is = refl

-- If a library has no mark at `group` after further events, it has none before them.
kept_before : (w : MarkedShelves) (all : List RetiringEvent) (role : Role) (group : List ℕ)
    → has_mark (retiring_run w all) role group ≡ false → has_mark w role group ≡ false
kept_before w all role group after = go (has_mark w role group) refl
  where
    -- A mark before the events would stay (`mark_stays`).
    go : (marked : Bool) → has_mark w role group ≡ marked → marked ≡ false
    go true is = absurd (true≢false (sym (mark_stays w all role group is) ∙ after))
    go false is = refl

-- If neither library has retired a group, an event of shelves can happen there.
kept_can : (w : MarkedShelves) (e : ShelfEvent) (role : Role) → IsKeptByBoth w (home e)
    → not (has_mark w role (home e)) || is_last_word (w.shelves (home e)) e.event ≡ true
kept_can w e who.Requester kept = ap (λ b. not b || is_last_word (w.shelves (home e)) e.event) kept.0
kept_can w e who.Responder kept = ap (λ b. not b || is_last_word (w.shelves (home e)) e.event) kept.1

-- If neither library has retired `group`, an event of shelves leads its desks on if its home is there. If not, they
-- stay.
kept_leads : (w : MarkedShelves) (e : ShelfEvent) (group : List ℕ) (more : List DeskEvent) → IsKeptByBoth w group
    → desks_run ((marked_shelves_happen w e).1.shelves group) more
    ≡ desks_run (w.shelves group) (if bytes_eq group (home e) then e.event ∷ more else more)
unfolding run_by
kept_leads w e group more kept = go (bytes_eq group (home e)) (can_happen w e) refl refl
  where
    -- At its home the event can happen (`kept_can`); at another group it changes nothing.
    go : (same happens : Bool) → bytes_eq group (home e) ≡ same → can_happen w e ≡ happens
        → desks_run ((after_if w e happens).1.shelves group) more
        ≡ desks_run (w.shelves group) (if same then e.event ∷ more else more)
    go true true same can =
        let here : group ≡ home e = (bytes_eq-Decides group (home e)).0 same in
        ap (λ b. desks_run (if b then (desks_happen (w.shelves (home e)) e.event).1 else w.shelves group) more) same
        ∙ ap (λ g. desks_run (desks_happen (w.shelves g) e.event).1 more) (sym here)
    go true false same cannot =
        let here : group ≡ home e = (bytes_eq-Decides group (home e)).0 same in
        absurd (true≢false (sym (kept_can w e (who_of (plain e.event)) (subst (IsKeptByBoth w) here kept)) ∙ cannot))
    go false true same can =
        ap (λ b. desks_run (if b then (desks_happen (w.shelves (home e)) e.event).1 else w.shelves group) more) same
    go false false same cannot = refl

-- If a library has no mark at `group` after it retires the group `of`, the desks of `group` are unchanged.
kept_same : (w : MarkedShelves) (role : Role) (of group : List ℕ) → has_mark (retires w role of).1 role group ≡ false
    → (retires w role of).1.shelves group ≡ w.shelves group
kept_same w role of group = go (has_mark w role of) (are_loans_over (party (w.shelves of) role))
  where
    -- A mark that is set is there.
    set : (role : Role) (marks : TwoOf Bool) → party (with_party marks role true) role ≡ true
    set who.Requester marks = refl
    set who.Responder marks = refl

    -- If `group` were the group `of`, its mark would be there.
    by : (same : Bool) → bytes_eq group of ≡ same
        → party (if same then with_party (w.marks group) role true else w.marks group) role ≡ false
        → (if same then (desks_happen (w.shelves of) (events.Restart role)).1 else w.shelves group) ≡ w.shelves group
    by true same unmarked = absurd (true≢false (sym (set role (w.marks group)) ∙ unmarked))
    by false same unmarked = refl

    -- Only a retirement that is done may change desks: one without a mark before, all of whose loans are over.
    go : (marked over : Bool) → has_mark (retired_if w role of marked over).1 role group ≡ false
        → (retired_if w role of marked over).1.shelves group ≡ w.shelves group
    go true over unmarked = refl
    go false true unmarked = by (bytes_eq group of) refl unmarked
    go false false unmarked = refl

-- At a group that is kept to the end, all events happen that are named.
pub kept_run : (w : MarkedShelves) (all : List RetiringEvent) (group : List ℕ) → IsKeptByBoth (retiring_run w all) group
    → (retiring_run w all).shelves group ≡ desks_run (w.shelves group) (events_at group (events_named all))
unfolding run_by events_named
kept_run w [] group kept = refl
kept_run w (on_shelf e ∷ more) group kept =
    let next = (marked_shelves_happen w e).1 in
    kept_run next more group kept
    ∙ kept_leads w e group (events_at group (events_named more))
    (kept_before w (on_shelf e ∷ more) who.Requester group kept.0, kept_before w (on_shelf e ∷ more) who.Responder group kept.1)
kept_run w (retire role of ∷ more) group kept =
    let next = (retires w role of).1 in
    kept_run next more group kept
    ∙ ap (λ v. desks_run v (events_at group (events_named more)))
    (kept_same w role of group (unmarked next role kept))
  where
    -- Library `role` has no mark before `more`, since it has none after.
    unmarked : (v : MarkedShelves) (role : Role) → IsKeptByBoth (retiring_run v more) group → has_mark v role group ≡ false
    unmarked v who.Requester kept = kept_before v more who.Requester group kept.0
    unmarked v who.Responder kept = kept_before v more who.Responder group kept.1
