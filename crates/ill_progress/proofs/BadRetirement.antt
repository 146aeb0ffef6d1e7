-- The definitions of a retirement exclude the wrong outcomes, and the wrong shelves after it.
use Rattle.std.proofs.Common.{◌≡◌, inl, inr, ℕ, Bool, true, false, not, ◌&&◌, ◌||◌, if◌then◌else◌, List, [], ◌∷◌, ◌++◌, refl, sym}
use Rattle.std.proofs.Common.{ap}
use Rattle.std.proofs.Common.{◌∙◌, true≢false}
use Rattle.std.specs.Prelude.{◌==◌, bytes_eq}
use Rattle.std.specs.List.{list_all}
use Rattle.std.proofs.lemmas.Bool.{and_from, eqb-true, eq-eqb}
use Rattle.std.proofs.lemmas.Slice.Eq.{bytes_eq-Decides}
use Rattle.ill_record.specs.declared.role.Role.{Role}
use Rattle.ill_record.specs.declared.role.Role.TheVariants as who
use Rattle.ill_record.specs.declared.side.Side.{Side}
use Rattle.ill_record.specs.Side.{other}
use Rattle.ill_words.specs.Sending.{is_over}
use Rattle.ill_world.specs.declared.event.DeskEvent.{DeskEvent}
use Rattle.ill_world.specs.declared.event.DeskEvent.TheVariants as events
use Rattle.ill_world.specs.World.{TwoOf, party, with_party, who_of}
use Rattle.ill_world.specs.Desks.{DeskParties, plain, desks_happen, desk_restarts}
use Rattle.ill_world.specs.Shelves.{ShelfEvent, home}
use Rattle.ill_progress.specs.Retirement.{MarkedShelves, has_mark, RetiringEvent, on_shelf, retire, RetiringOutcome, no_desk}
use Rattle.ill_progress.specs.Retirement.{is_last_word, can_happen, are_loans_over, retiring_happens}
use Rattle.ill_progress.specs.BadRetirement.{IsSend, last_number, sends_on_shelf, Has, IsMishandled, changes_retired}
use Rattle.ill_progress.specs.BadRetirement.{is_told_of_desk}
use Rattle.ill_progress.specs.BadRetirement.{requester_sends, sends_earlier, keeps_last_word, stops_open, changes_mark}
use Rattle.ill_progress.specs.BadRetirement.{changes_group, changes_other, retires_open, refuses_over, retires_again}
use Rattle.ill_progress.proofs.Retirement.{after_if, retired_if, marks_same}

-- ---- events of shelves

-- An event that sends nothing sends no last word.
no_word : (w : DeskParties) (event : DeskEvent) → (IsSend event → ⊥) → is_last_word w event ≡ false
no_word w (events.Wish txn wish) silent = refl
no_word w (events.Deed txn deed today) silent = refl
no_word w (events.Save role) silent = refl
no_word w (events.SaveFault role committed) silent = refl
no_word w (events.Send role txn n) silent = absurd (silent tt)
no_word w (events.Deliver role txn n) silent = refl
no_word w (events.Noise role bytes) silent = refl
no_word w (events.Restart role) silent = refl

-- If the library of an event has a mark, and the event sends no last word, it does not happen.
cannot_happen : (w : MarkedShelves) (e : ShelfEvent) → has_mark w (who_of (plain e.event)) (home e) ≡ true
    → is_last_word (w.shelves (home e)) e.event ≡ false → can_happen w e ≡ false
cannot_happen w e marked none =
    ap (λ b. not b || is_last_word (w.shelves (home e)) e.event) marked ∙ none

-- If `n` is not `last`, the test of both numbers is false.
not_last : (n last : ℕ) → (n ≡ last → ⊥) → (n == last) ≡ false
not_last n last apart = go (n == last) refl
  where
    -- If the test were true, the numbers would be equal.
    go : (same : Bool) → (n == last) ≡ same → same ≡ false
    go true same = absurd (apart (eqb-true n last same))
    go false same = refl

-- If an event cannot happen, the shelves stay, and its outcome is `no_desk`.
stays_if : (w : MarkedShelves) (e : ShelfEvent) → can_happen w e ≡ false → retiring_happens w (on_shelf e) ≡ (no_desk, w)
stays_if w e none = ap (after_if w e) none

-- If an event can happen, it has its outcome of desks, and leads to its shelves.
goes_if : (w : MarkedShelves) (e : ShelfEvent) → can_happen w e ≡ true
    → retiring_happens w (on_shelf e) ≡ after_if w e true
goes_if w e can = ap (after_if w e) can

-- ---- retirements

-- If each side that `all` has is over, the test of all sides is true.
each_over : (all : List Side) → ((side : Side) → Has all side → is_over side ≡ true) → list_all is_over all ≡ true
each_over [] over = refl
each_over (side ∷ more) over =
    and_from _ _ (over side ([], more, refl))
    (each_over more (λ another has. over another (side ∷ has.0, has.1, ap (λ l. side ∷ l) has.2)))

-- If a list has a loan that is open, not all are over.
one_open : (before after : List Side) (side : Side) → is_over side ≡ false → list_all is_over (before ++ side ∷ after) ≡ false
one_open [] after side is = go (is_over side) is
  where
    -- The open `side` makes the test of the whole list false.
    go : (over : Bool) → over ≡ false → over && list_all is_over after ≡ false
    go true is = absurd (true≢false is)
    go false is = refl
one_open (first ∷ before) after side is = go (is_over first) (one_open before after side is)
  where
    -- The first side may be over or not: the open `side` is among those after it.
    go : (over : Bool) → list_all is_over (before ++ side ∷ after) ≡ false
        → over && list_all is_over (before ++ side ∷ after) ≡ false
    go true is = is
    go false is = refl

-- The test of a group with itself is true.
self : (group : List ℕ) → bytes_eq group group ≡ true
self group = (bytes_eq-Decides group group).1 refl

-- If `another` is not `group`, the test of both is false.
apart_from : (another group : List ℕ) → (another ≡ group → ⊥) → bytes_eq another group ≡ false
apart_from another group apart = go (bytes_eq another group) refl
  where
    -- If the test were true, the groups would be equal.
    go : (same : Bool) → bytes_eq another group ≡ same → same ≡ false
    go true same = absurd (apart ((bytes_eq-Decides another group).0 same))
    go false same = refl

-- A retirement leaves the desks of another group unchanged.
group_same : (w : MarkedShelves) (role : Role) (group another : List ℕ) (marked over : Bool) → bytes_eq another group ≡ false
    → (retired_if w role group marked over).1.shelves another ≡ w.shelves another
group_same w role group another true over apart = refl
group_same w role group another false true apart =
    ap (λ b. if b then (desks_happen (w.shelves group) (events.Restart role)).1 else w.shelves another) apart
group_same w role group another false false apart = refl

-- A retirement leaves the marks of another group unchanged.
group_marks : (w : MarkedShelves) (role : Role) (group another : List ℕ) (marked over : Bool) → bytes_eq another group ≡ false
    → (retired_if w role group marked over).1.marks another ≡ w.marks another
group_marks w role group another true over apart = refl
group_marks w role group another false true apart =
    ap (λ b. if b then with_party (w.marks another) role true else w.marks another) apart
group_marks w role group another false false apart = refl

-- A restart of one desk leaves the other one unchanged.
other_desk : (role : Role) (desks : DeskParties)
    → party (desks_happen desks (events.Restart role)).1 (other role) ≡ party desks (other role)
other_desk who.Requester desks = refl
other_desk who.Responder desks = refl

-- A mark of one library leaves that of the other one unchanged.
other_mark : (role : Role) (marks : TwoOf Bool) → party (with_party marks role true) (other role) ≡ party marks (other role)
other_mark who.Requester marks = refl
other_mark who.Responder marks = refl

-- A retirement leaves the desk of the other library unchanged.
library_same : (w : MarkedShelves) (role : Role) (group : List ℕ) (marked over : Bool)
    → party ((retired_if w role group marked over).1.shelves group) (other role) ≡ party (w.shelves group) (other role)
library_same w role group true over = refl
library_same w role group false true =
    ap (λ b. party (if b then (desks_happen (w.shelves group) (events.Restart role)).1 else w.shelves group) (other role))
    (self group)
    ∙ other_desk role (w.shelves group)
library_same w role group false false = refl

-- A retirement leaves the mark of the other library unchanged.
library_mark : (w : MarkedShelves) (role : Role) (group : List ℕ) (marked over : Bool)
    → has_mark (retired_if w role group marked over).1 (other role) group ≡ has_mark w (other role) group
library_mark w role group true over = refl
library_mark w role group false true =
    ap (λ b. party (if b then with_party (w.marks group) role true else w.marks group) (other role)) (self group)
    ∙ other_mark role (w.marks group)
library_mark w role group false false = refl

-- A mark that is set is there.
own_mark : (role : Role) (marks : TwoOf Bool) → party (with_party marks role true) role ≡ true
own_mark who.Requester marks = refl
own_mark who.Responder marks = refl

-- After its restart a desk is the committed one.
own_desk : (role : Role) (desks : DeskParties)
    → party (desks_happen desks (events.Restart role)).1 role ≡ desk_restarts (party desks role)
own_desk who.Requester desks = refl
own_desk who.Responder desks = refl

-- If a retirement is done, the mark is there.
mark_there : (w : MarkedShelves) (role : Role) (group : List ℕ)
    → has_mark (retired_if w role group false true).1 role group ≡ true
mark_there w role group =
    ap (λ b. party (if b then with_party (w.marks group) role true else w.marks group) role) (self group)
    ∙ own_mark role (w.marks group)

-- If a retirement is done, the desk is the committed one.
desk_there : (w : MarkedShelves) (role : Role) (group : List ℕ)
    → party ((retired_if w role group false true).1.shelves group) role ≡ desk_restarts (party (w.shelves group) role)
desk_there w role group =
    ap (λ b. party (if b then (desks_happen (w.shelves group) (events.Restart role)).1 else w.shelves group) role) (self group)
    ∙ own_desk role (w.shelves group)

-- A retirement does as `retired_if` says of the mark (`marked`) and of the test of the committed loans (`over`).
retires_as : (w : MarkedShelves) (role : Role) (group : List ℕ) (marked over : Bool) → has_mark w role group ≡ marked
    → are_loans_over (party (w.shelves group) role) ≡ over
    → retiring_happens w (retire role group) ≡ retired_if w role group marked over
retires_as w role group marked over is loans =
    ap (λ b. retired_if w role group b (are_loans_over (party (w.shelves group) role))) is
    ∙ ap (retired_if w role group marked) loans

-- A disjunction with `true` is true.
or_true : (b : Bool) → b || true ≡ true
or_true true = refl
or_true false = refl

-- ---- all cases

-- No retiring event is mishandled. Each case is against a lemma: on events that can happen (`stays_if`, `goes_if`), or
-- on retirements (`retires_as`).
pub none_mishandled : (w : MarkedShelves) (event : RetiringEvent)
    → IsMishandled w (retiring_happens w event).0 (retiring_happens w event).1 event → ⊥
none_mishandled w _ (changes_retired e marked silent changed) =
    changed (ap (λ (after : RetiringOutcome × MarkedShelves). after.1.shelves (home e))
    (stays_if w e (cannot_happen w e marked (no_word (w.shelves (home e)) e.event silent))))
none_mishandled w _ (is_told_of_desk e marked silent told) =
    told (ap (λ (after : RetiringOutcome × MarkedShelves). after.0)
    (stays_if w e (cannot_happen w e marked (no_word (w.shelves (home e)) e.event silent))))
none_mishandled w _ (requester_sends said txn n marked changed) =
    let e = sends_on_shelf said who.Requester txn n in
    changed (ap (λ (after : RetiringOutcome × MarkedShelves). after.1.shelves txn.group)
    (stays_if w e (cannot_happen w e marked refl)))
none_mishandled w _ (sends_earlier said txn n marked apart changed) =
    let e = sends_on_shelf said who.Responder txn n in
    changed (ap (λ (after : RetiringOutcome × MarkedShelves). after.1.shelves txn.group)
    (stays_if w e (cannot_happen w e marked (not_last n (last_number txn (w.shelves txn.group)) apart))))
none_mishandled w _ (keeps_last_word said txn n is changed) =
    let e = sends_on_shelf said who.Responder txn n in
    let unmarked = not (has_mark w who.Responder txn.group) in
    changed (ap (λ (after : RetiringOutcome × MarkedShelves). after.1.shelves)
    (goes_if w e (ap (λ b. unmarked || b) (eq-eqb n (last_number txn (w.shelves txn.group)) is) ∙ or_true unmarked)))
none_mishandled w _ (stops_open e unmarked wrong) =
    let is = goes_if w e (ap (λ b. not b || is_last_word (w.shelves (home e)) e.event) unmarked) in
    elim wrong [
      | inl told ↦ told (ap (λ (after : RetiringOutcome × MarkedShelves). after.0) is)
      | inr changed ↦ changed (ap (λ (after : RetiringOutcome × MarkedShelves). after.1.shelves) is)
    ]
none_mishandled w _ (changes_mark e changed) = changed (marks_same w e (can_happen w e))
none_mishandled w _ (changes_group role group another apart wrong) =
    let marked = has_mark w role group in
    let over = are_loans_over (party (w.shelves group) role) in
    elim wrong [
      | inl changed ↦ changed (group_same w role group another marked over (apart_from another group apart))
      | inr changed ↦ changed (group_marks w role group another marked over (apart_from another group apart))
    ]
none_mishandled w _ (changes_other role group wrong) =
    let marked = has_mark w role group in
    let over = are_loans_over (party (w.shelves group) role) in
    elim wrong [
      | inl changed ↦ changed (library_same w role group marked over)
      | inr changed ↦ changed (library_mark w role group marked over)
    ]
none_mishandled w _ (retires_open role group side unmarked has is wrong) =
    let stays = retires_as w role group false false unmarked
    (ap (list_all is_over) has.2 ∙ one_open has.0 has.1 side is) in
    elim wrong [
      | inl told ↦ told (ap (λ (after : RetiringOutcome × MarkedShelves). after.0) stays)
      | inr changed ↦ changed (ap (λ (after : RetiringOutcome × MarkedShelves). after.1) stays)
    ]
none_mishandled w _ (refuses_over role group unmarked over wrong) =
    let goes = retires_as w role group false true unmarked (each_over (party (w.shelves group) role).committed.sides over) in
    elim wrong [
      | inl told ↦ told (ap (λ (after : RetiringOutcome × MarkedShelves). after.0) goes)
      | inr (inl none) ↦ true≢false (sym (mark_there w role group)
          ∙ sym (ap (λ (after : RetiringOutcome × MarkedShelves). has_mark after.1 role group) goes) ∙ none)
      | inr (inr other) ↦ other (ap (λ (after : RetiringOutcome × MarkedShelves). party (after.1.shelves group) role) goes
          ∙ desk_there w role group)
    ]
none_mishandled w _ (retires_again role group marked wrong) =
    let again = retires_as w role group true (are_loans_over (party (w.shelves group) role)) marked refl in
    elim wrong [
      | inl told ↦ told (ap (λ (after : RetiringOutcome × MarkedShelves). after.0) again)
      | inr changed ↦ changed (ap (λ (after : RetiringOutcome × MarkedShelves). after.1) again)
    ]
