-- A library may retire a group of its shelf, by the command `retire`. Then a mark stays in place of the desk. The model
-- of shelves with marks is this profile's own.
use Rattle.std.specs.Prelude.{◌≡◌, ℕ, Bool, true, false, not, ◌||◌, ◌==◌, bytes_eq, if◌then◌else◌, List, [], ◌∷◌, ◌++◌, length}
use Rattle.std.specs.Prelude.{take}
use Rattle.std.specs.List.{list_all}
use Rattle.ill_values.specs.TxnId.{Qualifiers}
use Rattle.ill_record.specs.declared.role.Role.{Role}
use Rattle.ill_record.specs.declared.role.Role.TheVariants.{Requester, Responder}
use Rattle.ill_record.specs.Side.{issued_of}
use Rattle.ill_saved.specs.ManySides.{held_for}
use Rattle.ill_words.specs.Sending.{is_over}
use Rattle.ill_words.specs.declared.outcome.DeskOutcome.{DeskOutcome}
use Rattle.ill_world.specs.declared.event.DeskEvent.{DeskEvent}
use Rattle.ill_world.specs.declared.event.DeskEvent.TheVariants.{Send, Deliver, Restart}
use Rattle.ill_world.specs.World.{TwoOf, party, with_party, who_of, run_by}
use Rattle.ill_world.specs.Desks.{DeskParty, DeskParties, plain, project}
use Rattle.ill_world.specs.Shelves.{Shelves, ShelfEvent, first_shelves, home, shelves_happen}
use Rattle.ill_world.specs.Safety.{Safe}
use Rattle.ill_world.specs.Agreement.{Agrees}

-- ---- the marks

-- Gives for each group the marks of both libraries there: true if the library has retired the group.
abbrev pub Marks : Type 0
Marks = List ℕ → TwoOf Bool

-- Two shelves, with the marks of the groups that each library has retired.
pub record MarkedShelves : Type 0 where
  pub shelves : Shelves
  pub marks : Marks

-- The first shelves hold nothing, and no group of them is retired.
abbrev pub first_marked_shelves : MarkedShelves
first_marked_shelves = record { shelves = first_shelves; marks = λ group. record { requester = false; responder = false } }

-- Returns true if library `who` has retired `group`.
abbrev pub has_mark : MarkedShelves → Role → List ℕ → Bool
has_mark w who group = party (w.marks group) who

-- Returns `marks` with one more mark: that of `who` at the group `at`.
abbrev pub with_mark : Marks → Role → List ℕ → Marks
with_mark marks who at = λ group. if bytes_eq group at then with_party (marks group) who true else marks group

-- ---- one event

-- An event is one of shelves, or library `who` retires a group.
pub data RetiringEvent : Type 0 where
  on_shelf : ShelfEvent → RetiringEvent
  retire : (who : Role) (group : List ℕ) → RetiringEvent

-- The outcome of a retiring event.
pub data RetiringOutcome : Type 0 where
  -- An event of shelves happened, with this outcome at the desk.
  at_desk : DeskOutcome → RetiringOutcome
  -- An event of shelves did not happen: there is no desk any more, only a mark.
  no_desk : RetiringOutcome
  -- The group has a mark after a retirement: it was set now, or before.
  done : RetiringOutcome
  -- A committed loan of the desk is not over, so a retirement changed nothing.
  not_now : RetiringOutcome

-- Returns true if the event sends a last word: the last message of a loan, as the responder's desk holds it. Only a
-- responder's mark has last words.
abbrev pub is_last_word : DeskParties → DeskEvent → Bool
is_last_word w (Send Responder txn n) = n == length (issued_of (held_for txn w.responder.live).side)
is_last_word w other = false

-- Returns true if the event can happen: its library has not retired its group, or the event sends a last word.
abbrev pub can_happen : MarkedShelves → ShelfEvent → Bool
can_happen w e = not (has_mark w (who_of (plain e.event)) (home e)) || is_last_word (w.shelves (home e)) e.event

-- Returns the outcome of an event of shelves, and the shelves after it.
abbrev pub marked_shelves_happen : MarkedShelves → ShelfEvent → RetiringOutcome × MarkedShelves
marked_shelves_happen w e =
    let after = shelves_happen w.shelves e in
    if can_happen w e then (at_desk after.0, record w { shelves = after.1 }) else (no_desk, w)

-- Returns true if all loans in the committed record of a desk are over.
abbrev pub are_loans_over : DeskParty → Bool
are_loans_over p = list_all is_over p.committed.sides

-- Returns the event of shelves that opens the desk of `who` at `group`. As at a restart, it has what is committed.
abbrev pub opens_desk : Role → List ℕ → ShelfEvent
opens_desk who group = record { group = group; event = Restart who }

-- Returns the outcome of the retirement of `group` by `who`, and the shelves after it. If there is a mark already,
-- nothing changes. If all committed loans are over, the desk is opened, and the mark is set. If a committed loan is not
-- over, nothing changes.
abbrev pub retires : MarkedShelves → Role → List ℕ → RetiringOutcome × MarkedShelves
retires w who group =
    if has_mark w who group then (done, w)
    else if are_loans_over (party (w.shelves group) who)
    then (
      done,
      record {
        shelves = (shelves_happen w.shelves (opens_desk who group)).1;
        marks = with_mark w.marks who group;
      },
    )
    else (not_now, w)

-- Returns the outcome of a retiring event, and the shelves after it.
abbrev pub retiring_happens : MarkedShelves → RetiringEvent → RetiringOutcome × MarkedShelves
retiring_happens w (on_shelf e) = marked_shelves_happen w e
retiring_happens w (retire who group) = retires w who group

-- ---- runs

-- Returns the shelves after `events`, from `w` on.
abbrev pub retiring_run : MarkedShelves → List RetiringEvent → MarkedShelves
retiring_run w events = run_by retiring_happens w events

-- Returns the event of shelves that happens at a retiring event, if one does. A retirement that is done opens the desk.
abbrev pub shelf_event_of : MarkedShelves → RetiringEvent → List ShelfEvent
shelf_event_of w (on_shelf e) = if can_happen w e then e ∷ [] else []
shelf_event_of w (retire who group) =
    if has_mark w who group then []
    else if are_loans_over (party (w.shelves group) who) then opens_desk who group ∷ [] else []

-- Returns the events of shelves that happen at `events`, in their order.
unfoldable pub shelf_events_of : MarkedShelves → List RetiringEvent → List ShelfEvent
shelf_events_of w [] = []
shelf_events_of w (event ∷ events) =
    shelf_event_of w event ++ shelf_events_of (retiring_happens w event).1 events

-- Each transaction is safe at the desks of its group, after each prefix of `events` from `w` on.
abbrev pub IsSafeRetiringRun : MarkedShelves → List RetiringEvent → Type 0
IsSafeRetiringRun w events =
    (txn : Qualifiers) (n : ℕ) → Safe (project txn ((retiring_run w (take n events)).shelves txn.group))

-- Both sides of each transaction agree at the desks of its group, after each prefix of `events` from `w` on.
abbrev pub IsAgreeingRetiringRun : MarkedShelves → List RetiringEvent → Type 0
IsAgreeingRetiringRun w events =
    (txn : Qualifiers) (n : ℕ) → Agrees (project txn ((retiring_run w (take n events)).shelves txn.group))

-- Returns the events of shelves that `events` name, without the retirements. A mark may keep some from happening.
unfoldable pub events_named : List RetiringEvent → List ShelfEvent
events_named [] = []
events_named (on_shelf e ∷ events) = e ∷ events_named events
events_named (retire who group ∷ events) = events_named events

-- Neither library has retired `group`.
abbrev pub IsKeptByBoth : MarkedShelves → List ℕ → Type 0
IsKeptByBoth w group = (has_mark w Requester group ≡ false) × (has_mark w Responder group ≡ false)

-- Returns the events by which the last word of `txn` leaves the responder's desk of `w`, and arrives at the
-- requester's.
abbrev pub last_word_of : Qualifiers → DeskParties → List RetiringEvent
last_word_of txn w =
    let last = length (issued_of (held_for txn w.responder.live).side) in
    on_shelf (record { group = txn.group; event = Send Responder txn last })
    ∷ on_shelf (record { group = txn.group; event = Deliver Requester txn last }) ∷ []
