-- The model of two shelves is this profile's own. A shelf is a folder of the desks of one library. It has one desk for
-- each group of transactions.
use Rattle.std.specs.Prelude.{ℕ, bytes_eq, if◌then◌else◌, List, [], ◌∷◌, map, take}
use Rattle.ill_values.specs.TxnId.{Qualifiers}
use Rattle.ill_world.specs.declared.event.DeskEvent.{DeskEvent}
use Rattle.ill_world.specs.declared.event.DeskEvent.TheVariants.{Wish, Deed, Send, Deliver}
use Rattle.ill_words.specs.declared.outcome.DeskOutcome.{DeskOutcome}
use Rattle.ill_world.specs.World.{run_by}
use Rattle.ill_world.specs.Desks.{DeskParties, first_desks, desks_happen, project}
use Rattle.ill_world.specs.Safety.{Safe}
use Rattle.ill_world.specs.Agreement.{Agrees}

-- ---- the shelves

-- Two shelves have two desks at each group, one of each library.
abbrev pub Shelves : Type 0
Shelves = List ℕ → DeskParties

-- The desks of the first shelves hold nothing, at each group.
abbrev pub first_shelves : Shelves
first_shelves = λ group. first_desks

-- Returns the shelves `w` with `desks` at the group `at`.
abbrev pub with_desks : Shelves → List ℕ → DeskParties → Shelves
with_desks w at desks = λ group. if bytes_eq group at then desks else w group

-- ---- one event

-- An event of shelves is an event of desks, with a group. A restart of a machine is a list of restarts, one for each
-- group.
pub record ShelfEvent : Type 0 where
  pub group : List ℕ
  pub event : DeskEvent

-- Returns the group of the transaction that an event names. An event of a whole desk is of the group `said`.
abbrev pub group_of : List ℕ → DeskEvent → List ℕ
group_of said (Wish txn wish) = txn.group
group_of said (Deed txn deed today) = txn.group
group_of said (Send who txn n) = txn.group
group_of said (Deliver who txn n) = txn.group
group_of said whole = said

-- Returns the group at whose desks the event happens. So a transaction has one home.
abbrev pub home : ShelfEvent → List ℕ
home e = group_of e.group e.event

-- Returns `events`, each with `group`.
abbrev pub in_group : List ℕ → List DeskEvent → List ShelfEvent
in_group group events = map (λ event. record { group = group; event = event }) events

-- Returns the outcome of an event, and the shelves after it. Only the desks at its home change.
abbrev pub shelves_happen : Shelves → ShelfEvent → DeskOutcome × Shelves
shelves_happen w e =
    let after = desks_happen (w (home e)) e.event in
    (after.0, with_desks w (home e) after.1)

-- ---- runs

-- Returns the shelves after `events`, from `w` on.
abbrev pub shelves_run : Shelves → List ShelfEvent → Shelves
shelves_run w events = run_by shelves_happen w events

-- Returns the events that have their home at `group`, in their order.
abbrev pub events_at : List ℕ → List ShelfEvent → List DeskEvent
events_at group [] = []
events_at group (e ∷ events) =
    let others = events_at group events in
    if bytes_eq group (home e) then e.event ∷ others else others

-- Each transaction is safe at the desks of its group, after each prefix of `events` from `w` on.
abbrev pub IsSafeShelfRun : Shelves → List ShelfEvent → Type 0
IsSafeShelfRun w events = (txn : Qualifiers) (n : ℕ) → Safe (project txn (shelves_run w (take n events) txn.group))

-- Both sides of each transaction agree at the desks of its group, after each prefix of `events` from `w` on.
abbrev pub IsAgreeingShelfRun : Shelves → List ShelfEvent → Type 0
IsAgreeingShelfRun w events =
    (txn : Qualifiers) (n : ℕ) → Agrees (project txn (shelves_run w (take n events) txn.group))
