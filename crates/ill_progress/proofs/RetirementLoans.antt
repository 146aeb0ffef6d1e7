-- All loans of a retired group are over. A group that neither library has retired has its nights.
use Rattle.std.proofs.Common.{arith, ◌≡◌, ℕ, Bool, true, false, if◌then◌else◌, List, [], ◌∷◌, length, map, nat_le, Some, refl}
use Rattle.std.proofs.Common.{sym, ap}
use Rattle.std.proofs.Common.{◌∙◌, subst, true≢false}
use Rattle.std.specs.Prelude.{bytes_eq}
use Rattle.std.specs.List.{list_all}
use Rattle.std.proofs.lemmas.Bool.{and_parts, and_from, le-leb}
use Rattle.ill_values.specs.TxnId.{Qualifiers}
use Rattle.ill_record.specs.declared.role.Role.{Role}
use Rattle.ill_record.specs.declared.role.Role.TheVariants as who
use Rattle.ill_record.specs.declared.side.Side.{Side}
use Rattle.ill_record.specs.Side.{issued_of}
use Rattle.ill_saved.specs.Holdings.{DeskEntry, whole}
use Rattle.ill_saved.specs.ManySides.{found_by, txn_held, found_or, idle_held}
use Rattle.ill_record.proofs.Finding.{found_passes}
use Rattle.ill_words.specs.Sending.{is_over}
use Rattle.ill_world.specs.declared.event.DeskEvent.TheVariants as events
use Rattle.ill_world.specs.World.{TwoOf, Parties, party, with_party, run_by}
use Rattle.ill_world.specs.Desks.{DeskParty, DeskParties, first_desks, desks_happen, desks_run, project}
use Rattle.ill_world.specs.DeskSafety.{DesksInvariant}
use Rattle.ill_world.specs.Invariant.{Invariant}
use Rattle.ill_world.specs.Round.{CanAnswer}
use Rattle.ill_world.specs.Night.{AreAtRest, AreConvergedOrAtRest}
use Rattle.ill_world.specs.DeskNight.{desk_night_of}
use Rattle.ill_world.specs.Shelves.{ShelfEvent, first_shelves, shelves_run, in_group, events_at}
use Rattle.ill_world.proofs.Desks.{EachStands, desks_stand_on}
use Rattle.ill_world.proofs.Shelves.{shelves_run_at}
use Rattle.ill_progress.specs.Retirement.{MarkedShelves, first_marked_shelves, has_mark, RetiringEvent, on_shelf, retire}
use Rattle.ill_progress.specs.Retirement.{are_loans_over}
use Rattle.ill_progress.specs.Retirement.{marked_shelves_happen, can_happen, retiring_happens, retiring_run, shelf_events_of}
use Rattle.ill_progress.specs.Retirement.{events_named, IsKeptByBoth}
use Rattle.ill_progress.proofs.Retirement.{retired_if, run_keeps, marks_same, step_same, run_shelves, kept_run}

-- ---- loans that are over

-- An entry of a loan that is over passes `test`, if all its messages are released.
module _ (test : DeskEntry → Bool) (passes : (side : Side) → is_over side ≡ true → test (whole side) ≡ true) where
  -- All entries of a desk pass the test.
  abbrev AllPass : DeskParty → Type 0
  AllPass p = list_all test p.live.held ≡ true

  -- If loans are over, their entries pass the test, with all messages released.
  whole_pass : (all : List Side) → list_all is_over all ≡ true → list_all test (map whole all) ≡ true
  whole_pass [] over = refl
  whole_pass (side ∷ more) over =
      let parts = and_parts (is_over side) (list_all is_over more) over in
      and_from _ _ (passes side parts.0) (whole_pass more parts.1)

  -- If the mark of `role` is new, it is the library `at` that retires. The loans of its desk are over, so all entries
  -- pass the test after the restart.
  opened_pass : (desks : DeskParties) (marks : TwoOf Bool) (at role : Role) → are_loans_over (party desks at) ≡ true
      → party marks role ≡ false → party (with_party marks at true) role ≡ true
      → AllPass (party (desks_happen desks (events.Restart at)).1 role)
  opened_pass desks marks who.Requester who.Requester over unmarked after = whole_pass desks.requester.committed.sides over
  opened_pass desks marks who.Requester who.Responder over unmarked after = absurd (true≢false (sym after ∙ unmarked))
  opened_pass desks marks who.Responder who.Requester over unmarked after = absurd (true≢false (sym after ∙ unmarked))
  opened_pass desks marks who.Responder who.Responder over unmarked after = whole_pass desks.responder.committed.sides over

  -- If an event sets a mark, all entries of the desk pass the test after it.
  new_mark : (w : MarkedShelves) (event : RetiringEvent) (role : Role) (group : List ℕ) → has_mark w role group ≡ false
      → has_mark (retiring_happens w event).1 role group ≡ true
      → AllPass (party ((retiring_happens w event).1.shelves group) role)
  new_mark w (on_shelf e) role group unmarked after =
      absurd (true≢false
      (sym after ∙ ap (λ marks. party (marks group) role) (marks_same w e (can_happen w e)) ∙ unmarked))
  new_mark w (retire at of) role group unmarked after =
      go (has_mark w at of) (are_loans_over (party (w.shelves of) at)) refl after
    where
      -- Only at the group `of` is the mark new.
      here : (same : Bool) → bytes_eq group of ≡ same → are_loans_over (party (w.shelves of) at) ≡ true
          → party (if same then with_party (w.marks group) at true else w.marks group) role ≡ true
          → AllPass (party (if same then (desks_happen (w.shelves of) (events.Restart at)).1 else w.shelves group) role)
      here true same over after = opened_pass (w.shelves of) (w.marks group) at role over unmarked after
      here false same over after = absurd (true≢false (sym after ∙ unmarked))

      -- Only a retirement that is done sets a mark.
      go : (marked over : Bool) → are_loans_over (party (w.shelves of) at) ≡ over
          → has_mark (retired_if w at of marked over).1 role group ≡ true
          → AllPass (party ((retired_if w at of marked over).1.shelves group) role)
      go true over is after = absurd (true≢false (sym after ∙ unmarked))
      go false true is after = here (bytes_eq group of) refl is after
      go false false is after = absurd (true≢false (sym after ∙ unmarked))

  -- All entries of each marked desk pass the test.
  abbrev PassAtMarks : MarkedShelves → Type 0
  PassAtMarks w = (role : Role) (group : List ℕ) → has_mark w role group ≡ true → AllPass (party (w.shelves group) role)

  -- An event keeps `PassAtMarks`.
  pass_after : (w : MarkedShelves) (event : RetiringEvent) → PassAtMarks w → PassAtMarks (retiring_happens w event).1
  pass_after w event pass role group after = go (has_mark w role group) refl
    where
      -- A marked desk keeps its sides; at a new mark `new_mark` holds.
      go : (marked : Bool) → has_mark w role group ≡ marked → AllPass (party ((retiring_happens w event).1.shelves group) role)
      go true is =
          subst (λ live. list_all test live.held ≡ true) (sym (step_same role group w event is).0) (pass role group is)
      go false is = new_mark w event role group is after

  -- At first there is no mark.
  first_pass : PassAtMarks first_marked_shelves
  first_pass who.Requester group is = absurd (true≢false (sym is))
  first_pass who.Responder group is = absurd (true≢false (sym is))

  -- An entry that a marked desk holds passes the test.
  pub retired_passes : (all : List RetiringEvent) (role : Role) (group : List ℕ) (txn : Qualifiers) (held : DeskEntry)
      → has_mark (retiring_run first_marked_shelves all) role group ≡ true
      → found_by txn_held txn (party ((retiring_run first_marked_shelves all).shelves group) role).live.held ≡ Some held
      → test held ≡ true
  retired_passes all role group txn held is found =
      found_passes txn_held test txn (party ((retiring_run first_marked_shelves all).shelves group) role).live.held held
      (run_keeps PassAtMarks pass_after first_marked_shelves all first_pass role group is) found

-- A loan that a marked desk holds is over.
pub retired_is_over : (all : List RetiringEvent) (role : Role) (group : List ℕ) (txn : Qualifiers) (held : DeskEntry)
    → has_mark (retiring_run first_marked_shelves all) role group ≡ true
    → found_by txn_held txn (party ((retiring_run first_marked_shelves all).shelves group) role).live.held ≡ Some held
    → is_over held.side ≡ true
retired_is_over = retired_passes (λ held. is_over held.side) (λ side over. over)

-- A marked desk has released all messages of a loan that it holds.
pub retired_is_released : (all : List RetiringEvent) (role : Role) (group : List ℕ) (txn : Qualifiers) (held : DeskEntry)
    → has_mark (retiring_run first_marked_shelves all) role group ≡ true
    → found_by txn_held txn (party ((retiring_run first_marked_shelves all).shelves group) role).live.held ≡ Some held
    → nat_le (length (issued_of held.side)) held.released ≡ true
retired_is_released =
    retired_passes (λ held. nat_le (length (issued_of held.side)) held.released)
    (λ side over. le-leb (length (issued_of side)) (length (issued_of side)) (omega arith))

-- The desks of a group satisfy `DesksInvariant` after any events.
pub retiring_stands : EachStands → DesksInvariant first_desks → (all : List RetiringEvent) (group : List ℕ)
    → DesksInvariant ((retiring_run first_marked_shelves all).shelves group)
retiring_stands after first all group =
    let those = shelf_events_of first_marked_shelves all in
    subst (λ shelves. DesksInvariant (shelves group)) (sym (run_shelves first_marked_shelves all))
    (subst DesksInvariant (sym (shelves_run_at first_shelves group those))
    (desks_stand_on after first_desks (events_at group those) first))

-- If a requester's library has retired a group, both sides of each of its loans are at rest.
pub retired_rests : EachStands → DesksInvariant first_desks
    → ((txn : Qualifiers) (w : Parties) → Invariant txn w → is_over w.requester.live ≡ true → AreAtRest w)
    → (all : List RetiringEvent) (group : List ℕ) (txn : Qualifiers) (held : DeskEntry)
    → has_mark (retiring_run first_marked_shelves all) who.Requester group ≡ true
    → found_by txn_held txn ((retiring_run first_marked_shelves all).shelves group).requester.live.held ≡ Some held
    → AreAtRest (project txn ((retiring_run first_marked_shelves all).shelves group))
retired_rests after first rests all group txn held is found =
    let desks = (retiring_run first_marked_shelves all).shelves group in
    rests txn (project txn desks) ((retiring_stands after first all group).each txn)
    (ap (λ o. is_over (found_or (idle_held desks.requester.live.role txn) o).side) found
    ∙ retired_is_over all who.Requester group txn held is found)

-- ---- nights

-- Events of shelves change no mark.
shelf_marks : (w : MarkedShelves) (all : List ShelfEvent) → (retiring_run w (map on_shelf all)).marks ≡ w.marks
unfolding run_by
shelf_marks w [] = refl
shelf_marks w (e ∷ more) = shelf_marks (marked_shelves_happen w e).1 more ∙ marks_same w e (can_happen w e)

-- Of events of shelves alone, `events_named` returns all.
all_named : (all : List ShelfEvent) → events_named (map on_shelf all) ≡ all
unfolding events_named
all_named [] = refl
all_named (e ∷ more) = ap (λ l. e ∷ l) (all_named more)

-- If neither library has retired a group, events of shelves lead its desks on as if there were no marks.
pub shelf_runs_of_kept : (w : MarkedShelves) (all : List ShelfEvent) (group : List ℕ) → IsKeptByBoth w group
    → (retiring_run w (map on_shelf all)).shelves group ≡ shelves_run w.shelves all group
shelf_runs_of_kept w all group kept =
    kept_run w (map on_shelf all) group
    (subst (λ marks. (party (marks group) who.Requester ≡ false) × (party (marks group) who.Responder ≡ false))
    (sym (shelf_marks w all)) kept)
    ∙ ap (λ l. desks_run (w.shelves group) (events_at group l)) (all_named all)
    ∙ sym (shelves_run_at w.shelves group all)

-- If a night is enough on shelves that retire nothing (first premise), it is for a group neither library has retired.
-- The responder must be able to answer a Conditional-Reply no.
pub night_of_kept : ((txn : Qualifiers) (all : List ShelfEvent) → let w = shelves_run first_shelves all in
    CanAnswer (project txn (w txn.group)).responder.live
    → let night = in_group txn.group (desk_night_of (w txn.group)) in
    AreConvergedOrAtRest (project txn (shelves_run w night txn.group)))
    → (txn : Qualifiers) (all : List RetiringEvent) → let w = retiring_run first_marked_shelves all in IsKeptByBoth w txn.group
    → CanAnswer (project txn (w.shelves txn.group)).responder.live
    → let night = map on_shelf (in_group txn.group (desk_night_of (w.shelves txn.group))) in
    AreConvergedOrAtRest (project txn ((retiring_run w night).shelves txn.group))
night_of_kept nights txn all kept can =
    let w = retiring_run first_marked_shelves all in
    let night = in_group txn.group (desk_night_of (w.shelves txn.group)) in
    subst (λ desks. AreConvergedOrAtRest (project txn desks)) (sym (shelf_runs_of_kept w night txn.group kept))
    (subst (λ shelves. CanAnswer (project txn (shelves txn.group)).responder.live
    → AreConvergedOrAtRest (project txn (shelves_run shelves (in_group txn.group (desk_night_of (shelves txn.group))) txn.group)))
    (sym (run_shelves first_marked_shelves all)) (nights txn (shelf_events_of first_marked_shelves all)) can)
