-- All events of a night of the desks of a group have their home at this group.
use Rattle.std.proofs.Common.{◌≡◌, ℕ, Bool, true, false, cond, if◌then◌else◌, List, [], ◌∷◌, ◌++◌, length, map, refl, sym, ap}
use Rattle.std.proofs.Common.{◌∙◌, subst, true≢false}
use Rattle.std.specs.Prelude.{bytes_eq, filter, flat_map}
use Rattle.std.proofs.lemmas.Bool.{or_parts}
use Rattle.std.proofs.lemmas.Slice.Eq.{bytes_eq-Decides}
use Rattle.ill_values.specs.TxnId.{Qualifiers}
use Rattle.ill_core.specs.Issued.{is_same_txn}
use Rattle.ill_record.specs.declared.role.Role.{Role}
use Rattle.ill_record.specs.declared.role.Role.TheVariants as who
use Rattle.ill_record.specs.declared.side.Side.{Side}
use Rattle.ill_record.specs.Side.{issued_of, txn_of}
use Rattle.ill_saved.specs.Holdings.{DeskEntry}
use Rattle.ill_saved.specs.ManySides.{txn_held, sides_held}
use Rattle.ill_record.proofs.Finding.{same_self}
use Rattle.ill_world.specs.declared.event.Event.{Event}
use Rattle.ill_world.specs.declared.event.Event.TheVariants as events
use Rattle.ill_world.specs.declared.event.DeskEvent.{DeskEvent}
use Rattle.ill_world.specs.Desks.{DeskParties, first_desks, desks_happen, desks_run}
use Rattle.ill_world.specs.DeskScript.{in_txn}
use Rattle.ill_world.specs.DeskCounts.{is_one_of}
use Rattle.ill_world.specs.DeskSafety.{DesksInvariant}
use Rattle.ill_world.specs.Round.{sends_and_delivers}
use Rattle.ill_world.specs.DeskRound.{passes_side}
use Rattle.ill_words.specs.Sending.{wants_sending}
use Rattle.ill_world.specs.DeskNight.{desk_half_if, is_asked_by, desk_asking_half, desk_night_of}
use Rattle.ill_world.specs.Shelves.{ShelfEvent, group_of, in_group, events_at}
use Rattle.ill_world.proofs.Parties.{RowsGrow}
use Rattle.ill_world.proofs.Runs.{run_both}
use Rattle.ill_world.proofs.Desks.{EachStands}
use Rattle.ill_world.proofs.Shelves.{BothLack, lack_elsewhere, group_in_order}

-- ---- events that have their home at a group

-- These lemmas are about the two desks of `group`.
module _ (group : List ℕ) where
  -- Each of the events, given with `group`, has its home at `group`.
  abbrev pub AllAt : List DeskEvent → Type 0
  AllAt [] = Unit {0}
  AllAt (event ∷ more) = (group_of group event ≡ group) × AllAt more

  -- If all events have their home at the group, `events_at` returns all of them.
  pub all_at : (all : List DeskEvent) → AllAt all → events_at group (in_group group all) ≡ all
  all_at [] at = refl
  all_at (event ∷ more) at =
      let others = events_at group (in_group group more) in
      ap (λ b. if b then event ∷ others else others) ((bytes_eq-Decides group (group_of group event)).1 (sym at.0))
      ∙ ap (λ l. event ∷ l) (all_at more at.1)

  -- If two lists of events have their home at the group, so has the joined list.
  both_at : (first second : List DeskEvent) → AllAt first → AllAt second → AllAt (first ++ second)
  both_at [] second at second_at = second_at
  both_at (event ∷ first) second at second_at = (at.0, both_at first second at.1 second_at)

  -- An event in a transaction of the group has its home at the group.
  event_at : (txn : Qualifiers) (event : Event) → txn.group ≡ group → group_of group (in_txn txn event) ≡ group
  event_at txn (events.Wish wish) is = is
  event_at txn (events.Deed deed today) is = is
  event_at txn (events.Save role) is = refl
  event_at txn (events.SaveFault role committed) is = refl
  event_at txn (events.Send role n) is = is
  event_at txn (events.Deliver role n) is = is
  event_at txn (events.Noise role bytes) is = refl
  event_at txn (events.Restart role) is = refl

  -- Events in a transaction of the group have their home at the group.
  txn_at : (txn : Qualifiers) (all : List Event) → txn.group ≡ group → AllAt (map (in_txn txn) all)
  txn_at txn [] is = tt
  txn_at txn (event ∷ more) is = (event_at txn event is, txn_at txn more is)

  -- ---- sides of a group

  -- Each of the sides is of a transaction of the group.
  abbrev AllOf : List Side → Type 0
  AllOf [] = Unit {0}
  AllOf (side ∷ more) = ((txn_of side).group ≡ group) × AllOf more

  -- The events that pass on the messages of sides of the group have their home at the group.
  passes_at : (role : Role) (all : List Side) → AllOf all → AllAt (flat_map (passes_side role) all)
  passes_at role [] of = tt
  passes_at role (side ∷ more) of =
      both_at (passes_side role side) (flat_map (passes_side role) more)
      (txn_at (txn_of side) (sends_and_delivers role 1 (length (issued_of side))) of.0) (passes_at role more of.1)

  -- If all sides are of the group, the sides of which `wants` holds are of the group.
  wanted_of : (wants : Side → Bool) (all : List Side) → AllOf all → AllOf (filter wants all)
  wanted_of wants [] of = tt
  wanted_of wants (side ∷ more) of = go (wants side) (wanted_of wants more of.1)
    where
      -- If `side` is selected, it is of the group.
      go : (wanted : Bool) → AllOf (filter wants more) → AllOf (cond wanted (side ∷ filter wants more) (filter wants more))
      go true rest = (of.0, rest)
      go false rest = rest

  -- If a desk lacks each transaction of another group, its sides are of the group.
  held_of : (held : List DeskEntry) → ((txn : Qualifiers) → (txn.group ≡ group → ⊥) → is_one_of txn (map txn_held held) ≡ false)
      → AllOf (map (λ (h : DeskEntry). h.side) held)
  held_of [] lacks = tt
  held_of (h ∷ more) lacks = (
    go (bytes_eq (txn_held h).group group) refl,
    held_of more (λ txn apart. (or_parts (is_same_txn txn (txn_held h)) (is_one_of txn (map txn_held more))
        (lacks txn apart)).1),
  )
    where
      -- If `h` is of another group, the desk lacks its transaction, which then differs from itself.
      here : ((txn_held h).group ≡ group → ⊥) → is_same_txn (txn_held h) (txn_held h) ≡ false
      here apart = (or_parts (is_same_txn (txn_held h) (txn_held h)) (is_one_of (txn_held h) (map txn_held more))
          (lacks (txn_held h) apart)).0

      -- If `h` is of another group, `here` contradicts `same_self`.
      go : (same : Bool) → bytes_eq (txn_held h).group group ≡ same → (txn_held h).group ≡ group
      go true same = (bytes_eq-Decides (txn_held h).group group).0 same
      go false same = absurd (true≢false
          (sym (same_self (txn_held h)) ∙ here
          (λ is. true≢false (sym ((bytes_eq-Decides (txn_held h).group group).1 is) ∙ same))))

  -- ---- a night

  -- Both desks lack each transaction of another group.
  abbrev LackOthers : DeskParties → Type 0
  LackOthers w = (txn : Qualifiers) → (txn.group ≡ group → ⊥) → BothLack txn w

  -- If `LackOthers` holds of two desks, all events of a half of a night have their home at the group.
  half_at : (wants : Side → Bool) (role : Role) (w : DeskParties) → LackOthers w → AllAt (desk_half_if wants role w)
  half_at wants who.Requester w lack =
      let all = (sides_held w.requester.live).sides in (
        refl,
        passes_at who.Requester (filter wants all)
            (wanted_of wants all (held_of w.requester.live.held (λ txn apart. (lack txn apart).0.0))),
      )
  half_at wants who.Responder w lack =
      let all = (sides_held w.responder.live).sides in (
        refl,
        passes_at who.Responder (filter wants all)
            (wanted_of wants all (held_of w.responder.live.held (λ txn apart. (lack txn apart).1.0))),
      )

  -- All events of a night of the desks of `group`, given with `group`, have their home at `group`.
  pub night_at : RowsGrow → EachStands → DesksInvariant first_desks → (all : List ShelfEvent)
      → let night = desk_night_of (desks_run first_desks (events_at group all)) in events_at group (in_group group night) ≡ night
  night_at grows after first all =
      let w = desks_run first_desks (events_at group all) in
      let asking = desk_asking_half w in
      let asking_at : AllAt asking = half_at (wants_sending false) who.Requester w (lack all) in
      let longer : events_at group (all ++ in_group group asking) ≡ events_at group all ++ asking =
      group_in_order group all (in_group group asking) ∙ ap (λ l. events_at group all ++ l) (all_at asking asking_at) in
      let next : desks_run first_desks (events_at group (all ++ in_group group asking)) ≡ desks_run w asking =
      ap (desks_run first_desks) longer ∙ run_both desks_happen first_desks (events_at group all) asking in
      all_at (desk_night_of w)
      (both_at asking (desk_half_if (λ side. wants_sending (is_asked_by w side) side) who.Responder (desks_run w asking))
      asking_at
      (half_at (λ side. wants_sending (is_asked_by w side) side) who.Responder (desks_run w asking)
      (subst LackOthers next (lack (all ++ in_group group asking)))))
    where
      -- After any events the desks of the group lack each transaction of another group.
      lack : (all : List ShelfEvent) → LackOthers (desks_run first_desks (events_at group all))
      lack all txn apart = (lack_elsewhere grows after first txn group all apart).1
