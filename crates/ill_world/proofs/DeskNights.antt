-- In each transaction a night of two desks is a night of both sides.
use Rattle.std.proofs.Common.{◌≡◌, Bool, true, false, cond, List, [], ◌∷◌, length, map, Option, Some, None, refl, sym, ap, ◌∙◌}
use Rattle.std.proofs.Common.{subst}
use Rattle.std.specs.Prelude.{filter}
use Rattle.std.proofs.lemmas.Bool.{or_parts, or_from}
use Rattle.ill_values.specs.TxnId.{Qualifiers}
use Rattle.ill_values.specs.declared.apdu.Apdu.{Apdu}
use Rattle.ill_core.specs.Issued.{is_same_txn}
use Rattle.ill_record.specs.declared.role.Role.{Role}
use Rattle.ill_record.specs.declared.role.Role.TheVariants as who
use Rattle.ill_record.specs.declared.side.Side.{Side}
use Rattle.ill_record.specs.Side.{issued_of, txn_of, idle_side}
use Rattle.ill_record.specs.Sides.{found_by, side_with}
use Rattle.ill_saved.specs.ManySides.{DeskContents, found_or, held_for, sides_held}
use Rattle.ill_record.proofs.Finding.{same_is}
use Rattle.ill_saved.proofs.Contents.{side_of_held}
use Rattle.ill_world.specs.declared.event.Event.{Event}
use Rattle.ill_world.specs.declared.event.Event.TheVariants as events
use Rattle.ill_world.specs.declared.event.DeskEvent.TheVariants as desk_events
use Rattle.ill_world.specs.World.{Party, Parties, party, happens, run_by, run_of}
use Rattle.ill_world.specs.Desks.{DeskParties, desks_happen, desks_run, project}
use Rattle.ill_world.specs.DeskCounts.{is_one_of, AreApart}
use Rattle.ill_world.specs.DeskSafety.{DesksInvariant}
use Rattle.ill_world.specs.Round.{sends_and_delivers}
use Rattle.ill_words.specs.Sending.{wants_sending}
use Rattle.ill_world.specs.Night.{asks, half_if, asking_half, night_of}
use Rattle.ill_world.specs.DeskNight.{desk_half_if, is_asked_by, desk_asking_half, desk_night_of}
use Rattle.ill_world.proofs.Runs.{run_both}
use Rattle.ill_world.proofs.Projections.{held_txn}
use Rattle.ill_world.proofs.Desks.{EachProjects, EachStands, desks_stand_on}
use Rattle.ill_world.proofs.DeskArrivals.{EachReaches, idle_issues}
use Rattle.ill_world.proofs.DeskRounds.{shown, sides_alike, held_apart}

-- ---- the sides that `wants` selects

-- A side is selected if `wants` is true of it.
module _ (wants : Side → Bool) where
  -- If no side is of `txn`, no selected side is.
  none_wanted : (txn : Qualifiers) (all : List Side) → is_one_of txn (map txn_of all) ≡ false
      → is_one_of txn (map txn_of (filter wants all)) ≡ false
  none_wanted txn [] none = none
  none_wanted txn (side ∷ more) none = go (wants side) (none_wanted txn more parts.1)
    where
      -- `side` is not of `txn`, and none of `more` is.
      parts : (is_same_txn txn (txn_of side) ≡ false) × (is_one_of txn (map txn_of more) ≡ false)
      parts = or_parts (is_same_txn txn (txn_of side)) (is_one_of txn (map txn_of more)) none

      -- If `side` is selected, it is not of `txn` either.
      go : (wanted : Bool) → is_one_of txn (map txn_of (filter wants more)) ≡ false
          → is_one_of txn (map txn_of (cond wanted (side ∷ filter wants more) (filter wants more))) ≡ false
      go true rest = or_from (is_same_txn txn (txn_of side)) (is_one_of txn (map txn_of (filter wants more))) parts.0 rest
      go false rest = rest

  -- If no two sides are of one transaction, no two selected sides are.
  apart_wanted : (all : List Side) → AreApart (map txn_of all) → AreApart (map txn_of (filter wants all))
  apart_wanted [] apart = apart
  apart_wanted (side ∷ more) apart = go (wants side) (apart_wanted more apart.1)
    where
      -- If `side` is selected, no other selected side is of its transaction.
      go : (wanted : Bool) → AreApart (map txn_of (filter wants more))
          → AreApart (map txn_of (cond wanted (side ∷ filter wants more) (filter wants more)))
      go true rest = (none_wanted (txn_of side) more apart.0, rest)
      go false rest = rest

  -- If no side is of `txn`, no side of it is found.
  found_none : (txn : Qualifiers) (all : List Side) → is_one_of txn (map txn_of all) ≡ false → found_by txn_of txn all ≡ None
  found_none txn [] none = refl
  found_none txn (side ∷ more) none =
      let parts = or_parts (is_same_txn txn (txn_of side)) (is_one_of txn (map txn_of more)) none in
      ap (λ b. cond b (Some side) (found_by txn_of txn more)) parts.0 ∙ found_none txn more parts.1

  -- `cond wanted idle idle` is `idle`, whatever `wanted` is.
  idle_either : (idle : Side) (wanted : Bool) → idle ≡ cond wanted idle idle
  idle_either idle true = refl
  idle_either idle false = refl

  -- The side of `txn` is found among the selected sides if `wants` holds of it. Else no side is found, and `idle` takes
  -- its place.
  found_wanted : (txn : Qualifiers) (idle : Side) (all : List Side) → AreApart (map txn_of all)
      → found_or idle (found_by txn_of txn (filter wants all))
      ≡ cond (wants (found_or idle (found_by txn_of txn all))) (found_or idle (found_by txn_of txn all)) idle
  found_wanted txn idle [] apart = idle_either idle (wants idle)
  found_wanted txn idle (side ∷ more) apart =
      go (is_same_txn txn (txn_of side)) (wants side) refl refl (found_wanted txn idle more apart.1)
    where
      -- Returns the selected side of `txn` among `more`, if there is one.
      kept : Option Side
      kept = found_by txn_of txn (filter wants more)

      -- Returns the side of `txn` among `more`, if there is one.
      rest : Option Side
      rest = found_by txn_of txn more

      -- `same` tells if `side` is of `txn`, and `wanted` if it is selected. If it is of `txn`, none of `more` is.
      go : (same wanted : Bool) → is_same_txn txn (txn_of side) ≡ same → wants side ≡ wanted
          → found_or idle kept ≡ cond (wants (found_or idle rest)) (found_or idle rest) idle
          → found_or idle (found_by txn_of txn (cond wanted (side ∷ filter wants more) (filter wants more)))
          ≡ cond (wants (found_or idle (cond same (Some side) rest))) (found_or idle (cond same (Some side) rest)) idle
      go true true e is further = ap (λ b. found_or idle (cond b (Some side) kept)) e ∙ ap (λ b. cond b side idle) (sym is)
      go true false e is further =
          let none : is_one_of txn (map txn_of more) ≡ false =
          subst (λ t. is_one_of t (map txn_of more) ≡ false) (sym (same_is txn (txn_of side) e)) apart.0 in
          ap (found_or idle) (found_none txn (filter wants more) (none_wanted txn more none))
          ∙ ap (λ b. cond b side idle) (sym is)
      go false true e is further = ap (λ b. found_or idle (cond b (Some side) kept)) e ∙ further
      go false false e is further = further

-- ---- a night

-- Returns the events by which all messages of `side` are sent and delivered.
abbrev passes_of : Role → Side → List Event
passes_of role side = sends_and_delivers role 1 (length (issued_of side))

-- At two desks that satisfy `DesksInvariant`, `Projects` and `ReachesSide` hold of each event, which keeps
-- `DesksInvariant`.
module _ (projects : EachProjects) (reaches : EachReaches) (after : EachStands) (txn : Qualifiers) where
  -- In `txn` the half of a night of two desks is the half of a night of two parties. If `wants` holds of the side of
  -- `txn`, all its messages are passed on. Else the half is a save.
  half_if_alike : (wants : Side → Bool) (w : DeskParties) (role : Role) → DesksInvariant w
      → project txn (desks_run w (desk_half_if wants role w))
      ≡ run_of (project txn w) (half_if (wants (party (project txn w) role).live) role (project txn w))
  unfolding run_by side_with sends_and_delivers
  half_if_alike wants w role stands =
      saved_alike ∙ go (wants side) ∙ ap (λ (p : Party). run_of v (half_if (wants p.live) role v)) (sym (shown txn w role))
    where
      -- Returns the projection to `txn` before the half.
      v : Parties
      v = project txn w

      -- Returns the live contents of the desk `role`.
      live : DeskContents
      live = (party w role).live

      -- Returns the idle side of `txn` at this desk.
      idle : Side
      idle = idle_side live.role txn

      -- Returns the side of `txn` at this desk, or `idle`.
      side : Side
      side = (held_for txn live).side

      -- Returns all sides that this desk holds.
      all : List Side
      all = (sides_held live).sides

      -- Returns the desks after the save.
      saved : DeskParties
      saved = (desks_happen w (desk_events.Save role)).1

      -- No two of the held sides are of one transaction.
      apart : AreApart (map txn_of all)
      apart = held_apart projects reaches after txn w role stands

      -- In `txn` the half saves, and passes on the messages of `side`, or of `idle` if `side` is not selected.
      saved_alike : project txn (desks_run w (desk_half_if wants role w))
          ≡ run_of v (events.Save role ∷ passes_of role (cond (wants side) side idle))
      saved_alike =
          sides_alike projects reaches after txn saved role idle (idle_issues live.role txn) (filter wants all)
          (apart_wanted wants all apart) (after w (desk_events.Save role) stands)
          ∙ ap (λ s. run_of (project txn saved) (passes_of role s)) (found_wanted wants txn idle all apart)
          ∙ ap (λ s. run_of (project txn saved) (passes_of role (cond (wants s) s idle))) (side_of_held txn live)
          ∙ ap (λ u. run_of u (passes_of role (cond (wants side) side idle))) (projects txn w (desk_events.Save role) stands).1

      -- An idle side has issued no message, so that its half is a save.
      go : (wanted : Bool) → run_of v (events.Save role ∷ passes_of role (cond wanted side idle))
          ≡ run_of v (half_if wanted role v)
      go true = ap (λ (p : Party). run_of v (events.Save role ∷ passes_of role p.live)) (sym (shown txn w role))
      go false = ap (λ (apdus : List Apdu). run_of v (events.Save role ∷ sends_and_delivers role 1 (length apdus)))
          (idle_issues live.role txn)

  -- In `txn` a night of two desks is a night of both sides. Each half is the half of a side, by `half_if_alike`.
  pub night_alike : (w : DeskParties) → DesksInvariant w
      → project txn (desks_run w (desk_night_of w)) ≡ run_of (project txn w) (night_of (project txn w))
  night_alike w stands =
      let first = desk_asking_half w in
      let next = desks_run w first in
      let v = project txn w in
      let v_first = asking_half v in
      let lender : Side = (held_for txn next.responder.live).side in
      let wants : Side → Bool = λ side. wants_sending (is_asked_by w side) side in
      ap (project txn) (run_both desks_happen w first (desk_half_if wants who.Responder next))
      ∙ half_if_alike wants next who.Responder (desks_stand_on after w first stands)
      ∙ ap (λ t. run_of (project txn next)
      (half_if (wants_sending (asks (held_for t w.requester.live).side) lender) who.Responder (project txn next)))
      (held_txn txn next.responder.live)
      ∙ ap (λ (u : Parties). run_of u (half_if (wants_sending (asks v.requester.live) u.responder.live) who.Responder u))
      (half_if_alike (wants_sending false) w who.Requester stands)
      ∙ sym (run_both happens v v_first
      (half_if (wants_sending (asks v.requester.live) (run_of v v_first).responder.live) who.Responder (run_of v v_first)))
