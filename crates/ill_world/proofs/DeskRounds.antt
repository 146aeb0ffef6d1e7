-- In each transaction a round of two desks is a round of both sides.
use Rattle.std.proofs.Common.{rules, ◌≡◌, ℕ, zero, suc, ◌+◌, nat_le, nat_lt, Bool, true, false, not, cond, List, [], ◌∷◌, length}
use Rattle.std.proofs.Common.{map, Option, Some, None, refl, sym, ap, ◌∙◌, subst, true≢false}
use Rattle.std.specs.Prelude.{flat_map}
use Rattle.std.proofs.lemmas.Bool.{or_parts}
use Rattle.std.proofs.lemmas.Simd.{map-map}
use Rattle.ill_values.specs.TxnId.{Qualifiers}
use Rattle.ill_values.specs.declared.apdu.Apdu.{Apdu}
use Rattle.ill_values.specs.Body.{Body}
use Rattle.ill_values.specs.declared.apdu.BodyWith.TheVariants as types
use Rattle.ill_core.specs.declared.refusal.Refusal.{Refusal}
use Rattle.ill_core.specs.declared.state.State.TheVariants as states
use Rattle.ill_core.specs.Answers.{unless_refused}
use Rattle.ill_values.specs.Bodies.{is_ill_request, is_requesters}
use Rattle.ill_core.specs.Issued.{message, is_same_txn, first_refusal}
use Rattle.ill_core.specs.Responder.{ResponderRecord, responder_of}
use Rattle.ill_core.specs.ResponderDeliveries.{take_message}
use Rattle.ill_record.specs.declared.role.Role.{Role}
use Rattle.ill_record.specs.declared.role.Role.TheVariants as who
use Rattle.ill_record.specs.declared.side.Side.{Side}
use Rattle.ill_record.specs.declared.side.Side.TheVariants as sides
use Rattle.ill_record.specs.Side.{issued_of, txn_of, idle_side, other, takes}
use Rattle.ill_record.specs.Sides.{found_by, side_with}
use Rattle.ill_saved.specs.Holdings.{DeskEntry}
use Rattle.ill_saved.specs.ManySides.{DeskContents, txn_held, idle_held, found_or, held_for, sides_held}
use Rattle.ill_record.proofs.Finding.{same_is, same_self}
use Rattle.ill_saved.proofs.Contents.{side_of_held}
use Rattle.ill_world.specs.declared.event.Event.TheVariants as events
use Rattle.ill_world.specs.declared.event.DeskEvent.{DeskEvent}
use Rattle.ill_world.specs.declared.event.DeskEvent.TheVariants as desk_events
use Rattle.ill_words.specs.declared.outcome.Outcome.{Outcome}
use Rattle.ill_words.specs.declared.outcome.DeskOutcome.{DeskOutcome}
use Rattle.ill_words.specs.declared.outcome.DeskOutcome.TheVariants.{Plain, NoSuchTransaction, DeskFull}
use Rattle.ill_world.specs.World.{Party, Parties, party, with_party, sent_message, sends, receives, happens, run_by, run_of}
use Rattle.ill_world.specs.Desks.{DeskParties, sent_for, plain, desks_happen, desks_run, party_for, project, concerns, if_reached}
use Rattle.ill_world.specs.Desks.{IsSeenAs}
use Rattle.ill_world.specs.DeskScript.{in_txn}
use Rattle.ill_world.specs.DeskChanges.{Reaches}
use Rattle.ill_world.specs.DeskCounts.{is_one_of, AreApart}
use Rattle.ill_world.specs.DeskSafety.{DesksInvariant}
use Rattle.ill_world.specs.Round.{sends_and_delivers, half_of, round_of}
use Rattle.ill_world.specs.DeskRound.{passes_side, desk_half_of, desk_round_of}
use Rattle.ill_world.proofs.Runs.{run_both}
use Rattle.ill_world.proofs.Desks.{EachProjects, EachStands, desks_stand_on}
use Rattle.ill_world.proofs.DeskArrivals.{EachReaches, idle_issues}
use Rattle.ill_world.proofs.DeskCounts.{none_sent, finds_room}

-- ---- an idle side

-- A Send of a side that has issued nothing changes nothing.
idle_sends : (p : Party) (n : ℕ) (released : Bool) → issued_of p.live ≡ []
    → (sends p n (message (issued_of p.live) n) released).1 ≡ p
idle_sends p n released none = ap (λ apdus. (sends p n (message apdus n) released).1) none ∙ go n
  where
    -- An empty list has no message m, so that its Send changes nothing.
    go : (m : ℕ) → (sends p n (message [] m) released).1 ≡ p
    go zero = refl
    go (suc m) = refl

-- If `answer` leaves record `y` unchanged, `unless_refused` leaves it unchanged, with a refusal and without one.
refused_or_same : (refusal : Option Refusal) (y : ResponderRecord) (answer : _ × ResponderRecord) → answer.1 ≡ y
    → (unless_refused refusal y answer).1 ≡ y
refused_or_same (Some refusal) y answer same = refl
refused_or_same None y answer same = same

-- Returns a responder that has issued and taken nothing.
abbrev idle_responder : Qualifiers → ResponderRecord
idle_responder txn = responder_of txn states.Idle None None None false None []

-- Only an ILL-Request changes an idle responder.
idle_message : (txn : Qualifiers) (a : Apdu) (body : Body) → is_ill_request body ≡ false
    → (take_message (idle_responder txn) a body).1 ≡ idle_responder txn
idle_message txn a (types.IllRequest expiry item) is = absurd (true≢false is)
idle_message txn a (types.ConditionalReply zero true) is = refl
idle_message txn a (types.ConditionalReply (suc c) true) is = refl
idle_message txn a (types.ConditionalReply c false) is = refl
idle_message txn a body is = refl

-- An idle side of a responder takes no message but an ILL-Request.
pub idle_takes : (txn : Qualifiers) (a : Apdu) → is_ill_request a.body ≡ false
    → (takes (idle_side who.Responder txn) a).1 ≡ idle_side who.Responder txn
idle_takes txn a is =
    ap sides.Responder
    (refused_or_same (first_refusal txn (not (is_requesters a.body)) a) (idle_responder txn)
    (take_message (idle_responder txn) a a.body) (idle_message txn a a.body is))

-- A side that is not held has issued nothing.
unheld_issues : (txn : Qualifiers) (live : DeskContents) → found_by txn_held txn live.held ≡ None
    → issued_of (held_for txn live).side ≡ []
unheld_issues txn live none = ap (λ o. issued_of (found_or (idle_held live.role txn) o).side) none ∙ idle_issues live.role txn

-- ---- one event

-- The projection has the party that the desk of `role` shows.
pub shown : (txn : Qualifiers) (w : DeskParties) (role : Role) → party (project txn w) role ≡ party_for txn (party w role)
shown txn w who.Requester = refl
shown txn w who.Responder = refl

-- If a party is replaced by itself, the world is unchanged.
same_party : (v : Parties) (role : Role) → with_party v role (party v role) ≡ v
same_party v who.Requester = refl
same_party v who.Responder = refl

-- If `own` is true, the event is one of the transaction, and leads to the expected world. Its outcome may not be
-- DeskFull. If the outcome is NoSuchTransaction, the expected world must be the old one.
pub seen_alike : (own : Bool) → own ≡ true → (expected : Outcome × Parties) (old new : Parties) (outcome : DeskOutcome)
    → IsSeenAs (if_reached outcome own) expected old outcome new
    → (outcome ≡ DeskFull → ⊥) → (outcome ≡ NoSuchTransaction → expected.1 ≡ old) → new ≡ expected.1
seen_alike true is expected old new (Plain outcome) seen room stays = seen.1
seen_alike true is expected old new NoSuchTransaction seen room stays = seen ∙ sym (stays refl)
seen_alike true is expected old new DeskFull seen room stays = absurd (room refl)
seen_alike false is expected old new outcome seen room stays = absurd (true≢false (sym is))

-- If `own` is false, the event is one of another transaction, and changes nothing, with any outcome.
pub seen_elsewhere : (own : Bool) → own ≡ false
    → (expected : Outcome × Parties) (old new : Parties) (outcome : DeskOutcome)
    → IsSeenAs (if_reached outcome own) expected old outcome new → new ≡ old
seen_elsewhere true is expected old new outcome seen = absurd (true≢false is)
seen_elsewhere false is expected old new (Plain outcome) seen = seen
seen_elsewhere false is expected old new NoSuchTransaction seen = seen
seen_elsewhere false is expected old new DeskFull seen = seen

-- If the outcome is NoSuchTransaction, the transaction is not held, and the event may not begin it.
pub not_reached : (may_begin has_room : Bool) (found : Option DeskEntry) → Reaches may_begin has_room found NoSuchTransaction
    → (found ≡ None) × (may_begin ≡ false)
not_reached may_begin has_room (Some held) reaches = absurd reaches
not_reached true true None reaches = absurd reaches
not_reached true false None reaches = search rules
not_reached false has_room None reaches = (refl, refl)

-- If an event may not begin a transaction (`false`), its outcome is not DeskFull, whatever `has_room` and `found` are.
begins_in_room : (has_room : Bool) (found : Option DeskEntry) → Reaches false has_room found DeskFull → ⊥
begins_in_room has_room (Some held) reaches = reaches
begins_in_room has_room None reaches = search rules

-- At two desks that satisfy `DesksInvariant`, `Projects` and `ReachesSide` hold of each event, which keeps
-- `DesksInvariant`.
module _ (projects : EachProjects) (reaches : EachReaches) (after : EachStands) (txn : Qualifiers) where
  -- The projection to `txn` after an event of two desks is the world after the event of two parties.
  abbrev HappensAlike : DeskParties → DeskEvent → Type 0
  HappensAlike w event = project txn (desks_happen w event).1 ≡ (happens (project txn w) (plain event)).1

  -- An event of another transaction leaves the projection unchanged.
  other_stays : (w : DeskParties) (event : DeskEvent) → concerns txn event ≡ false → DesksInvariant w
      → project txn (desks_happen w event).1 ≡ project txn w
  other_stays w event is stands =
      seen_elsewhere (concerns txn event) is (happens (project txn w) (plain event)) (project txn w)
      (project txn (desks_happen w event).1) (desks_happen w event).0 (projects txn w event stands)

  -- `HappensAlike` holds of an event of `txn`, if it is not DeskFull, and NoSuchTransaction changes nothing.
  alike : (w : DeskParties) (event : DeskEvent) → concerns txn event ≡ true → DesksInvariant w
      → ((desks_happen w event).0 ≡ DeskFull → ⊥)
      → ((desks_happen w event).0 ≡ NoSuchTransaction → (happens (project txn w) (plain event)).1 ≡ project txn w)
      → HappensAlike w event
  alike w event is stands room stays =
      seen_alike (concerns txn event) is (happens (project txn w) (plain event)) (project txn w)
      (project txn (desks_happen w event).1) (desks_happen w event).0 (projects txn w event stands) room stays

  -- `HappensAlike` holds of a Send in `txn`.
  send_alike : (w : DeskParties) (role : Role) (n : ℕ) → DesksInvariant w → HappensAlike w (desk_events.Send role txn n)
  send_alike w role n stands = alike w event (same_self txn) stands
      (λ full. begins_in_room has_room found (reached DeskFull full)) stays
    where
      -- Returns the Send at the desk `role`.
      event : DeskEvent
      event = desk_events.Send role txn n

      -- Returns the projection to `txn` before the Send.
      v : Parties
      v = project txn w

      -- Returns true if the desk holds fewer than 1,000 sides.
      has_room : Bool
      has_room = nat_lt (length (party w role).live.held) 1000

      -- Returns the entry of `txn`, if the desk holds one.
      found : Option DeskEntry
      found = found_by txn_held txn (party w role).live.held

      -- The Send reaches a held side, or its outcome is NoSuchTransaction.
      reached : (outcome : DeskOutcome) → (desks_happen w event).0 ≡ outcome → Reaches false has_room found outcome
      reached outcome seen = subst (Reaches false has_room found) seen (reaches w event stands)

      -- A side that is not held has issued nothing, so that its Send changes nothing.
      stays : (desks_happen w event).0 ≡ NoSuchTransaction → (happens v (events.Send role n)).1 ≡ v
      stays missed =
          let nothing : issued_of (party v role).live ≡ [] =
          ap (λ (p : Party). issued_of p.live) (shown txn w role)
          ∙ unheld_issues txn (party w role).live (not_reached false has_room found (reached NoSuchTransaction missed)).0 in
          ap (with_party v role) (idle_sends (party v role) n (nat_le n (party v role).released) nothing) ∙ same_party v role

  -- If a delivery does not reach its transaction, the side that is shown does not change.
  idle_stays : (w : DeskParties) (role : Role) (n : ℕ) (a : Apdu) → DesksInvariant w
      → sent_message (sent_for txn (party w (other role)).sent) n ≡ Some a
      → (desks_happen w (desk_events.Deliver role txn n)).0 ≡ NoSuchTransaction
      → (receives (party (project txn w) role) (Some a)).1 ≡ party (project txn w) role
  idle_stays w role n a stands sent missed =
      go role sent (not_reached (is_ill_request a.body) has_room found
      (subst (Reaches (is_ill_request a.body) has_room found) missed
      (reaches w (desk_events.Deliver role txn n) stands a sent)))
    where
      -- Returns true if the desk `role` holds fewer than 1,000 sides.
      has_room : Bool
      has_room = nat_lt (length (party w role).live.held) 1000

      -- Returns the entry of `txn`, if the desk `role` holds one.
      found : Option DeskEntry
      found = found_by txn_held txn (party w role).live.held

      -- The requester's desk holds each transaction in which a message was sent. An idle responder takes only an
      -- ILL-Request.
      go : (to : Role) → sent_message (sent_for txn (party w (other to)).sent) n ≡ Some a
          → (found_by txn_held txn (party w to).live.held ≡ None) × (is_ill_request a.body ≡ false)
          → (receives (party (project txn w) to) (Some a)).1 ≡ party (project txn w) to
      go who.Requester sent missed = absurd (none_sent w stands txn n a sent missed.0)
      go who.Responder sent missed =
          let live = w.responder.live in
          let idle : (held_for txn live).side ≡ idle_side who.Responder txn =
          ap (λ o. (found_or (idle_held live.role txn) o).side) missed.0 ∙ ap (λ role. idle_side role txn) stands.responder.0 in
          ap (λ side. record (party_for txn w.responder) { live = side })
          (ap (λ side. (takes side a).1) idle ∙ idle_takes txn a missed.1 ∙ sym idle)

  -- `HappensAlike` holds of a delivery in `txn`.
  deliver_alike : (w : DeskParties) (role : Role) (n : ℕ) → DesksInvariant w → HappensAlike w (desk_events.Deliver role txn n)
  deliver_alike w role n stands = alike w event (same_self txn) stands (λ full. finds_room reaches w role txn n stands full) stays
    where
      -- Returns the delivery at the desk `role`.
      event : DeskEvent
      event = desk_events.Deliver role txn n

      -- Returns the projection to `txn` before the delivery.
      v : Parties
      v = project txn w

      -- If no message was sent, the party takes nothing. Otherwise `idle_stays` holds.
      received : (found : Option Apdu) → sent_message (sent_for txn (party w (other role)).sent) n ≡ found
          → (desks_happen w event).0 ≡ NoSuchTransaction → (receives (party v role) found).1 ≡ party v role
      received None e missed = refl
      received (Some a) e missed = idle_stays w role n a stands e missed

      -- If the delivery does not reach its transaction, the projection does not change.
      stays : (desks_happen w event).0 ≡ NoSuchTransaction → (happens v (events.Deliver role n)).1 ≡ v
      stays missed =
          ap (λ (p : Party). with_party v role (receives (party v role) (sent_message p.sent n)).1) (shown txn w (other role))
          ∙ ap (with_party v role) (received (sent_message (sent_for txn (party w (other role)).sent) n) refl missed)
          ∙ same_party v role

  -- ---- the messages of a side

  -- Two desks pass on `count` messages of `role` in `txn`, from number n on. In `txn` this leads to the world to which
  -- two parties get by passing on these messages.
  passes_alike : (w : DeskParties) (role : Role) (n count : ℕ) → DesksInvariant w
      → project txn (desks_run w (map (in_txn txn) (sends_and_delivers role n count)))
      ≡ run_of (project txn w) (sends_and_delivers role n count)
  unfolding sends_and_delivers run_by
  passes_alike w role n zero stands = refl
  passes_alike w role n (suc count) stands =
      let send = desk_events.Send role txn n in
      let deliver = desk_events.Deliver (other role) txn n in
      let sent = (desks_happen w send).1 in
      let sent_stands = after w send stands in
      passes_alike (desks_happen sent deliver).1 role (n + 1) count (after sent deliver sent_stands)
      ∙ ap (λ v. run_of v (sends_and_delivers role (n + 1) count))
      (deliver_alike sent (other role) n sent_stands
      ∙ ap (λ v. (happens v (events.Deliver (other role) n)).1) (send_alike w role n stands))

  -- To pass on messages of another transaction leaves the projection unchanged.
  others_stay : (of : Qualifiers) → is_same_txn txn of ≡ false → (w : DeskParties) (role : Role) (n count : ℕ) → DesksInvariant w
      → project txn (desks_run w (map (in_txn of) (sends_and_delivers role n count))) ≡ project txn w
  unfolding sends_and_delivers run_by
  others_stay of apart w role n zero stands = refl
  others_stay of apart w role n (suc count) stands =
      let send = desk_events.Send role of n in
      let deliver = desk_events.Deliver (other role) of n in
      let sent = (desks_happen w send).1 in
      let sent_stands = after w send stands in
      others_stay of apart (desks_happen sent deliver).1 role (n + 1) count (after sent deliver sent_stands)
      ∙ other_stays sent deliver apart sent_stands
      ∙ other_stays w send apart stands

  -- ---- the messages of a desk

  -- To pass on the messages of `side ∷ more` is to pass on those of `side`, then those of `more`.
  passes_both : (w : DeskParties) (role : Role) (side : Side) (more : List Side)
      → desks_run w (flat_map (passes_side role) (side ∷ more))
      ≡ desks_run (desks_run w (passes_side role side)) (flat_map (passes_side role) more)
  passes_both w role side more = run_both desks_happen w (passes_side role side) (flat_map (passes_side role) more)

  -- To pass on the messages of sides of other transactions leaves the projection unchanged.
  sides_stay : (w : DeskParties) (role : Role) (all : List Side) → is_one_of txn (map txn_of all) ≡ false → DesksInvariant w
      → project txn (desks_run w (flat_map (passes_side role) all)) ≡ project txn w
  unfolding run_by
  sides_stay w role [] none stands = refl
  sides_stay w role (side ∷ more) none stands =
      let parts = or_parts (is_same_txn txn (txn_of side)) (is_one_of txn (map txn_of more)) none in
      ap (project txn) (passes_both w role side more)
      ∙ sides_stay (desks_run w (passes_side role side)) role more parts.1 (desks_stand_on after w (passes_side role side) stands)
      ∙ others_stay (txn_of side) parts.0 w role 1 (length (issued_of side)) stands

  -- No two of the sides `all` are of one transaction. To pass on all their messages is, in `txn`, to pass on those of
  -- the side of `txn`. If none is of `txn`, nothing is passed on.
  pub sides_alike : (w : DeskParties) (role : Role) (idle : Side) → issued_of idle ≡ [] → (all : List Side)
      → AreApart (map txn_of all) → DesksInvariant w
      → project txn (desks_run w (flat_map (passes_side role) all))
      ≡ run_of (project txn w) (sends_and_delivers role 1 (length (issued_of (found_or idle (found_by txn_of txn all)))))
  unfolding run_by sends_and_delivers
  sides_alike w role idle nothing [] apart stands =
      ap (λ apdus. run_of (project txn w) (sends_and_delivers role 1 (length apdus))) (sym nothing)
  sides_alike w role idle nothing (side ∷ more) apart stands =
      ap (project txn) (passes_both w role side more)
      ∙ go (is_same_txn txn (txn_of side)) refl (sides_alike next role idle nothing more apart.1 next_stands)
    where
      -- Returns the desks after the messages of `side` were passed on.
      next : DeskParties
      next = desks_run w (passes_side role side)

      -- These desks satisfy `DesksInvariant`.
      next_stands : DesksInvariant next
      next_stands = desks_stand_on after w (passes_side role side) stands

      -- If `side` is of `txn`, none of `more` is. Otherwise its messages leave the projection unchanged.
      go : (same : Bool) → is_same_txn txn (txn_of side) ≡ same
          → project txn (desks_run next (flat_map (passes_side role) more))
          ≡ run_of (project txn next) (sends_and_delivers role 1
          (length (issued_of (found_or idle (found_by txn_of txn more)))))
          → project txn (desks_run next (flat_map (passes_side role) more))
          ≡ run_of (project txn w) (sends_and_delivers role 1
          (length (issued_of (found_or idle (cond same (Some side) (found_by txn_of txn more))))))
      go true e further =
          let is = same_is txn (txn_of side) e in
          let none : is_one_of txn (map txn_of more) ≡ false =
          subst (λ t. is_one_of t (map txn_of more) ≡ false) (sym is) apart.0 in
          sides_stay next role more none next_stands
          ∙ subst (λ t. project txn (desks_run w (map (in_txn t) (sends_and_delivers role 1 (length (issued_of side)))))
          ≡ run_of (project txn w) (sends_and_delivers role 1 (length (issued_of side)))) is
          (passes_alike w role 1 (length (issued_of side)) stands)
      go false e further =
          further
          ∙ ap (λ v. run_of v (sends_and_delivers role 1 (length (issued_of (found_or idle (found_by txn_of txn more))))))
          (others_stay (txn_of side) e w role 1 (length (issued_of side)) stands)

  -- ---- a round

  -- No two sides that a desk holds are of one transaction.
  pub held_apart : (w : DeskParties) (role : Role) → DesksInvariant w
      → AreApart (map txn_of (sides_held (party w role).live).sides)
  held_apart w who.Requester stands =
      let few = stands.counts.0 in
      subst AreApart (sym (map-map txn_of (λ (held : DeskEntry). held.side) w.requester.live.held)) few.0
  held_apart w who.Responder stands =
      let known = stands.counts.2 in
      subst AreApart (sym (map-map txn_of (λ (held : DeskEntry). held.side) w.responder.live.held)) known.0

  -- In `txn` the half of a round of two desks is the half of a round of two parties.
  half_alike : (w : DeskParties) (role : Role) → DesksInvariant w
      → project txn (desks_run w (desk_half_of role w)) ≡ run_of (project txn w) (half_of role (project txn w))
  unfolding run_by side_with
  half_alike w role stands = saved_alike
      ∙ ap (λ (p : Party). run_of (project txn w) (events.Save role ∷ sends_and_delivers role 1 (length (issued_of p.live))))
      (sym (shown txn w role))
    where
      -- Returns the live contents of the desk `role`.
      live : DeskContents
      live = (party w role).live

      -- Returns the idle side of `txn` at this desk.
      idle : Side
      idle = idle_side live.role txn

      -- Returns the desks after the save.
      saved : DeskParties
      saved = (desks_happen w (desk_events.Save role)).1

      -- In `txn` the half saves, and passes on the messages of the held side.
      saved_alike : project txn (desks_run w (desk_half_of role w))
          ≡ run_of (project txn w) (events.Save role ∷ sends_and_delivers role 1 (length (issued_of (held_for txn live).side)))
      saved_alike =
          sides_alike saved role idle (idle_issues live.role txn) (sides_held live).sides (held_apart w role stands)
          (after w (desk_events.Save role) stands)
          ∙ ap (λ side. run_of (project txn saved) (sends_and_delivers role 1 (length (issued_of side)))) (side_of_held txn live)
          ∙ ap (λ v. run_of v (sends_and_delivers role 1 (length (issued_of (held_for txn live).side))))
          (projects txn w (desk_events.Save role) stands).1

  -- In `txn` a round of two desks is a round of both sides.
  pub round_alike : (w : DeskParties) → DesksInvariant w
      → project txn (desks_run w (desk_round_of w)) ≡ run_of (project txn w) (round_of (project txn w))
  round_alike w stands =
      let first = desk_half_of who.Requester w in
      let next = desks_run w first in
      let v = project txn w in
      let v_first = half_of who.Requester v in
      ap (project txn) (run_both desks_happen w first (desk_half_of who.Responder next))
      ∙ half_alike next who.Responder (desks_stand_on after w first stands)
      ∙ ap (λ u. run_of u (half_of who.Responder u)) (half_alike w who.Requester stands)
      ∙ sym (run_both happens v v_first (half_of who.Responder (run_of v v_first)))
