-- After a night both sides are converged, or at rest.
use Rattle.std.proofs.Common.{rules, ◌≡◌, ◌⊎◌, inl, inr, Bool, true, false, not, ◌&&◌, List, [], ◌∷◌, ◌++◌, length, Option, refl}
use Rattle.std.proofs.Common.{sym, ap, ◌∙◌, subst}
use Rattle.std.proofs.lemmas.Bool.{and_from, or_right}
use Rattle.ill_values.specs.TxnId.{Qualifiers}
use Rattle.ill_values.specs.declared.apdu.Apdu.{Apdu}
use Rattle.ill_core.specs.declared.state.State.{State}
use Rattle.ill_core.specs.declared.state.State.TheVariants as states
use Rattle.ill_core.specs.State.{is_among}
use Rattle.ill_core.specs.Issued.{is_none}
use Rattle.ill_core.specs.Requester.{RequesterRecord, is_declined}
use Rattle.ill_core.specs.Responder.{ResponderRecord}
use Rattle.ill_core.specs.ResponderEvidence as responder
use Rattle.ill_core.specs.Verbs.{requester_turn_in, responder_turn_in}
use Rattle.ill_record.specs.declared.role.Role.TheVariants as who
use Rattle.ill_record.specs.declared.side.Side.{Side}
use Rattle.ill_record.specs.declared.side.Side.TheVariants as sides
use Rattle.ill_record.specs.Side.{issued_of}
use Rattle.ill_world.specs.declared.event.Event.{Event}
use Rattle.ill_world.specs.declared.event.Event.TheVariants.{Save}
use Rattle.ill_world.specs.World.{Parties, happens, run_by, run_of}
use Rattle.ill_world.specs.Agreement.{Facing}
use Rattle.ill_world.specs.Invariant.{RequesterInvariant, ResponderInvariant, RequesterSideInvariant, ResponderSideInvariant}
use Rattle.ill_world.specs.Invariant.{Invariant}
use Rattle.ill_world.specs.Round.{sends_and_delivers, half_of, round_of, faced_in, AreConverged}
use Rattle.ill_words.specs.Sending.{is_nobodys, is_over, wants_sending}
use Rattle.ill_world.specs.Night.{asks, half_if, night_of, AtRest, AreAtRest, AreConvergedOrAtRest}
use Rattle.ill_world.proofs.Claims.{AreIssued, live_issues, cancelled_faces, not_supplied_faces}
use Rattle.ill_world.proofs.Agreements.{says_true}
use Rattle.ill_world.proofs.DeskArrivals.{idle_issued}
use Rattle.ill_world.proofs.Runs.{run_stands}
use Rattle.ill_words.proofs.SendingLemmas.{open_wants, over_is_silent}

-- ---- a loan that is over for the requester

-- If the loan is over for a requester, it is in CANCELLED, NOT-SUPPLIED, or RETURNED with the checked-in mark.
over_means : (s : State) (declined marked : Bool) → is_among (states.InProcess ∷ states.CheckedIn ∷ []) s ≡ false
    → is_nobodys (requester_turn_in s declined marked) ≡ true
    → (s ≡ states.Cancelled) ⊎ (s ≡ states.NotSupplied) ⊎ ((s ≡ states.Returned) × (marked ≡ true))
over_means states.Cancelled declined marked own over = inl refl
over_means states.NotSupplied declined marked own over = inr (inl refl)
over_means states.Returned declined true own over = inr (inr (refl, refl))
over_means states.Returned declined false own over = search rules
over_means states.Conditional true marked own over = search rules
over_means states.Conditional false marked own over = search rules
over_means s declined marked own over = search rules

-- If the loan is over for two records whose states `s` and `t` face each other, they are at rest.
rest_in : (x : RequesterRecord) (y : ResponderRecord) (s t : State) → is_over (sides.Requester x) ≡ true → x.state ≡ s
    → y.state ≡ t → is_nobodys (responder_turn_in t) ≡ true → is_among (faced_in s) t ≡ true → AtRest x y
rest_in x y s t over at_s at_t ends faces = record {
  requester = over;
  responder = ap (λ u. is_nobodys (responder_turn_in u)) at_t ∙ ends;
  faced = ap (λ u. is_among (faced_in u) y.state) at_s ∙ ap (is_among (faced_in s)) at_t ∙ faces;
}

-- If the loan is over for a requester's record, it is at rest with the responder's.
records_rest : (txn : Qualifiers) (x : RequesterRecord) (y : ResponderRecord) (responder_sent requester_sent : List (Option Apdu))
    → RequesterInvariant txn x responder_sent → ResponderInvariant txn y requester_sent → AreIssued responder_sent y.issued
    → AreIssued requester_sent x.issued
    → is_over (sides.Requester x) ≡ true → AtRest x y
records_rest txn x y responder_sent requester_sent requester_stands responder_stands issued heeded over =
    elim (over_means x.state (is_declined x) x.checked_in requester_stands.rules.parts.role over) [
      | inl cancelled ↦ rest_in x y states.Cancelled states.Cancelled over cancelled
          (cancelled_faces txn x y responder_sent requester_sent requester_stands responder_stands issued cancelled) refl refl
      | inr (inl ended) ↦ rest_in x y states.NotSupplied states.NotSupplied over ended
          (not_supplied_faces txn x y responder_sent requester_sent requester_stands responder_stands issued ended) refl refl
      | inr (inr (returned, marked)) ↦
          rest_in x y states.Returned states.CheckedIn over returned
          ((says_true txn x y responder_sent requester_sent requester_stands responder_stands issued heeded).checked_in
          marked) refl refl
    ]

-- If the loan is over for a requester's side, it is at rest with the responder's.
sides_rest : (txn : Qualifiers) (x y : Side) (responder_sent requester_sent : List (Option Apdu))
    → RequesterSideInvariant txn x responder_sent
    → ResponderSideInvariant txn y requester_sent → AreIssued responder_sent (issued_of y)
    → AreIssued requester_sent (issued_of x)
    → is_over x ≡ true → Facing AtRest x y
sides_rest txn (sides.Requester x) (sides.Responder y) responder_sent requester_sent requester_stands responder_stands issued
    heeded over = records_rest txn x y responder_sent requester_sent requester_stands responder_stands issued heeded over
sides_rest txn (sides.Responder x) y responder_sent requester_sent requester_stands responder_stands issued heeded over =
    absurd requester_stands
sides_rest txn (sides.Requester x) (sides.Requester y) responder_sent requester_sent requester_stands responder_stands issued
    heeded over = absurd responder_stands

-- If a world satisfies the invariant, and the loan is over for the requester, both sides are at rest.
pub at_rest : (txn : Qualifiers) (w : Parties) → Invariant txn w → is_over w.requester.live ≡ true → AreAtRest w
at_rest txn w stands over =
    sides_rest txn w.requester.live w.responder.live w.responder.sent w.requester.sent stands.requester.live stands.responder.live
    (live_issues w.responder stands.responder.saved) (live_issues w.requester stands.requester.saved) over

-- If two sides are at rest, the loan is over for the responder's.
pub rests_responder : (x y : Side) → Facing AtRest x y → is_over y ≡ true
rests_responder (sides.Requester x) (sides.Responder y) rest = rest.responder
rests_responder (sides.Responder x) y rest = absurd rest
rests_responder (sides.Requester x) (sides.Requester y) rest = absurd rest

-- ---- the sides that send

-- A responder that was asked sends its messages.
pub asked_wants : (txn : Qualifiers) (side : Side) (requester_sent : List (Option Apdu))
    → ResponderSideInvariant txn side requester_sent
    → wants_sending true side ≡ true
asked_wants txn (sides.Responder y) requester_sent stands = or_right (not (is_over (sides.Responder y))) true refl
asked_wants txn (sides.Requester x) requester_sent stands = absurd stands

-- For a responder in IDLE the loan is not over.
idle_is_open : (s : State) → is_among (states.Idle ∷ []) s ≡ true → is_nobodys (responder_turn_in s) ≡ false
idle_is_open states.Idle is = refl
idle_is_open s is = search rules

-- If the requester has issued nothing, the loan is not over for the responder.
pub unasked_is_open : (txn : Qualifiers) (side : Side) (requester_sent : List (Option Apdu)) (apdus : List Apdu)
    → ResponderSideInvariant txn side requester_sent → AreIssued requester_sent apdus → is_none apdus ≡ true
    → is_over side ≡ false
unasked_is_open txn (sides.Responder y) requester_sent apdus stands heeded none = go (is_among (states.Idle ∷ []) y.state) refl
  where
    -- For a responder in IDLE the loan is not over. Another one was asked, so that the requester has issued a message.
    go : (idle : Bool) → is_among (states.Idle ∷ []) y.state ≡ idle → is_over (sides.Responder y) ≡ false
    go true is = idle_is_open y.state is
    go false is = let known = stands.knows responder.Requested is in let there = heeded known.0 known.1 in
        absurd (idle_issued apdus there.0 known.0 none there.1)
unasked_is_open txn (sides.Requester x) requester_sent apdus stands heeded none = absurd stands

-- ---- the events of a night

-- Returns a night whose first half is `first`.
abbrev night_from : Parties → List Event → List Event
night_from w first = first ++ half_if (wants_sending (asks w.requester.live) (run_of w first).responder.live) who.Responder
    (run_of w first)

-- The half of a requester that has issued nothing leaves the responder unchanged.
pub nothing_passes : (w : Parties) (apdus : List Apdu) → issued_of w.requester.live ≡ apdus → is_none apdus ≡ true
    → (run_of w (half_of who.Requester w)).responder.live ≡ w.responder.live
unfolding run_by sends_and_delivers
nothing_passes w [] is none = ap
    (λ (l : List Apdu). (run_of w (Save who.Requester ∷ sends_and_delivers who.Requester 1 (length l))).responder.live) is
nothing_passes w (a ∷ apdus) is none = search rules

-- Each event keeps the invariant of `txn` (`after`).
module _ (txn : Qualifiers) (after : (w : Parties) (event : Event) → Invariant txn w → Invariant txn (happens w event).1) where
  -- If the loan is open for the requester, the responder sends its messages after the requester's half.
  responder_wants : (w : Parties) → Invariant txn w → is_over w.requester.live ≡ false
      → wants_sending (asks w.requester.live) (run_of w (half_of who.Requester w)).responder.live ≡ true
  responder_wants w stands is_open = go (is_none (issued_of w.requester.live)) refl
    where
      -- Returns the world after the requester's half.
      between : Parties
      between = run_of w (half_of who.Requester w)

      -- This world satisfies the invariant.
      stands_between : Invariant txn between
      stands_between = run_stands txn after w (half_of who.Requester w) stands

      -- If the requester has issued nothing, the loan is open for the responder. Otherwise the responder was asked.
      go : (none : Bool) → is_none (issued_of w.requester.live) ≡ none
          → wants_sending (asks w.requester.live) between.responder.live ≡ true
      go true none =
          open_wants (asks w.requester.live) between.responder.live
          (ap is_over (nothing_passes w (issued_of w.requester.live) refl none)
          ∙ unasked_is_open txn w.responder.live w.requester.sent (issued_of w.requester.live) stands.responder.live
          (live_issues w.requester stands.requester.saved) none)
      go false some =
          let it_asks : asks w.requester.live ≡ true = and_from _ _ (open_wants false w.requester.live is_open) (ap not some) in
          ap (λ b. wants_sending b between.responder.live) it_asks
          ∙ asked_wants txn between.responder.live between.requester.sent stands_between.responder.live

  -- If the loan is open for the requester, a night is a round.
  pub night_is_round : (w : Parties) → Invariant txn w → is_over w.requester.live ≡ false → night_of w ≡ round_of w
  night_is_round w stands is_open =
      let first = half_of who.Requester w in
      ap (night_from w) (ap (λ b. half_if b who.Requester w) (open_wants false w.requester.live is_open))
      ∙ ap (λ b. first ++ half_if b who.Responder (run_of w first)) (responder_wants w stands is_open)

  -- If both sides are at rest, and the loan is over, a night is a save of each side.
  pub night_is_saves : (w : Parties) → AreAtRest w → is_over w.requester.live ≡ true
      → night_of w ≡ Save who.Requester ∷ Save who.Responder ∷ []
  unfolding run_by
  night_is_saves w rest over =
      let silent : wants_sending false w.requester.live ≡ false = over_is_silent w.requester.live over in
      let nothing_asked : asks w.requester.live ≡ false = ap (λ b. b && not (is_none (issued_of w.requester.live))) silent in
      let both_silent : wants_sending (asks w.requester.live) w.responder.live ≡ false =
      ap (λ b. wants_sending b w.responder.live) nothing_asked
      ∙ over_is_silent w.responder.live (rests_responder w.requester.live w.responder.live rest) in
      ap (night_from w) (ap (λ b. half_if b who.Requester w) silent)
      ∙ ap (λ b. Save who.Requester ∷ half_if b who.Responder (run_of w (Save who.Requester ∷ []))) both_silent

-- ---- a night

-- After a save of each side both sides are still at rest.
rest_after : (w : Parties) (events : List Event) → AreAtRest w → events ≡ Save who.Requester ∷ Save who.Responder ∷ []
    → AreAtRest (run_of w events)
unfolding run_by
rest_after w events rest is = subst (λ (l : List Event). AreAtRest (run_of w l)) (sym is) rest

-- If the loan is open for the requester, the night is a round, which brings both sides to convergence. If the loan is
-- over, both sides were at rest, and only save, so that they are at rest still.
pub one_night : (w : Parties) → (is_over w.requester.live ≡ false → night_of w ≡ round_of w)
    → (is_over w.requester.live ≡ true → night_of w ≡ Save who.Requester ∷ Save who.Responder ∷ [])
    → (is_over w.requester.live ≡ true → AreAtRest w) → AreConverged (run_of w (round_of w))
    → AreConvergedOrAtRest (run_of w (night_of w))
one_night w rounds saves rests step = go (is_over w.requester.live) refl
  where
    -- If the loan is open for the requester, the night is a round. Otherwise it is a save of each side.
    go : (over : Bool) → is_over w.requester.live ≡ over → AreConvergedOrAtRest (run_of w (night_of w))
    go false is = inl (subst (λ (l : List Event). AreConverged (run_of w l)) (sym (rounds is)) step)
    go true is = inr (rest_after w (night_of w) (rests is) (saves is))
