-- In a night each side takes messages of the other, which lead it no further from the end of the loan.
use Rattle.std.proofs.Common.{rules, ◌≡◌, ◌⊎◌, inl, inr, ℕ, Bool, true, false, ◌&&◌, ◌||◌, if◌then◌else◌, List, [], ◌∷◌, refl}
use Rattle.std.proofs.Common.{sym, ap, ◌∙◌, subst}
use Rattle.std.proofs.lemmas.Bool.{true≢false}
use Rattle.ill_values.specs.TxnId.{Qualifiers}
use Rattle.ill_values.specs.declared.apdu.Apdu.{Apdu}
use Rattle.ill_values.specs.Body.{Body}
use Rattle.ill_values.specs.declared.apdu.BodyWith.TheVariants as types
use Rattle.ill_values.specs.declared.apdu.AnswerResult.TheVariants as results
use Rattle.ill_core.specs.declared.state.State.{State}
use Rattle.ill_core.specs.declared.state.State.TheVariants as states
use Rattle.ill_core.specs.State.{is_among}
use Rattle.ill_core.specs.Issued.{next_apdu}
use Rattle.ill_core.specs.Requester.{RequesterRecord}
use Rattle.ill_core.specs.RequesterDeliveries as requester_deliveries
use Rattle.ill_core.specs.Responder.{ResponderRecord, later}
use Rattle.ill_core.specs.ResponderDeliveries as responder_deliveries
use Rattle.ill_core.specs.ResponderEvidence.{IssuesUnfilled, Ends, StaysLater}
use Rattle.ill_core.proofs.RequesterMoves.{Leads, delivery_leads, nowhere, holds_conditions, ends, cancels, keeps_request}
use Rattle.ill_core.proofs.RequesterMoves.{ships, misses, reminds, reminds_renewing, renews, refuses_renewal, recalls}
use Rattle.ill_core.proofs.RequesterMoves.{checks_in}
use Rattle.ill_record.specs.declared.role.Role.TheVariants as who
use Rattle.ill_record.specs.declared.side.Side.{Side}
use Rattle.ill_record.specs.declared.side.Side.TheVariants as sides
use Rattle.ill_record.specs.Side.{issued_of}
use Rattle.ill_world.specs.declared.event.Event.{Event}
use Rattle.ill_world.specs.declared.event.Event.TheVariants.{Save}
use Rattle.ill_world.specs.World.{Parties, happens, run_by, run_of}
use Rattle.ill_world.specs.Invariant.{Invariant}
use Rattle.ill_world.specs.Round.{half_of, round_of}
use Rattle.ill_words.specs.Sending.{is_over}
use Rattle.ill_world.specs.Night.{night_of}
use Rattle.ill_world.proofs.Hearing.{taking, keeps_all}
use Rattle.ill_world.proofs.OneRound.{requester_taking, responder_taking}
use Rattle.ill_world.proofs.Rounds.{takes_all, round_passes}
use Rattle.ill_world.proofs.Runs.{run_stands}
use Rattle.ill_progress.proofs.EndsNumbers.{requester_few, responder_few}
use Rattle.ill_progress.proofs.EndsRecords.{RequesterKept, ResponderKept, renewing}

-- Returns requester `x` after it takes `a`.
abbrev pub asks : RequesterRecord → Apdu → RequesterRecord
asks x a = (requester_deliveries.takes x a).1

-- Returns responder `y` after it takes `a`.
abbrev pub lends : ResponderRecord → Apdu → ResponderRecord
lends y a = (responder_deliveries.takes y a).1

-- These facts of the tables are assumed here, one in each field. They say what a side does not lose when it takes a
-- message.
pub record RowsKeep : Type 0 where
  -- A requester that takes a message issues nothing.
  pub requester_issues : (x : RequesterRecord) (a : Apdu) → (asks x a).issued ≡ x.issued
  -- If a requester that takes a message is not in IDLE, it does not go back to IDLE.
  pub requester_begun : (x : RequesterRecord) (a : Apdu) → is_among (states.Idle ∷ []) x.state ≡ false
      → is_among (states.Idle ∷ []) (asks x a).state ≡ false
  -- A requester that takes a message stays in CANCELLED, NOT-SUPPLIED and RETURNED.
  pub requester_final : (x : RequesterRecord) (a : Apdu)
      → is_among (states.Cancelled ∷ states.NotSupplied ∷ states.Returned ∷ []) x.state ≡ true → (asks x a).state ≡ x.state
  -- A responder that takes a message issues nothing, or one ILL-Answer unfilled.
  pub responder_issues : (y : ResponderRecord) (a : Apdu) → IssuesUnfilled y a.body (lends y a)
  -- If a responder issues then a message that ends the request, it comes to the state of this message.
  pub responder_ends : (y : ResponderRecord) (a : Apdu) → Ends y (lends y a)
  -- A responder that takes a message stays in NOT-SUPPLIED, CANCELLED and CHECKED-IN.
  pub responder_final : (y : ResponderRecord) (a : Apdu)
      → is_among (states.NotSupplied ∷ states.Cancelled ∷ states.CheckedIn ∷ []) y.state ≡ true → (lends y a).state ≡ y.state
  -- If a responder that takes a message is in SHIPPED or later, it stays in SHIPPED or later.
  pub responder_later : (y : ResponderRecord) (a : Apdu) → StaysLater y (lends y a)

-- ---- states

-- RETURNED is a final state of a requester.
returned_final : (s : State) → is_among (states.Returned ∷ []) s ≡ true
    → is_among (states.Cancelled ∷ states.NotSupplied ∷ states.Returned ∷ []) s ≡ true
returned_final s is = search rules

-- NOT-SUPPLIED is a final state of a responder.
unsupplied_final : (t : State) → is_among (states.NotSupplied ∷ []) t ≡ true
    → is_among (states.NotSupplied ∷ states.Cancelled ∷ states.CheckedIn ∷ []) t ≡ true
unsupplied_final t is = search rules

-- If the test of a state after an ILL-Answer unfilled is true, the state is NOT-SUPPLIED.
ends_there : (s : State) → (true && is_among (states.NotSupplied ∷ []) s
    || (false && is_among (states.Cancelled ∷ []) s || false && is_among later s)) ≡ true
    → is_among (states.NotSupplied ∷ []) s ≡ true
ends_there states.NotSupplied is = refl
ends_there s is = search rules

-- ---- a Renew that waits

-- In RENEW/PENDING a Renew waits.
waits_in_time : (s : State) → is_among (states.RenewPending ∷ []) s ≡ true → is_among renewing s ≡ true
waits_in_time s is = search rules

-- After a refusal of a renewal no Renew waits.
refused_settled : (in_time : Bool) → is_among renewing (if in_time then states.Received else states.Overdue) ≡ false
refused_settled true = refl
refused_settled false = refl

-- A message lets no Renew wait that did not wait before.
settled_still : (x new : RequesterRecord) (number : ℕ) (body : Body) → Leads x number body new → is_among renewing x.state ≡ false
    → is_among renewing new.state ≡ false
settled_still x new number body (nowhere _) settled = settled
settled_still x new number body (holds_conditions was) settled = refl
settled_still x new number body (ends _ is was) settled = refl
settled_still x new number body (cancels cancel was) settled = refl
settled_still x new number body (keeps_request cancel was) settled = refl
settled_still x new number body (ships due was) settled = refl
settled_still x new number body (misses due was is) settled = refl
settled_still x new number body (reminds due was is) settled = refl
settled_still x new number body (reminds_renewing due was is) settled =
    absurd (true≢false (sym (waits_in_time x.state was) ∙ settled))
settled_still x new number body (renews renew due was is) settled = refl
settled_still x new number body (refuses_renewal renew was) settled =
    refused_settled (is_among (states.RenewPending ∷ []) x.state)
settled_still x new number body (recalls was) settled = refl
settled_still x new number body (checks_in was) settled = settled

-- ---- messages that a side takes

-- Messages have led the first side to the second. Both have one role, and `RequesterKept` or `ResponderKept` holds.
abbrev pub SideKept : Side → Side → Type 0
SideKept (sides.Requester x) (sides.Requester new) = RequesterKept x new
SideKept (sides.Responder y) (sides.Responder new) = ResponderKept y new
SideKept old new = ⊥

module _ (keep : RowsKeep) where
  -- A requester that takes APDUs satisfies `RequesterKept`.
  requester_kept : (x : RequesterRecord) (apdus : List Apdu) → RequesterKept x (taking asks x apdus)
  requester_kept x apdus =
      keeps_all asks (λ r. RequesterKept x r) (λ r a kept. record {
        issued = keep.requester_issues r a ∙ kept.issued;
        begun = λ is. keep.requester_begun r a (kept.begun is);
        returned = λ is.
            ap (is_among (states.Returned ∷ [])) (keep.requester_final r a (returned_final r.state (kept.returned is)))
            ∙ kept.returned is;
        settled = λ is. settled_still r (asks r a) a.number a.body (delivery_leads r a) (kept.settled is);
      }) x apdus (record { issued = refl; begun = λ is. is; returned = λ is. is; settled = λ is. is })

  -- If `r` has issued nothing since `y`, or is in NOT-SUPPLIED, this holds too after `r` takes one more message.
  issued_still : (y r : ResponderRecord) (a : Apdu) → (r.issued ≡ y.issued) ⊎ (is_among (states.NotSupplied ∷ []) r.state ≡ true)
      → IssuesUnfilled r a.body (lends r a)
      → ((lends r a).issued ≡ y.issued) ⊎ (is_among (states.NotSupplied ∷ []) (lends r a).state ≡ true)
  issued_still y r a (inl same) (inl is) = inl (is ∙ same)
  issued_still y r a (inl same) (inr more) =
      inr (ends_there (lends r a).state
      (keep.responder_ends r a (next_apdu r.txn r.issued (types.IllAnswer results.Unfilled)) more.1 refl).1)
  issued_still y r a (inr is) issues =
      inr (ap (is_among (states.NotSupplied ∷ [])) (keep.responder_final r a (unsupplied_final r.state is)) ∙ is)

  -- A responder that takes APDUs satisfies `ResponderKept`.
  responder_kept : (y : ResponderRecord) (apdus : List Apdu) → ResponderKept y (taking lends y apdus)
  responder_kept y apdus =
      keeps_all lends (λ r. ResponderKept y r) (λ r a kept. record {
        final = λ is.
            keep.responder_final r a
            (ap (is_among (states.NotSupplied ∷ states.Cancelled ∷ states.CheckedIn ∷ [])) (kept.final is) ∙ is) ∙ kept.final is;
        later = λ is. (keep.responder_later r a).0 (kept.later is);
        issued = issued_still y r a kept.issued (keep.responder_issues r a);
      }) y apdus (record { final = λ is. refl; later = λ is. is; issued = inl refl })

  -- A side that takes APDUs satisfies `SideKept`.
  pub side_kept : (side : Side) (apdus : List Apdu) → SideKept side (takes_all side apdus)
  side_kept (sides.Requester x) apdus =
      subst (SideKept (sides.Requester x)) (sym (requester_taking x apdus)) (requester_kept x apdus)
  side_kept (sides.Responder y) apdus =
      subst (SideKept (sides.Responder y)) (sym (responder_taking y apdus)) (responder_kept y apdus)

-- ---- a night

-- Each live side of `new` is that of `w` after it has taken these messages.
pub record Heard (w new : Parties) : Type 0 where
  pub to_requester : List Apdu
  pub to_responder : List Apdu
  pub requester : new.requester.live ≡ takes_all w.requester.live to_requester
  pub responder : new.responder.live ≡ takes_all w.responder.live to_responder

-- The saves of both sides leave both live sides: each has taken no message.
saves_heard : (w : Parties) → Heard w (run_of w (Save who.Requester ∷ Save who.Responder ∷ []))
unfolding run_by takes_all
saves_heard w = record { to_requester = []; to_responder = []; requester = refl; responder = refl }

module _ (txn : Qualifiers) (after : (w : Parties) (event : Event) → Invariant txn w → Invariant txn (happens w event).1) where
  -- In a round each side takes messages of the other.
  round_heard : (w : Parties) → Invariant txn w → Heard w (run_of w (round_of w))
  round_heard w stands =
      let between : Parties = run_of w (half_of who.Requester w) in
      let stands_between : Invariant txn between = run_stands txn after w (half_of who.Requester w) stands in
      let rounds = round_passes w (requester_few txn w.requester.live w.responder.sent stands.requester.live)
      stands.requester.saved.places
      (responder_few txn between.responder.live between.requester.sent stands_between.responder.live)
      stands_between.responder.saved.places in
      record {
        to_requester = issued_of (run_of w (round_of w)).responder.live;
        to_responder = issued_of w.requester.live;
        requester = rounds.requester;
        responder = rounds.responder;
      }

  -- In a night each side takes messages of the other, or none. Premises: a night is a round if the loan is open for the
  -- requester, and else two saves.
  pub night_heard : (w : Parties) → Invariant txn w → (is_over w.requester.live ≡ false → night_of w ≡ round_of w)
      → (is_over w.requester.live ≡ true → night_of w ≡ Save who.Requester ∷ Save who.Responder ∷ [])
      → Heard w (run_of w (night_of w))
  night_heard w stands rounds saves = go (is_over w.requester.live) refl
    where
      -- An open loan has a round; a loan that is over has two saves.
      go : (over : Bool) → is_over w.requester.live ≡ over → Heard w (run_of w (night_of w))
      go false is = subst (λ (l : List Event). Heard w (run_of w l)) (sym (rounds is)) (round_heard w stands)
      go true is = subst (λ (l : List Event). Heard w (run_of w l)) (sym (saves is)) (saves_heard w)
