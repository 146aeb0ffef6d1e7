-- The definitions of safety and agreement exclude each world of `IsUnsafe` and `Disagrees`. The promises on events
-- exclude each event of `TakesBack` and `ArrivesInVain`.
use Rattle.std.proofs.Common.{rules, ◌≡◌, inl, inr, ℕ, true, false, List, [], ◌∷◌, Option, Some, None, sym, ap, subst, refl, ◌∙◌}
use Rattle.std.proofs.lemmas.Option.{same_Some}
use Rattle.ill_values.specs.Day.{Date}
use Rattle.ill_values.specs.declared.apdu.AnswerResult.{AnswerResult}
use Rattle.ill_values.specs.declared.apdu.Apdu.{Apdu}
use Rattle.ill_core.specs.Dates.{is_after_due}
use Rattle.ill_values.specs.Body.{Body}
use Rattle.ill_values.specs.declared.apdu.BodyWith.TheVariants.{IllAnswer, ConditionalReply, CancelReply, Shipped, RenewAnswer}
use Rattle.ill_values.specs.declared.apdu.BodyWith.TheVariants.{Expired}
use Rattle.ill_core.specs.declared.state.State.{State}
use Rattle.ill_core.specs.declared.state.State.TheVariants as states
use Rattle.ill_core.specs.State.{is_among}
use Rattle.ill_values.specs.Bodies.{is_end, is_final, is_returned}
use Rattle.ill_core.specs.Issued.{message}
use Rattle.ill_core.specs.Requester.{RequesterRecord}
use Rattle.ill_core.specs.RequesterEvidence.{replied_number, KeepsDue}
use Rattle.ill_core.specs.Responder.{ResponderRecord}
use Rattle.ill_core.specs.ResponderEvidence.{MayCancel, MayRenew, answered_number}
use Rattle.ill_record.specs.declared.side.Side.{Side}
use Rattle.ill_record.specs.declared.side.Side.TheVariants as sides
use Rattle.ill_record.specs.Side.{issued_of, due_date_of}
use Rattle.ill_world.specs.declared.event.Event.{Event}
use Rattle.ill_record.specs.declared.role.Role.TheVariants as who
use Rattle.ill_world.specs.declared.event.Event.TheVariants.{Deliver, Restart}
use Rattle.ill_words.specs.declared.outcome.Outcome.{Outcome}
use Rattle.ill_world.specs.World.{Party, Parties, happens, sent_message}
use Rattle.ill_core.proofs.GrantLemmas.{before_chains, not_before_itself}
use Rattle.ill_world.specs.Safety.{EndsAlike, WasShipped, WasGranted, OfBoth, Safe}
use Rattle.ill_world.specs.Agreement.{AnswersOnce, AnswersOnceBoth, EndsOnce, Facing, AcceptedBy, IsNotLater, SaysTrue, Agrees}
use Rattle.ill_world.specs.Agreement.{KeepsLiveDate, KeepsDates, Settles, settled_by, Arrives}
use Rattle.ill_world.specs.BadWorlds.{Has, HasMessages, TwoSay, Contradicts, IsUnsafe, Misleads, Disagrees, not_supplied}
use Rattle.ill_world.specs.BadWorlds.{cancelled, never_shipped, never_granted, contradicted, due_later, not_returned}
use Rattle.ill_world.specs.BadWorlds.{checked_in_unreturned, cancelled_unasked, not_received, not_checked_in, TakesBack}
use Rattle.ill_world.specs.BadWorlds.{IsTakenBack, IsUnheeded, ArrivesInVain, in_memory, in_store, shipped_in_vain}
use Rattle.ill_world.specs.BadWorlds.{cancelled_in_vain, expired_in_vain, refused_in_vain, returned_in_vain, conditions_twice}
use Rattle.ill_world.specs.BadWorlds.{cancel_twice, renew_twice, ended_twice, never_accepted, acceptance_forgotten, misled}

-- ---- either record of a party

-- If `P` holds of a party's live and committed sides, it holds of each side that the party `Has`.
of_record : (P : Side → Type 0) (p : Party) (side : Side) → P p.live → P p.committed → Has p side → P side
of_record P p side live committed (inl is) = subst P is live
of_record P p side live committed (inr is) = subst P is committed

-- If `P` holds of all four pairs of sides, it holds of each pair that the parties have.
of_pair : (P : Side → Side → Type 0) (w : Parties) (x y : Side) → OfBoth P w → Has w.requester x → Has w.responder y → P x y
of_pair P w x y both requester_has responder_has =
    of_record (P x) w.responder y (of_record (λ s. P s w.responder.live) w.requester x both.live both.committed_live
    requester_has)
    (of_record (λ s. P s w.responder.committed) w.requester x both.live_committed both.committed requester_has) responder_has

-- ---- safety

-- If `EndsAlike`, `WasShipped` and `WasGranted` hold of two sides, these do not contradict each other.
pub no_contradiction : (x y : Side) → Contradicts x y → EndsAlike x y → WasShipped x y → WasGranted x y → ⊥
no_contradiction x y (not_supplied is other) ends shipped granted = other (ends.1 is)
no_contradiction x y (cancelled is other) ends shipped granted = other (ends.0 is)
no_contradiction x y (never_shipped is none) ends shipped granted = let both : true ≡ false = sym (shipped is) ∙ none in cc
no_contradiction x y (never_granted due is none) ends shipped granted = let grant = granted due is in
    none grant.0 grant.1 grant.2 grant.3

-- A world of which `IsUnsafe` holds is not safe.
pub not_safe : (w : Parties) → IsUnsafe w → Safe w → ⊥
not_safe w (contradicted x y requester_has responder_has bad) safe =
    no_contradiction x y bad (of_pair EndsAlike w x y safe.ends requester_has responder_has)
    (of_pair WasShipped w x y safe.shipped requester_has responder_has)
    (of_pair WasGranted w x y safe.granted requester_has responder_has)

-- ---- agreement

-- A state among CANCEL-PENDING and CANCELLED is one of them.
has_asked : (state : State) → is_among (states.CancelPending ∷ states.Cancelled ∷ []) state ≡ true
    → (state ≡ states.CancelPending → ⊥) → (state ≡ states.Cancelled → ⊥) → ⊥
has_asked states.CancelPending is waits done = waits refl
has_asked states.Cancelled is waits done = done refl
has_asked state is waits done = search rules

-- If `IsNotLater` and `SaysTrue` hold of two records, `Misleads` does not.
not_misled : (x : RequesterRecord) (y : ResponderRecord) → Misleads x y → IsNotLater x y → SaysTrue x y → ⊥
not_misled x y (due_later due is after) dates says = let granted = dates due is in let both : true ≡ false =
    sym (after granted.0 granted.1) ∙ granted.2 in cc
not_misled x y (not_returned is other) dates says = other (says.returned (rw is refl))
not_misled x y (checked_in_unreturned is other) dates says = other (says.returned (rw is refl))
not_misled x y (cancelled_unasked is waits done) dates says = has_asked x.state (says.cancelled is) waits done
not_misled x y (not_received is none) dates says = let both : true ≡ false = sym (says.received is) ∙ none in cc
not_misled x y (not_checked_in is other) dates says = other (says.checked_in is)

-- No two messages of `at` answer one number, and the bodies `this` and `that` answer k. Then no two messages of `at`
-- with different numbers have these bodies.
not_twice : (answered : Body → Option ℕ) (at : ℕ → Option Apdu) (k : ℕ) (this that : Body) → answered this ≡ Some k
    → answered that ≡ Some k → AnswersOnce answered at
    → TwoSay at (λ body. body ≡ this) (λ body. body ≡ that) → ⊥
not_twice answered at k this that first second once two =
    two.6 (once two.0 two.1 k two.2 two.3 two.4 two.5 (ap answered two.7 ∙ first) (ap answered two.8 ∙ second))

-- If `AnswersOnceBoth` holds of a party, `AnswersOnce` holds of its live messages and of its sent ones.
of_messages : (answered : Body → Option ℕ) (p : Party) (at : ℕ → Option Apdu) → AnswersOnceBoth answered p
    → HasMessages p at → AnswersOnce answered at
of_messages answered p at both (inl is) = subst (AnswersOnce answered) (sym is) both.0
of_messages answered p at both (inr is) = subst (AnswersOnce answered) (sym is) both.1

-- If `EndsOnce` holds of a side, no two of its messages end the request.
not_ended_twice : (side : Side) → EndsOnce side
    → TwoSay (message (issued_of side)) (λ body. is_end body ≡ true) (λ body. is_end body ≡ true) → ⊥
not_ended_twice side once two =
    two.6 (same_Some two.0 two.1 (sym (once two.0 two.2 two.4 two.7) ∙ once two.1 two.3 two.5 two.8))

-- If `Disagrees` holds of a world, its sides do not agree.
pub not_agreed : (w : Parties) → Disagrees w → Agrees w → ⊥
not_agreed w (conditions_twice at k said again of two) agrees =
    not_twice replied_number at k (ConditionalReply k said) (ConditionalReply k again) refl refl
    (of_messages replied_number w.requester at agrees.answered.conditions of) two
not_agreed w (cancel_twice at k said again of two) agrees =
    not_twice (answered_number MayCancel) at k (CancelReply k said) (CancelReply k again) refl refl
    (of_messages (answered_number MayCancel) w.responder at agrees.answered.cancels of) two
not_agreed w (renew_twice at k due again of two) agrees =
    not_twice (answered_number MayRenew) at k (RenewAnswer k due) (RenewAnswer k again) refl refl
    (of_messages (answered_number MayRenew) w.responder at agrees.answered.renewals of) two
not_agreed w (ended_twice side of two) agrees =
    not_ended_twice side (of_record EndsOnce w.responder side agrees.ended.0 agrees.ended.1 of) two
not_agreed w (never_accepted y c of is none) agrees =
    let reply = of_record (AcceptedBy w) w.responder (sides.Responder y) agrees.accepted.0 agrees.accepted.1 of c is in
    none reply.0 reply.1 reply.2 reply.4
not_agreed w (acceptance_forgotten y c of is none) agrees =
    let reply = of_record (AcceptedBy w) w.responder (sides.Responder y) agrees.accepted.0 agrees.accepted.1 of c is in
    none reply.0 reply.1 reply.3 reply.4
not_agreed w (misled x y requester_has responder_has bad) agrees =
    not_misled x y bad (of_pair (Facing IsNotLater) w (sides.Requester x) (sides.Responder y) agrees.dates requester_has
    responder_has)
    (of_pair (Facing SaysTrue) w (sides.Requester x) (sides.Responder y) agrees.says requester_has responder_has)

-- ---- events

-- A due date that is kept or raised is not taken back.
not_taken_back : (old new : Option Date) → IsTakenBack old new → KeepsDue old new → ⊥
not_taken_back old new (due, was, now) (inl none) = let both : ◌≡◌ {A = Option Date} (Some due) None = sym was ∙ none in cc
not_taken_back old new (due, was, now) (inr (inl same)) = not_before_itself due (now due (same ∙ was))
not_taken_back old None (due, was, now) (inr (inr raised)) = cc
not_taken_back old (Some later) (due, was, now) (inr (inr raised)) =
    not_before_itself due (before_chains due later due (sym (ap (is_after_due later) was) ∙ raised) (now later refl))

-- If `KeepsLiveDate` holds of an event other than the requester's restart, the event keeps or raises the live due date.
live_kept : (event : Event) (old new : Party) → (event ≡ Restart who.Requester → ⊥) → KeepsLiveDate event old new
    → KeepsDue (due_date_of old.live) (due_date_of new.live)
live_kept (Restart who.Requester) old new other keeps = absurd (other refl)
live_kept event old new other keeps = keeps

-- An event that keeps the requester's due dates takes none of them back.
pub no_date_taken_back : (old new : Parties) (event : Event) → TakesBack old event new → KeepsDates old event new → ⊥
no_date_taken_back old new event (in_memory other back) keeps =
    not_taken_back _ _ back (live_kept event old.requester new.requester other keeps.0)
no_date_taken_back old new event (in_store back) keeps = not_taken_back _ _ back keeps.1

-- If a message settles a side in the states `among`, `IsUnheeded` does not hold of it.
pub heeded : (among : List State) (outcome : Outcome) (side : Side) → IsUnheeded among outcome side
    → Settles among outcome side → ⊥
heeded among outcome side (inl (taken, repeat)) (inl is, there) = taken is
heeded among outcome side (inl (taken, repeat)) (inr is, there) = repeat is
heeded among outcome side (inr elsewhere) (seen, there) = let both : true ≡ false = sym there ∙ elsewhere in cc

-- If `Arrives` holds of a delivery, `IsUnheeded` does not hold of a sent message that ends the request.
end_heeded : (w : Parties) (n : ℕ) (a : Apdu) (body : Body) → Arrives w (Deliver who.Requester n)
    → sent_message w.responder.sent n ≡ Some a → a.body ≡ body → is_end body ≡ true
    → IsUnheeded (settled_by body) (happens w (Deliver who.Requester n)).0 (happens w (Deliver who.Requester n)).1.requester.live
    → ⊥
end_heeded w n a body arrives sent is ends unheeded =
    let after = happens w (Deliver who.Requester n) in
    heeded (settled_by body) after.0 after.1.requester.live unheeded
    (subst (λ b. Settles (settled_by b) after.0 after.1.requester.live) is (arrives a sent (ap is_end is ∙ ends)))

-- A final ILL-Answer ends the request.
pub final_ends : (answer : AnswerResult) → is_final answer ≡ true → is_end (IllAnswer answer) ≡ true
final_ends answer is = rw is refl

-- If `Arrives` holds of an event, no message arrives in vain by it.
pub none_in_vain : (w : Parties) (event : Event) → ArrivesInVain w event → Arrives w event → ⊥
none_in_vain w _ (shipped_in_vain n a due sent is unheeded) arrives = end_heeded w n a (Shipped due) arrives sent is refl unheeded
none_in_vain w _ (cancelled_in_vain n a c sent is unheeded) arrives =
    end_heeded w n a (CancelReply c true) arrives sent is refl unheeded
none_in_vain w _ (expired_in_vain n a sent is unheeded) arrives = end_heeded w n a Expired arrives sent is refl unheeded
none_in_vain w _ (refused_in_vain n a answer sent is final unheeded) arrives =
    end_heeded w n a (IllAnswer answer) arrives sent is (final_ends answer final) unheeded
none_in_vain w _ (returned_in_vain n a sent is unheeded) arrives =
    let after = happens w (Deliver who.Responder n) in
    heeded (states.Returned ∷ states.CheckedIn ∷ []) after.0 after.1.responder.live unheeded (arrives a sent (ap is_returned is))
