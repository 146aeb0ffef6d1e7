-- The definitions of a round exclude worlds that are amiss. In some worlds a round without the last or first message of
-- a side leaves the sides diverged. A whole round brings them to convergence.
use Rattle.std.proofs.Common.{rules, inl, inr, List, Err, refl, sym, subst}
use Rattle.std.proofs.lemmas.Bool.{true≢false}
use Rattle.ill_core.specs.Requester.{RequesterRecord}
use Rattle.ill_core.specs.Responder.{ResponderRecord}
use Rattle.ill_record.specs.declared.side.Side.{Side}
use Rattle.ill_record.specs.declared.side.Side.TheVariants as sides
use Rattle.ill_record.specs.declared.role.Role.{Role}
use Rattle.ill_record.specs.declared.role.Role.TheVariants as who
use Rattle.ill_world.specs.declared.event.Event.{Event}
use Rattle.ill_world.specs.World.{Parties, run_of, run_by}
use Rattle.ill_world.specs.Agreement.{Facing}
use Rattle.ill_world.specs.Round.{sends_and_delivers, round_of, Performs, AreConverged, HaveDiverged}
use Rattle.ill_world.specs.Night.{AreAtRest, AreConvergedOrAtRest}
use Rattle.ill_world.specs.BadNights.{Restless}
use Rattle.ill_world.specs.BadRounds.{IsAmiss, no_requester, no_responder, both, cut_round, last_unheard, late_round, two_unheard}
use Rattle.ill_script.specs.BadTraces.{IsOfNoPrefix}
use Rattle.ill_world.proofs.HaveDiverged.{none_converged}
use Rattle.ill_world.proofs.BadNights.{not_at_rest}

-- ---- worlds that are amiss

-- `Facing P` holds of no pair whose first side is a responder's.
responder_first : (P : RequesterRecord → ResponderRecord → Type 0) (y : ResponderRecord) (side : Side)
    → Facing P (sides.Responder y) side → ⊥
responder_first P y (sides.Requester x) faces = faces
responder_first P y (sides.Responder z) faces = faces

-- `Facing P` holds of no pair whose second side is a requester's.
requester_second : (P : RequesterRecord → ResponderRecord → Type 0) (x : RequesterRecord) (side : Side)
    → Facing P side (sides.Requester x) → ⊥
requester_second P x (sides.Requester z) faces = faces
requester_second P x (sides.Responder y) faces = faces

-- If `Bad` excludes `Good` of two records, `IsAmiss Bad` excludes it of the live sides of a world.
amiss_not : (Bad Good : RequesterRecord → ResponderRecord → Type 0)
    → ((x : RequesterRecord) (y : ResponderRecord) → Bad x y → Good x y → ⊥) → (w : Parties) → IsAmiss Bad w
    → Facing Good w.requester.live w.responder.live → ⊥
amiss_not Bad Good excludes w (no_requester y is) faces =
    responder_first Good y w.responder.live (subst (λ s. Facing Good s w.responder.live) is faces)
amiss_not Bad Good excludes w (no_responder x is) faces =
    requester_second Good x w.requester.live (subst (λ s. Facing Good w.requester.live s) is faces)
amiss_not Bad Good excludes w (both x y is_x is_y bad) faces =
    excludes x y bad (subst (λ s. Facing Good (sides.Requester x) s) is_y
    (subst (λ s. Facing Good s w.responder.live) is_x faces))

-- Two sides that are diverged are not converged.
pub none_diverged : (w : Parties) → IsAmiss HaveDiverged w → AreConverged w → ⊥
none_diverged w amiss step = amiss_not HaveDiverged _ none_converged w amiss step

-- Two sides that are restless are not at rest.
pub none_restless : (w : Parties) → IsAmiss Restless w → AreAtRest w → ⊥
none_restless w amiss rest = amiss_not Restless _ not_at_rest w amiss rest

-- Two sides that are diverged and restless are neither converged nor at rest.
pub none_of_both : (w : Parties) → IsAmiss HaveDiverged w → IsAmiss Restless w → AreConvergedOrAtRest w → ⊥
none_of_both w amiss restless (inl step) = none_diverged w amiss step
none_of_both w amiss restless (inr rest) = none_restless w restless rest

-- ---- the world after events

-- If `Performs` holds, and memory ran out, a prefix of `events` leads to `new`. So `IsOfNoPrefix` does not hold.
pub none_misled : {M : Type 0} (events : List Event) (old new : Parties) (memory : M) → IsOfNoPrefix (run_of old) events new
    → Performs run_of events old (Err memory) new → ⊥
none_misled events old new memory none (prefix, (more, is), shown) = none prefix more is shown

-- ---- a round that is cut short

-- In the world `last_unheard who`, a round without the last message of `who` does not bring both sides to convergence.
pub cut_leaves_apart : (who : Role) → AreConverged (run_of (last_unheard who) (cut_round who (last_unheard who))) → ⊥
unfolding run_by sends_and_delivers
cut_leaves_apart who.Requester step = true≢false (sym step.faced)
cut_leaves_apart who.Responder step = true≢false (sym step.faced)

-- In the world `last_unheard who`, a whole round brings both sides to convergence.
pub whole_converges : (who : Role) → AreConverged (run_of (last_unheard who) (round_of (last_unheard who)))
unfolding run_by sends_and_delivers
whole_converges who.Requester =
    record { faced = refl; undeclined = refl; received = λ is. search rules; checked_in = refl; due = λ is. refl }
whole_converges who.Responder =
    record { faced = refl; undeclined = refl; received = λ is. search rules; checked_in = refl; due = λ is. refl }

-- In the world `two_unheard who`, a round without the first message of `who` does not bring both sides to convergence.
pub late_leaves_apart : (who : Role) → AreConverged (run_of (two_unheard who) (late_round who (two_unheard who))) → ⊥
unfolding run_by sends_and_delivers
late_leaves_apart who.Requester step = true≢false (sym step.faced)
late_leaves_apart who.Responder step = true≢false (sym step.faced)

-- In the world `two_unheard who`, a whole round brings both sides to convergence.
pub whole_converges_both : (who : Role) → AreConverged (run_of (two_unheard who) (round_of (two_unheard who)))
unfolding run_by sends_and_delivers
whole_converges_both who.Requester =
    record { faced = refl; undeclined = refl; received = λ is. search rules; checked_in = refl; due = λ is. refl }
whole_converges_both who.Responder =
    record { faced = refl; undeclined = refl; received = λ is. refl; checked_in = refl; due = λ is. refl }
