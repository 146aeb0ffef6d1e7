-- Two records that are diverged are not converged.
use Rattle.std.proofs.Common.{rules, ◌≡◌, true, [], ◌∷◌, sym, ap, ◌∙◌}
use Rattle.std.proofs.lemmas.Bool.{true≢false, and_from}
use Rattle.ill_core.specs.declared.state.State.{State}
use Rattle.ill_core.specs.declared.state.State.TheVariants as states
use Rattle.ill_core.specs.State.{is_among}
use Rattle.ill_core.specs.Requester.{RequesterRecord}
use Rattle.ill_core.specs.Responder.{ResponderRecord}
use Rattle.ill_world.specs.Round.{faced_in, facing_in, HaveConverged, HaveDiverged, unfaced, declined, unmarked, unreceived}
use Rattle.ill_world.specs.Round.{not_yet_checked_in, checked_in_early, due_apart}

-- If `s` faces `t` by the requester's table, `t` faces `s` by the responder's.
pub faces_back : (s t : State) → is_among (faced_in s) t ≡ true → is_among (facing_in t) s ≡ true
faces_back s t faced = search rules

-- A state among CHECKED-IN alone is CHECKED-IN.
checked_in_only : (t : State) → is_among (states.CheckedIn ∷ []) t ≡ true → t ≡ states.CheckedIn
checked_in_only states.CheckedIn is = search rules
checked_in_only t is = search rules

-- Two records that are diverged are not converged.
pub none_converged : (x : RequesterRecord) (y : ResponderRecord) → HaveDiverged x y → HaveConverged x y → ⊥
none_converged x y (unfaced apart) step = true≢false (sym (faces_back x.state y.state step.faced) ∙ apart)
none_converged x y (declined is refused) step =
    true≢false (sym (and_from _ _ (ap (is_among (states.Conditional ∷ [])) is) refused) ∙ step.undeclined)
none_converged x y (unmarked out has_it unknown) step = true≢false (sym has_it ∙ sym (step.received out) ∙ unknown)
none_converged x y (unreceived out lacks_it known) step = true≢false (sym known ∙ step.received out ∙ lacks_it)
none_converged x y (not_yet_checked_in is is_unmarked) step =
    true≢false (sym (ap (is_among (states.CheckedIn ∷ [])) is) ∙ sym step.checked_in ∙ is_unmarked)
none_converged x y (checked_in_early apart is_marked) step = apart (checked_in_only y.state (sym step.checked_in ∙ is_marked))
none_converged x y (due_apart out apart) step = apart (step.due out)
