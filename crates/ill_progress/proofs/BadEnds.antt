-- The definitions of the end of a loan exclude the wrong answers, and hold what they say.
use Rattle.std.proofs.Common.{arith, ◌≡◌, inl, inr, ℕ, zero, suc, ◌≤◌, Bool, List, [], ◌∷◌, ◌++◌, length, sym, ◌∙◌}
use Rattle.std.proofs.Common.{subst}
use Rattle.std.proofs.lemmas.Bool.{true≢false}
use Rattle.ill_values.specs.Day.{Date}
use Rattle.ill_record.specs.declared.side.Side.{Side}
use Rattle.ill_record.specs.Side.{issued_of}
use Rattle.ill_world.specs.declared.event.Event.{Event}
use Rattle.ill_world.specs.World.{Parties, happens, run_by, run_of}
use Rattle.ill_world.specs.Night.{AreAtRest, night_of}
use Rattle.ill_world.proofs.Runs.{run_both}
use Rattle.ill_progress.specs.BadEnds.{MisjudgesAct, asks, declines, receives, returns, answers, cancels, ships, expires}
use Rattle.ill_progress.specs.BadEnds.{checks_in, asks_to_cancel, accepts, renews, goes_on, keeps_request, answers_renew}
use Rattle.ill_progress.specs.BadEnds.{reminds, recalls, saves, fails, sends, delivers, hears, restarts}
use Rattle.ill_progress.specs.Ends.{is_act_to_end, CanEnd, HasNumbers}

-- If `says` is a wrong answer for `event`, it is not the answer of `is_act_to_end`.
pub not_misjudged : (event : Event) (says : Bool) → MisjudgesAct event says → says ≡ is_act_to_end event → ⊥
not_misjudged event says (asks expiry item) e = true≢false (sym e)
not_misjudged event says declines e = true≢false (sym e)
not_misjudged event says receives e = true≢false (sym e)
not_misjudged event says returns e = true≢false (sym e)
not_misjudged event says (answers answer today ends) e = true≢false (sym ends ∙ sym e)
not_misjudged event says (cancels today) e = true≢false (sym e)
not_misjudged event says (ships due today) e = true≢false (sym e)
not_misjudged event says (expires today) e = true≢false (sym e)
not_misjudged event says (answers_renew granted today) e = true≢false (sym e)
not_misjudged event says (checks_in today) e = true≢false (sym e)
not_misjudged event says asks_to_cancel e = true≢false e
not_misjudged event says accepts e = true≢false e
not_misjudged event says (renews wished) e = true≢false e
not_misjudged event says (goes_on answer today open_still) e = true≢false (e ∙ open_still)
not_misjudged event says (keeps_request today) e = true≢false e
not_misjudged event says (reminds today) e = true≢false e
not_misjudged event says (recalls today) e = true≢false e
not_misjudged event says (saves who) e = true≢false e
not_misjudged event says (fails who committed) e = true≢false e
not_misjudged event says (sends who n) e = true≢false e
not_misjudged event says (delivers who n) e = true≢false e
not_misjudged event says (hears who bytes) e = true≢false e
not_misjudged event says (restarts who) e = true≢false e

-- If the loan can be ended from `w`, some events bring both sides to rest. They are the acts, each with its night.
pub ends_by_events : (days : ℕ) (w : Parties) (today : Date) → CanEnd days w → (events : List Event) × AreAtRest (run_of w events)
unfolding CanEnd run_by
ends_by_events zero w today rest = ([], rest)
ends_by_events (suc days) w today (inl rest) = ([], rest)
ends_by_events (suc days) w today (inr (act, does)) =
    let acted : Parties = (happens w (act today)).1 in
    let later = ends_by_events days (run_of acted (night_of acted)) today (does today).2 in (
      act today ∷ (night_of acted ++ later.0),
      subst AreAtRest (sym (run_both happens acted (night_of acted) later.0)) later.1,
    )

-- A side that has issued at most 250 messages can issue five more.
pub numbers_for_five : (side : Side) → length (issued_of side) ≤ 250 → HasNumbers 5 side
numbers_for_five side few = omega (arith, few)
