-- The trace of a run of two desks grows by one line with each event.
use Rattle.std.proofs.Common.{arith, ◌≡◌, ◌+◌, List, [], ◌∷◌, ◌++◌, length, refl, sym, ap, ◌∙◌}
use Rattle.ill_record.specs.Side.{IsPrefix}
use Rattle.ill_world.specs.World.{run_by}
use Rattle.ill_world.specs.Desks.{DeskParties, first_desks, desks_happen, desks_run}
use Rattle.ill_world.specs.DeskScript.{EventIn}
use Rattle.ill_world.specs.DeskSimulation.{two_desks, desk_events, desk_trace_of, desk_line_after}
use Rattle.ill_world.specs.DeskTrace.{desk_line}
use Rattle.ill_script.proofs.Simulations.{run_more, trace_line, trace_prefix}

-- Returns the desks after `events`, each of which has its transaction in use.
abbrev run_in : DeskParties → List EventIn → DeskParties
run_in w events = desks_run w (desk_events events)

-- The run of events is the first event, and then the run of the others.
run_in_next : (w : DeskParties) (event : EventIn) (events : List EventIn)
    → run_in w (event ∷ events) ≡ run_in (two_desks.next w event) events
unfolding run_by
run_in_next w event events = refl

-- The run of no events leaves the desks unchanged.
run_in_none : (w : DeskParties) → run_in w [] ≡ w
unfolding run_by
run_in_none w = refl

-- One more event adds its line to the trace.
pub desks_line : (events : List EventIn) (event : EventIn)
    → desk_trace_of (events ++ event ∷ []) ≡ desk_trace_of events ++ desk_line_after events event
desks_line events event =
    let after = run_in first_desks events in
    let number : 1 + length events ≡ length events + 1 = omega arith in
    let text : two_desks.text (1 + length events) after event ≡ desk_line_after events event =
    ap (λ m. desk_line m event.txn (desks_happen after event.event).0 (desks_happen after event.event).1) number
    ∙ ap (desk_line (length events + 1) event.txn (desks_happen after event.event).0)
    (sym (run_more two_desks run_in run_in_none run_in_next first_desks events event)) in
    trace_line two_desks run_in run_in_none run_in_next 1 first_desks events event ∙ ap (λ t. desk_trace_of events ++ t) text

-- The trace of `events` is a prefix of the trace of `events ++ more`.
pub desks_prefix : (events more : List EventIn) → IsPrefix (desk_trace_of events) (desk_trace_of (events ++ more))
desks_prefix events more = trace_prefix two_desks run_in run_in_none run_in_next 1 first_desks events more
