-- A trace of two sides grows by one line with each event.
use Rattle.std.proofs.Common.{arith, ◌≡◌, ◌+◌, List, [], ◌∷◌, ◌++◌, length}
use Rattle.std.proofs.Common.{refl, sym, ap, ◌∙◌}
use Rattle.ill_values.specs.TxnId.{Qualifiers}
use Rattle.ill_record.specs.Side.{IsPrefix}
use Rattle.ill_world.specs.declared.event.Event.{Event}
use Rattle.ill_world.specs.World.{Parties, first_world, happens, run_by, run_of}
use Rattle.ill_world.specs.Trace.{line}
use Rattle.ill_world.specs.Simulation.{two_sides, trace_of, line_after}
use Rattle.ill_script.proofs.Simulations.{run_more, trace_line, trace_prefix}

-- The run of events is the first event, and then the run of the others.
run_of_next : (w : Parties) (event : Event) (events : List Event) → run_of w (event ∷ events) ≡ run_of (happens w event).1 events
unfolding run_by
run_of_next w event events = refl

-- The run of no events leaves the world unchanged.
run_of_none : (w : Parties) → run_of w [] ≡ w
unfolding run_by
run_of_none w = refl

-- One more event adds its line to the trace.
pub sides_line : (txn : Qualifiers) (events : List Event) (event : Event)
    → trace_of txn (events ++ event ∷ []) ≡ trace_of txn events ++ line_after txn events event
sides_line txn events event =
    let first = first_world txn in
    let after = run_of first events in
    let number : 1 + length events ≡ length events + 1 = omega arith in
    let text : two_sides.text (1 + length events) after event ≡ line_after txn events event =
    ap (λ m. line m (happens after event).0 (happens after event).1) number
    ∙ ap (line (length events + 1) (happens after event).0)
    (sym (run_more two_sides run_of run_of_none run_of_next first events event)) in
    trace_line two_sides run_of run_of_none run_of_next 1 first events event ∙ ap (λ t. trace_of txn events ++ t) text

-- The trace of `events` is a prefix of the trace of `events ++ more`.
pub sides_prefix : (txn : Qualifiers) (events more : List Event) → IsPrefix (trace_of txn events) (trace_of txn (events ++ more))
sides_prefix txn events more = trace_prefix two_sides run_of run_of_none run_of_next 1 (first_world txn) events more
