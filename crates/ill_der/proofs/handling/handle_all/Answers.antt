-- Proves the contract of `handling::handle_all`: the APDUs before the returned offset were handled, or handling failed.
-- Each turn of the loop handles the next APDU and adds its size to the offset.
use Rattle.std.proofs.Common.{Result, ℕ, Ok, length, ◌-◌, take, drop, subst}
use Rattle.ill_der.specs.declared.fault.DerFault.{DerFault}
use Rattle.ill_der.specs.FeedView.{HandlesFirst}
use Rattle.ill_der.proofs.FeedLemmas.{one_more_handled, fails_after}
use Rattle.ill_der.proofs.handling.handle_all.Goals as goal

-- If the next APDU was handled and has `size` bytes, the APDUs before `at + size` were handled.
pub loop-size-preserved : goal.loop-size-preserved
loop-size-preserved g c =
    let handles = g.H.Handler.handles in
    let bytes = c.args.bytes.now in
    let first =
    subst (λ (r : Result ℕ DerFault).
    HandlesFirst handles (take (length bytes - c.loop-size.at) (drop c.loop-size.at bytes))
    (c.loop-size.handler, c.loop-size.context) (Ok r) (c.handle_first.new.handler, c.handle_first.new.context))
    c.in-Ok-Ok.field-0-is c.in-Ok-Ok.ensures in
    let more =
    one_more_handled handles bytes c.loop-size.at c.in-Ok-Ok.size (c.args.handler.now, c.args.context.now)
    (c.loop-size.handler, c.loop-size.context) (c.handle_first.new.handler, c.handle_first.new.context)
    c.loop-size.invariant.within c.loop-size.invariant.so_far first in
    record { within = more.0; so_far = more.1 }

-- If handling the next APDU failed, handling `bytes` failed.
pub returns-in-Err : goal.returns-in-Err
returns-in-Err g c =
    fails_after g.H.Handler.handles c.args.bytes.now c.loop-size.at (c.args.handler.now, c.args.context.now)
    (c.loop-size.handler, c.loop-size.context)
    (c.handle_first.new.handler, c.handle_first.new.context) c.in-Err.fault c.loop-size.invariant.so_far c.in-Err.ensures
