-- Proves the loop invariant and the contract of `sends_and_delivers` (`src/world.rt`). Each turn of the loop appends
-- the two events of one message.
use Rattle.std.proofs.Common.{arith, ◌+◌, ◌-◌, ◌∙◌}
use Rattle.ill_world.proofs.Rounds.{passes_grow, passes_none}
use Rattle.ill_world.proofs.world.sends_and_delivers.Goals as goal

-- The Send and the Deliver of message `index + 1` are appended.
pub loop-index-preserved : goal.loop-index-preserved
loop-index-preserved c =
    let index = c.loop-index.index in
    passes_grow c.args.who c.other.result (index + 1) c.in-Some.number (c.args.count - index) (c.args.count - (index + 1))
    c.loop-index.events.items c.push.new.self.items c.push-in-loop-index.new.self.items _
    c.other.ensures c.in-Some.ensures.value (omega (arith, c.loop-index-test.true)) c.in_ok-push.ensures.items
    c.in_ok-push-2.ensures.items c.loop-index.invariant

-- After the last message no event is left.
pub returns : goal.returns
returns c = passes_none c.loop-index.events.items c.args.who (c.loop-index.index + 1) (c.args.count - c.loop-index.index)
    (omega (arith, c.loop-index-test.false)) ∙ c.loop-index.invariant
