-- Proves the contract of `many_sides` (`src/decoding_v2.rt`).
-- The parts give exactly the sides that the fields of the record give.
use Rattle.std.proofs.Common.{arith, sym}
use Rattle.ill_record.proofs.Together.{all_held}
use Rattle.ill_record.proofs.decoding_v2.many_sides.Goals as goal

-- The sides that were read are at most 1,000.
pub held_together-requires : goal.held_together-requires
held_together-requires c = record { few = omega (arith, c.in_ok-count.ensures.few, c.in_ok-sides.ensures.few) }

-- The answer for the sides together is right for the octets.
pub returns : goal.returns
returns c =
    all_held c.args.octets.now c.after-cursor.result c.role.new.self c.side_count.new.self c.parts.new.cursor c.in_ok-role.role
    c.in_ok-count.count c.in_ok-sides.sides.items c.in_ok-ended.field-0 c.held_together.result
    c.after-cursor.ensures c.in_ok-role.ensures.read c.in_ok-count.ensures.read c.in_ok-sides.ensures.read
    c.in_ok-sides.ensures.few (sym c.in_ok-ended.ensures) c.held_together.ensures
