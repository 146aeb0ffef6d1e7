-- Proves the contract of `parts` (`src/decoding_v2.rt`).
-- Each turn of the loop reads the next part and appends its side.
use Rattle.std.proofs.Common.{rules, ap, ◌∙◌, arith, Vec, Global, [], ◌∷◌, length, length-append, ◌-◌, ◌+◌}
use Rattle.ill_record.specs.declared.side.Side.{Side}
use Rattle.ill_record.specs.Layout.{read_all}
use Rattle.ill_record.specs.RecordsV2.{part}
use Rattle.ill_record.proofs.Lists.{after, one_more, none_more, all_there, fault_stays}
use Rattle.ill_record.proofs.decoding_v2.parts.Goals as goal

-- A fault of one part is the fault of the whole list.
pub returns-in_err-part-clause-read : goal.returns-in_err-part-clause-read
returns-in_err-part-clause-read c =
    let whole = read_all part c.args.count c.args.cursor.now in
    let stays = none_more part c.loop.sides.items c.args.count c.loop.counter c.loop.cursor whole c.loop.invariant.read
    (omega (arith, c.loop-test.true)) in
    search (
      rules,
      fault_stays (λ a. a) (λ (sides : Vec Side Global). sides.items) c.in_err-part.field-0.0 c.part.new.cursor
          c.part.new.cursor (part.read c.loop.cursor) whole stays c.in_err-part.ensures.read,
    )

-- One more turn of the loop keeps the invariant. The next side becomes the last of the list (`next`).
pub loop-preserved : goal.loop-preserved
loop-preserved c =
    let next = one_more part c.loop.sides.items c.args.count c.loop.counter c.loop.cursor
    (read_all part c.args.count c.args.cursor.now) c.loop.invariant.read (omega (arith, c.loop-test.true)) in
    record {
      turns = omega (arith, c.loop-test.true);
      so_many = omega (
        arith,
        ap length c.in_ok-push.ensures.items,
        length-append c.loop.sides.items (c.in_ok-part.field-0 ∷ []),
        c.loop.invariant.so_many,
      );
      room = omega (arith, c.loop.invariant.room, c.in_ok-part.ensures.near);
      read = ap (λ vs. after vs (read_all part (c.args.count - (c.loop.counter + 1)) c.part.new.cursor))
          c.in_ok-push.ensures.items ∙ next c.in_ok-part.field-0 c.part.new.cursor c.in_ok-part.ensures.read;
    }

-- After `count` parts, the list is the whole list of sides that is read.
pub returns-clause-read : goal.returns-clause-read
returns-clause-read c = all_there part c.loop.sides.items c.args.count c.loop.counter c.loop.cursor
    (read_all part c.args.count c.args.cursor.now) c.loop.invariant.read (omega arith)
