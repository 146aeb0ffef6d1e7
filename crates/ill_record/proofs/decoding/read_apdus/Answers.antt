-- Proves the contract of `read_apdus` (`src/decoding.rt`).
-- Each turn of the loop reads the next APDU and appends it.
use Rattle.std.proofs.Common.{rules, ap, ◌∙◌, arith, Vec, Global, ◌-◌, ◌+◌}
use Rattle.ill_values.specs.declared.apdu.Apdu.{Apdu}
use Rattle.ill_record.specs.Layout.{apdu, read_all}
use Rattle.ill_record.proofs.Lists.{after, one_more, none_more, all_there, fault_stays}
use Rattle.ill_record.proofs.decoding.read_apdus.Goals as goal

-- A fault of one APDU is the fault of the whole list.
pub returns-in_err-apdu : goal.returns-in_err-apdu
returns-in_err-apdu c =
    let whole = read_all apdu c.args.count c.args.cursor.now in
    let stays = none_more apdu c.loop.apdus.items c.args.count c.loop.counter c.loop.cursor whole c.loop.invariant.read
    (omega (arith, c.loop-test.true)) in
    search (
      rules,
      fault_stays (λ a. a) (λ (apdus : Vec Apdu Global). apdus.items) c.in_err-apdu.field-0.0 c.apdu.new.self
          c.apdu.new.self (apdu.read c.loop.cursor) whole stays c.in_err-apdu.ensures.read,
    )

-- One more turn of the loop keeps the invariant. The next APDU becomes the last of the list (`next`).
pub loop-preserved : goal.loop-preserved
loop-preserved c =
    let next = one_more apdu c.loop.apdus.items c.args.count c.loop.counter c.loop.cursor
    (read_all apdu c.args.count c.args.cursor.now) c.loop.invariant.read (omega (arith, c.loop-test.true)) in
    record {
      turns = omega (arith, c.loop-test.true);
      room = omega (arith, c.loop.invariant.room, c.in_ok-apdu.ensures.near);
      read = ap (λ vs. after vs (read_all apdu (c.args.count - (c.loop.counter + 1)) c.apdu.new.self)) c.in_ok-push.ensures.items
          ∙ next c.in_ok-apdu.field-0 c.apdu.new.self c.in_ok-apdu.ensures.read;
    }

-- After `count` APDUs, the list is the whole list of APDUs that is read.
pub returns : goal.returns
returns c = all_there apdu c.loop.apdus.items c.args.count c.loop.counter c.loop.cursor
    (read_all apdu c.args.count c.args.cursor.now) c.loop.invariant.read (omega arith)
