-- Proves the contract of `ManySides::act_first` (`src/many_sides.rt`).
-- The action leads to the new side by a transition from the idle side of the transaction.
use Rattle.std.proofs.Common.{rules, ◌≡◌, true, None, Ok, length, nat_lt}
use Rattle.ill_record.specs.Side.{acted, acts, txn_of, idle_side, IsSideTransition}
use Rattle.ill_record.specs.Sides.{most_sides, put_refusal}
use Rattle.ill_saved.specs.ManySides.{sides_held}
use Rattle.ill_saved.proofs.Contents.{may_begin_with}
use Rattle.ill_saved.proofs.many_sides.ManySides.act_first.Goals.{In_ok-side}
use Rattle.ill_saved.proofs.many_sides.ManySides.act_first.Goals as goal

-- The side that has begun may be put. A transition led to it from the idle side of its transaction.
may : (c : In_ok-side)
    → (put_refusal (sides_held c.args.self.now) c.in_ok-side.side ≡ None)
    × IsSideTransition (idle_side c.args.self.now.role (txn_of c.in_ok-side.side)) c.in_ok-side.side
may c =
    let live = c.args.self.now in
    let room : nat_lt (length live.held) most_sides ≡ true = search rules in
    let done : acts (idle_side live.role c.args.txn.now) c.args.action.now ≡ Ok c.in_ok-side.side = search rules in
    let begun = c.rows_begin.ensures.acts (idle_side live.role c.args.txn.now) c.in_ok-side.side c.args.action.now done in
    may_begin_with c.rows_grow.ensures live c.args.txn.now c.requires.none room c.in_ok-side.side (acted c.args.action.now done)
    begun

-- The side that has begun may be put.
pub hold-requires-clause-may : goal.hold-requires-clause-may
hold-requires-clause-may c = (may (goal.at.hold-requires-clause-may c).In_ok-side).0

-- A transition led to the side that has begun, from the idle side of its transaction.
pub hold-requires-clause-row : goal.hold-requires-clause-row
hold-requires-clause-row c = (may (goal.at.hold-requires-clause-row c).In_ok-side).1
