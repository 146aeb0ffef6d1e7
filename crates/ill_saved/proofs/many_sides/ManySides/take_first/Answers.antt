-- Proves the contract of `ManySides::take_first` (`src/many_sides.rt`).
-- The message leads to the new side by a transition from the idle side of the transaction.
use Rattle.std.proofs.Common.{rules, ◌≡◌, true, None, Ok, length, nat_lt, ap}
use Rattle.ill_core.specs.declared.taking.Taking.TheVariants.{Taken}
use Rattle.ill_values.specs.Bodies.{is_ill_request}
use Rattle.ill_record.specs.Side.{took, takes, txn_of, idle_side, IsSideTransition}
use Rattle.ill_record.specs.Sides.{most_sides, put_refusal}
use Rattle.ill_saved.specs.ManySides.{sides_held}
use Rattle.ill_saved.proofs.Contents.{may_begin_with, first_begins}
use Rattle.ill_saved.proofs.many_sides.ManySides.take_first.Goals.{In_ok-side}
use Rattle.ill_saved.proofs.many_sides.ManySides.take_first.Goals as goal

-- The side that has begun may be put. A transition led to it from the idle side of its transaction. By `taken` the idle
-- side took the APDU `a`, and by `begun` the side is not idle.
may : (c : In_ok-side)
    → (put_refusal (sides_held c.args.self.now) c.in_ok-side.side ≡ None)
    × IsSideTransition (idle_side c.args.self.now.role (txn_of c.in_ok-side.side)) c.in_ok-side.side
may c =
    let live = c.args.self.now in
    let a = c.args.apdu.now in
    let room : nat_lt (length live.held) most_sides ≡ true = search rules in
    let request : is_ill_request a.body ≡ true = search rules in
    let taken : takes (idle_side live.role a.txn) a ≡ (Ok Taken, c.in_ok-side.side) = search rules in
    let begun = first_begins c.responder_has_begun.ensures.takes live.role a c.in_ok-side.side request c.requires.other taken in
    may_begin_with c.rows_grow.ensures live a.txn c.requires.none room c.in_ok-side.side (took a (ap (λ p. p.1) taken)) begun

-- The side that has begun may be put.
pub hold-requires-clause-may : goal.hold-requires-clause-may
hold-requires-clause-may c = (may (goal.at.hold-requires-clause-may c).In_ok-side).0

-- A transition led to the side that has begun, from the idle side of its transaction.
pub hold-requires-clause-row : goal.hold-requires-clause-row
hold-requires-clause-row c = (may (goal.at.hold-requires-clause-row c).In_ok-side).1
