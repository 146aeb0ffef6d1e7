-- Proves the contract of `ManySides::message` (`src/many_sides.rt`).
-- The side and its released count are those of the held entry.
use Rattle.std.proofs.Common.{rules, ◌≡◌, Some, None, ap, sym, ◌∙◌}
use Rattle.ill_record.specs.Sides.{found_by, side_with}
use Rattle.ill_saved.specs.ManySides.{txn_held, held_for}
use Rattle.ill_saved.proofs.Contents.{as_seen, held_there, none_held_there}
use Rattle.ill_saved.proofs.many_sides.ManySidesHeld.message.Goals.{In-Some}
use Rattle.ill_saved.proofs.many_sides.ManySidesHeld.message.Goals as goal

-- If the desk has a side of the transaction, the held entry has this side and its released count.
found : (c : In-Some) → found_by txn_held c.args.txn.now c.args.self.now.held
    ≡ Some (record { side = c.in-Some.side.now; released = (held_for c.args.txn.now c.args.self.now).released })
found c =
    let there : side_with c.args.txn.now c.self.inside.sides.sides ≡ Some c.in-Some.side.now = search rules in
    held_there c.args.self.now c.args.txn.now c.in-Some.side.now
    (ap (λ all. side_with c.args.txn.now all.sides)
    (sym (as_seen c.self.inside.sides c.self.inside.released.items c.args.self.now c.self.invariant.0 c.self.view_is))
    ∙ there)

-- If no side is of the transaction, the answer is `NoSuchTransaction`.
pub returns-in_default : goal.returns-in_default
returns-in_default c =
    let none : side_with c.args.txn.now c.self.inside.sides.sides ≡ None = search rules in
    let held = none_held_there c.args.self.now c.args.txn.now
    (ap (λ all. side_with c.args.txn.now all.sides)
    (sym (as_seen c.self.inside.sides c.self.inside.released.items c.args.self.now c.self.invariant.0 c.self.view_is))
    ∙ none) in
    search (rules, held)

-- If the message is not issued, the answer is `NoSuchMessage`.
pub returns-in-None : goal.returns-in-None
returns-in-None c =
    let held = found (goal.at.returns-in-None c).In-Some in
    search (rules, held)

-- If the message is issued and not released, the answer is `NotSaved`.
pub returns-in-Some-issued : goal.returns-in-Some-issued
returns-in-Some-issued c =
    let held = found (goal.at.returns-in-Some-issued c).In-Some in
    search (rules, held)

-- If memory runs out for a released message, the answer is `OutOfMemory`.
pub returns-in_err-encode-in-Some-2 : goal.returns-in_err-encode-in-Some-2
returns-in_err-encode-in-Some-2 c =
    let held = found (goal.at.returns-in_err-encode-in-Some-2 c).In-Some in
    search (rules, held)

-- If the message is released, the answer is its encoding.
pub returns-in_ok-encode-in-Some-2 : goal.returns-in_ok-encode-in-Some-2
returns-in_ok-encode-in-Some-2 c =
    let held = found (goal.at.returns-in_ok-encode-in-Some-2 c).In-Some in
    search (rules, held)
