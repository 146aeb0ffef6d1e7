-- Proves the contract of `ManySides::released_of` (`src/many_sides.rt`).
-- The side and its count have one index in their lists.
use Rattle.std.proofs.Common.{rules, ◌≡◌, ℕ, ◌<◌, ◌≤◌, length, Some, None, ap, sym, subst, ◌∙◌}
use Rattle.std.specs.Prelude.{position}
use Rattle.ill_core.specs.Issued.{is_same_txn}
use Rattle.ill_record.specs.Side.{txn_of, issued_of}
use Rattle.ill_saved.specs.ManySides.{held_for, AreBackable}
use Rattle.ill_saved.proofs.Contents.{count_there, no_count, few_released}
use Rattle.ill_saved.proofs.many_sides.ManySides.released_of.Goals as goal

-- The count at the place of the side is its released count.
pub returns-in-Some-clause-value : goal.returns-in-Some-clause-value
returns-in-Some-clause-value c =
    let all = c.self.inside.sides in
    let txn = c.args.txn.now in
    let at : Some c.in-Some.place ≡ position (λ side. is_same_txn txn (txn_of side)) all.sides = search rules in
    let within : c.in-Some.place < length all.sides = search rules in
    count_there all.role all.sides c.self.inside.released.items txn c.in-Some.place c.index.result.now c.self.invariant.0 at
    within c.index.ensures ∙ ap (λ live. (held_for txn live).released) c.self.view_is

-- If no side is of the transaction, the number of its released messages is 0.
pub returns-in-None-clause-value : goal.returns-in-None-clause-value
returns-in-None-clause-value c =
    let all = c.self.inside.sides in
    let txn = c.args.txn.now in
    let none : None ≡ position (λ side. is_same_txn txn (txn_of side)) all.sides = search rules in
    no_count all.role all.sides c.self.inside.released.items txn c.self.invariant.0 none
    ∙ ap (λ live. (held_for txn live).released) c.self.view_is

-- At most the issued messages are released.
pub returns-in-Some-clause-issued : goal.returns-in-Some-clause-issued
returns-in-Some-clause-issued c =
    let txn = c.args.txn.now in
    let live = c.args.self.now in
    let few = few_released c.follows_issues.ensures live txn (subst AreBackable c.self.view_is c.self.invariant.1) in
    subst (λ (n : ℕ). n ≤ length (issued_of (held_for txn live).side)) (sym (returns-in-Some-clause-value c)) few
