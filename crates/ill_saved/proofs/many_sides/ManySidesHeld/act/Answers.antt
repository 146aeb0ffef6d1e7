-- Proves the contract of `ManySides::act` (`src/many_sides.rt`).
-- Only the side of the transaction changes, by a transition.
use Rattle.std.proofs.Common.{rules, ◌≡◌, true, length, ap, subst, ◌∙◌}
use Rattle.ill_record.specs.Side.{Acts, role_for}
use Rattle.ill_record.specs.Sides.{is_same_role, found_by}
use Rattle.ill_saved.specs.Holdings.{DeskActs, StaysBacked}
use Rattle.ill_saved.specs.ManySides.{txn_held, held_of, AreBackable, ManyBack, many_sides}
use Rattle.ill_saved.proofs.Desks.{core_answer}
use Rattle.ill_record.proofs.DeskEntry.{acts_row}
use Rattle.ill_saved.proofs.Contents.{none_held, changed_held, still_backed, still_backable, desk_acts_so}
use Rattle.ill_saved.proofs.many_sides.ManySidesHeld.act.Goals.{In-Some}
use Rattle.ill_saved.proofs.many_sides.ManySidesHeld.act.Goals as goal

-- After a held side has answered an action, each side has a count, and some sides back the desk's contents.
rules_stay : (c : In-Some) → (length c.self.inside.released.items ≡ length c.act.new.self.sides)
    × AreBackable (record { role = c.act.new.self.role; held = held_of c.act.new.self.sides c.self.inside.released.items })
rules_stay c =
    let all = c.self.inside.sides in (
      (changed_held all.role all.sides c.self.inside.released.items c.self.invariant.0 c.rows_grow.ensures c.args.txn.now
          (λ old answer new. Acts old c.args.action.now answer new)
          (λ old new answer does. acts_row old new c.args.action.now answer does) c.in-Some.answer c.act.new.self
          c.in-Some.ensures).6,
      still_backable all.role all.sides c.self.inside.released.items c.self.invariant.0 c.rows_grow.ensures c.args.txn.now
          (λ old answer new. Acts old c.args.action.now answer new)
          (λ old new answer does. acts_row old new c.args.action.now answer does) c.in-Some.answer c.act.new.self
          c.in-Some.ensures c.self.invariant.1,
    )

-- After a held side has answered an action, all bytes that backed the desk's contents back them.
stays_backed : (c : In-Some)
    → StaysBacked many_sides ManyBack c.args.self.now
    (record { role = c.act.new.self.role; held = held_of c.act.new.self.sides c.self.inside.released.items })
stays_backed c =
    let all = c.self.inside.sides in
    subst (λ old. StaysBacked many_sides ManyBack old
    (record { role = c.act.new.self.role; held = held_of c.act.new.self.sides c.self.inside.released.items })) c.self.view_is
    (still_backed all.role all.sides c.self.inside.released.items c.self.invariant.0 c.rows_grow.ensures c.args.txn.now
    (λ old answer new. Acts old c.args.action.now answer new)
    (λ old new answer does. acts_row old new c.args.action.now answer does) c.in-Some.answer c.act.new.self c.in-Some.ensures)

-- If the held side answers an action, the desk answers it as `DeskActs` says.
acts_so : (c : In-Some)
    → DeskActs many_sides c.args.self.now c.args.txn.now c.args.action.now (core_answer c.in-Some.answer)
    (record { role = c.act.new.self.role; held = held_of c.act.new.self.sides c.self.inside.released.items })
acts_so c =
    let fits : is_same_role c.self.inside.sides.role (role_for c.args.action.now) ≡ true = search rules in
    let all = c.self.inside.sides in
    subst (λ old. DeskActs many_sides old c.args.txn.now c.args.action.now (core_answer c.in-Some.answer)
    (record { role = c.act.new.self.role; held = held_of c.act.new.self.sides c.self.inside.released.items })) c.self.view_is
    (desk_acts_so all.role all.sides c.self.inside.released.items c.self.invariant.0 c.rows_grow.ensures c.args.txn.now
    c.args.action.now c.in-Some.answer c.act.new.self fits c.in-Some.ensures)

-- The desk satisfies its invariant if its side refuses the action.
pub invariant_of-self : goal.invariant_of-self
invariant_of-self c = rules_stay (goal.at.invariant_of-self c).In-Some

-- The desk satisfies its invariant after its side has performed the action.
pub invariant_of-self-in-Some : goal.invariant_of-self-in-Some
invariant_of-self-in-Some c = rules_stay (goal.at.invariant_of-self-in-Some c).In-Some

-- If the side refuses the action, the answer is as `DeskActs` says.
pub returns-in_err-answer-in-Some-clause-acts : goal.returns-in_err-answer-in-Some-clause-acts
returns-in_err-answer-in-Some-clause-acts c =
    let so = acts_so (goal.at.returns-in_err-answer-in-Some-clause-acts c).In-Some in
    search (rules, so)

-- If the side performs the action, the answer is as `DeskActs` says.
pub returns-in_ok-answer-in-Some-clause-acts : goal.returns-in_ok-answer-in-Some-clause-acts
returns-in_ok-answer-in-Some-clause-acts c =
    let so = acts_so (goal.at.returns-in_ok-answer-in-Some-clause-acts c).In-Some in
    search (rules, so)

-- If no side is of the transaction, no entry of it is held.
pub act_first-requires-clause-none : goal.act_first-requires-clause-none
act_first-requires-clause-none c =
    ap (λ all. found_by txn_held c.args.txn.now (held_of all.sides c.self.inside.released.items)) c.in-None.ensures.1
    ∙ none_held c.self.inside.sides.role c.self.inside.sides.sides c.self.inside.released.items c.self.invariant.0 c.args.txn.now
    c.in-None.ensures.0

-- If the side refuses the action, all bytes that backed the desk's contents back them.
pub returns-in_err-answer-in-Some-clause-backed : goal.returns-in_err-answer-in-Some-clause-backed
returns-in_err-answer-in-Some-clause-backed c = stays_backed (goal.at.returns-in_err-answer-in-Some-clause-backed c).In-Some

-- If the side performs the action, all bytes that backed the desk's contents back the new contents.
pub returns-in_ok-answer-in-Some-clause-backed : goal.returns-in_ok-answer-in-Some-clause-backed
returns-in_ok-answer-in-Some-clause-backed c = stays_backed (goal.at.returns-in_ok-answer-in-Some-clause-backed c).In-Some
