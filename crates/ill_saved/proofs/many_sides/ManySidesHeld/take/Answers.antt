-- Proves the contract of `ManySides::take` (`src/many_sides.rt`).
-- Only the side of the message changes, by a transition.
use Rattle.std.proofs.Common.{rules, ◌≡◌, false, length, ap, subst, ◌∙◌}
use Rattle.ill_record.specs.Side.{Takes}
use Rattle.ill_record.specs.Sides.{found_by}
use Rattle.ill_saved.specs.Holdings.{DeskTakesApdu, StaysBacked}
use Rattle.ill_saved.specs.ManySides.{txn_held, held_of, is_own, AreBackable, ManyBack, many_sides}
use Rattle.ill_saved.proofs.Desks.{core_answer}
use Rattle.ill_record.proofs.DeskEntry.{takes_row}
use Rattle.ill_saved.proofs.Contents.{none_held, changed_held, still_backed, still_backable, desk_takes_so}
use Rattle.ill_saved.proofs.many_sides.ManySidesHeld.take.Goals.{In-Some}
use Rattle.ill_saved.proofs.many_sides.ManySidesHeld.take.Goals as goal

-- After a held side has answered an APDU, each side has a count, and some sides back the desk's contents.
rules_stay : (c : In-Some) → (length c.self.inside.released.items ≡ length c.take.new.self.sides)
    × AreBackable (record { role = c.take.new.self.role; held = held_of c.take.new.self.sides c.self.inside.released.items })
rules_stay c =
    let all = c.self.inside.sides in (
      (changed_held all.role all.sides c.self.inside.released.items c.self.invariant.0 c.rows_grow.ensures c.args.apdu.now.txn
          (λ old answer new. Takes old c.args.apdu.now answer new)
          (λ old new answer does. takes_row old new c.args.apdu.now answer does) c.in-Some.answer c.take.new.self
          c.in-Some.ensures).6,
      still_backable all.role all.sides c.self.inside.released.items c.self.invariant.0 c.rows_grow.ensures c.args.apdu.now.txn
          (λ old answer new. Takes old c.args.apdu.now answer new)
          (λ old new answer does. takes_row old new c.args.apdu.now answer does) c.in-Some.answer c.take.new.self
          c.in-Some.ensures c.self.invariant.1,
    )

-- After a held side has answered an APDU, all bytes that backed the desk's contents back them.
stays_backed : (c : In-Some)
    → StaysBacked many_sides ManyBack c.args.self.now
    (record { role = c.take.new.self.role; held = held_of c.take.new.self.sides c.self.inside.released.items })
stays_backed c =
    let all = c.self.inside.sides in
    subst (λ old. StaysBacked many_sides ManyBack old
    (record { role = c.take.new.self.role; held = held_of c.take.new.self.sides c.self.inside.released.items }))
    c.self.view_is
    (still_backed all.role all.sides c.self.inside.released.items c.self.invariant.0 c.rows_grow.ensures c.args.apdu.now.txn
    (λ old answer new. Takes old c.args.apdu.now answer new)
    (λ old new answer does. takes_row old new c.args.apdu.now answer does) c.in-Some.answer c.take.new.self c.in-Some.ensures)

-- If the held side answers an APDU, the desk answers it as `DeskTakesApdu` says.
takes_so : (c : In-Some) → DeskTakesApdu many_sides c.args.self.now c.args.apdu.now (core_answer c.in-Some.answer)
    (record { role = c.take.new.self.role; held = held_of c.take.new.self.sides c.self.inside.released.items })
takes_so c =
    let other : is_own c.self.inside.sides.role c.args.apdu.now.body ≡ false = search rules in
    let all = c.self.inside.sides in
    subst (λ old. DeskTakesApdu many_sides old c.args.apdu.now (core_answer c.in-Some.answer)
    (record { role = c.take.new.self.role; held = held_of c.take.new.self.sides c.self.inside.released.items }))
    c.self.view_is
    (desk_takes_so all.role all.sides c.self.inside.released.items c.self.invariant.0 c.rows_grow.ensures c.refusals_stay.ensures
    c.args.apdu.now c.in-Some.answer c.take.new.self other c.in-Some.ensures)

-- The desk satisfies its invariant if its side refuses the APDU.
pub invariant_of-self : goal.invariant_of-self
invariant_of-self c = rules_stay (goal.at.invariant_of-self c).In-Some

-- The desk satisfies its invariant after its side has taken the APDU.
pub invariant_of-self-in-Some : goal.invariant_of-self-in-Some
invariant_of-self-in-Some c = rules_stay (goal.at.invariant_of-self-in-Some c).In-Some

-- If the side refuses the APDU, the answer is as `DeskTakesApdu` says.
pub returns-in_err-answer-in-Some-clause-takes : goal.returns-in_err-answer-in-Some-clause-takes
returns-in_err-answer-in-Some-clause-takes c =
    let so = takes_so (goal.at.returns-in_err-answer-in-Some-clause-takes c).In-Some in
    search (rules, so)

-- If the side takes the APDU, the answer is as `DeskTakesApdu` says.
pub returns-in_ok-answer-in-Some-clause-takes : goal.returns-in_ok-answer-in-Some-clause-takes
returns-in_ok-answer-in-Some-clause-takes c =
    let so = takes_so (goal.at.returns-in_ok-answer-in-Some-clause-takes c).In-Some in
    search (rules, so)

-- If no side is of the APDU's transaction, no entry of it is held.
pub take_first-requires-clause-none : goal.take_first-requires-clause-none
take_first-requires-clause-none c =
    ap (λ all. found_by txn_held c.args.apdu.now.txn (held_of all.sides c.self.inside.released.items)) c.in-None.ensures.1
    ∙ none_held c.self.inside.sides.role c.self.inside.sides.sides c.self.inside.released.items c.self.invariant.0
    c.args.apdu.now.txn c.in-None.ensures.0

-- If the side refuses the APDU, all bytes that backed the desk's contents back them.
pub returns-in_err-answer-in-Some-clause-backed : goal.returns-in_err-answer-in-Some-clause-backed
returns-in_err-answer-in-Some-clause-backed c = stays_backed (goal.at.returns-in_err-answer-in-Some-clause-backed c).In-Some

-- If the side takes the APDU, all bytes that backed the desk's contents back the new contents.
pub returns-in_ok-answer-in-Some-clause-backed : goal.returns-in_ok-answer-in-Some-clause-backed
returns-in_ok-answer-in-Some-clause-backed c = stays_backed (goal.at.returns-in_ok-answer-in-Some-clause-backed c).In-Some
