-- Proves the contract of `ManySides::hold` (`src/many_sides.rt`).
-- A side that began by a transition is backed by the sides that back the others. Below, `all` are the sides in memory
-- before the call, and `counted` their released counts. `seen` says that `all` are the sides of the desk's contents,
-- and `role` that they have its role.
use Rattle.std.proofs.Common.{rules, ◌≡◌, ◌++◌, ◌+◌, ◌∷◌, [], length, length-append, None, ap, sym, subst, ◌∙◌}
use Rattle.ill_record.specs.Side.{txn_of, idle_side, IsSideTransition}
use Rattle.ill_record.specs.Sides.{put_refusal, put_last}
use Rattle.ill_saved.specs.Holdings.{StaysBacked}
use Rattle.ill_saved.specs.ManySides.{with_held, AreBackable, ManyBack, held_of, many_sides}
use Rattle.ill_saved.proofs.Contents.{as_seen, held_more, more_backed, more_backable}
use Rattle.ill_saved.proofs.many_sides.ManySides.hold.Goals as goal

-- Each side has a count, and some sides back the desk's contents with one more side.
pub invariant_of-self-in-Ok : goal.invariant_of-self-in-Ok
invariant_of-self-in-Ok c =
    let all = c.self.inside.sides in
    let counted = c.self.inside.released.items in
    let seen = as_seen all counted c.args.self.now c.self.invariant.0 c.self.view_is in
    let may : put_refusal all c.args.side ≡ None = ap (λ held. put_refusal held c.args.side) seen ∙ c.requires.may in
    let role = ap (λ live. live.role) c.self.view_is in
    let row : IsSideTransition (idle_side all.role (txn_of c.args.side)) c.args.side =
    subst (λ r. IsSideTransition (idle_side r (txn_of c.args.side)) c.args.side) (sym role) c.requires.row in
    let put : c.put.new.self ≡ put_last all c.args.side = search rules in
    let pushed : c.push.new.self.items ≡ counted ++ 0 ∷ [] = search rules in (
      ap length pushed ∙ length-append counted (0 ∷ []) ∙ ap (λ n. n + 1) c.self.invariant.0
          ∙ sym (length-append all.sides (c.args.side ∷ [])) ∙ ap (λ held. length held.sides) (sym put),
      subst (λ ns. AreBackable (record { role = c.put.new.self.role; held = held_of c.put.new.self.sides ns })) (sym pushed)
          (more_backable all.role all.sides counted c.self.invariant.0 c.args.side may c.rows_grow.ensures c.put.new.self put row
          c.self.invariant.1),
    )

-- The desk holds one more side, with no message released.
pub returns-in_ok-push-in-Ok-clause-held : goal.returns-in_ok-push-in-Ok-clause-held
returns-in_ok-push-in-Ok-clause-held c =
    let all = c.self.inside.sides in
    let counted = c.self.inside.released.items in
    let seen = as_seen all counted c.args.self.now c.self.invariant.0 c.self.view_is in
    let may : put_refusal all c.args.side ≡ None = ap (λ held. put_refusal held c.args.side) seen ∙ c.requires.may in
    let put : c.put.new.self ≡ put_last all c.args.side = search rules in
    let pushed : c.push.new.self.items ≡ counted ++ 0 ∷ [] = search rules in
    ap (λ ns. record { role = c.put.new.self.role; held = held_of c.put.new.self.sides ns }) pushed
    ∙ held_more all.role all.sides counted c.self.invariant.0 c.args.side may c.put.new.self put
    ∙ ap (λ live. with_held live (record { side = c.args.side; released = 0 })) c.self.view_is

-- All bytes that backed the desk's contents back them with one more side.
pub returns-in_ok-push-in-Ok-clause-backed : goal.returns-in_ok-push-in-Ok-clause-backed
returns-in_ok-push-in-Ok-clause-backed c =
    let all = c.self.inside.sides in
    let counted = c.self.inside.released.items in
    let seen = as_seen all counted c.args.self.now c.self.invariant.0 c.self.view_is in
    let may : put_refusal all c.args.side ≡ None = ap (λ held. put_refusal held c.args.side) seen ∙ c.requires.may in
    let role = ap (λ live. live.role) c.self.view_is in
    let row : IsSideTransition (idle_side all.role (txn_of c.args.side)) c.args.side =
    subst (λ r. IsSideTransition (idle_side r (txn_of c.args.side)) c.args.side) (sym role) c.requires.row in
    let put : c.put.new.self ≡ put_last all c.args.side = search rules in
    let pushed : c.push.new.self.items ≡ counted ++ 0 ∷ [] = search rules in
    subst (λ old. StaysBacked many_sides ManyBack old
    (record { role = c.put.new.self.role; held = held_of c.put.new.self.sides c.push.new.self.items })) c.self.view_is
    (subst (λ ns. StaysBacked many_sides ManyBack (record { role = all.role; held = held_of all.sides counted })
    (record { role = c.put.new.self.role; held = held_of c.put.new.self.sides ns })) (sym pushed)
    (more_backed all.role all.sides counted c.self.invariant.0 c.args.side may c.rows_grow.ensures c.put.new.self put row))
