-- Answers the contract of `enter` (`src/places.rt`).
use Rattle.std.proofs.Common.{Bool, ap, ◌∙◌, subst}
use Rattle.std.specs.Prelude.{cond, Some}
use Rattle.std.specs.Map.{lookup}
use Rattle.ill_beside.specs.Places.{ByKey, EntersAmong, is_same_key}
use Rattle.ill_beside.proofs.PlacesLemmas.{first_entered}
use Rattle.ill_beside.proofs.places.enter.Goals as goal

-- Proves the contract of `enter` if there was no place with the key. By `first_entered` the new place is the only one.
pub returns-in-Ok : goal.returns-in-Ok
returns-in-Ok c =
    let old = c.args.by_key.now.entries in
    let same = c.enter_among.new.by_key.entries in
    let own = c.args.key in
    let none = subst (λ (is : Bool). EntersAmong own c.args.place is old same) c.if-branch.false c.in_ok-enter_among.ensures in
    first_entered old c.insert.new.self.entries own c.args.place c.in_ok-places.places c.in_ok-places.ensures none.1
    (λ key. c.in-Ok.ensures.updates.0 key
    ∙ ap (λ (entries : ByKey). cond (is_same_key own key) (Some c.in_ok-places.places) (lookup (is_same_key key) entries)) none.0)
