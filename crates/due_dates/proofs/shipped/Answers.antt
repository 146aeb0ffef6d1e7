-- Proves the loop invariant of `shipped` (`src/main.rt`): each turn appends the next side if it is SHIPPED.
use Rattle.std.proofs.Common.{rules, ◌≡◌, true, ◌++◌, List, [], ◌∷◌, map, Bor, ap, ◌∙◌, append_assoc}
use Rattle.std.proofs.lemmas.List.{map-append}
use Rattle.ill_core.specs.declared.state.State.TheVariants.{Shipped}
use Rattle.ill_core.specs.State.{is_among}
use Rattle.ill_record.specs.declared.side.Side.{Side}
use Rattle.ill_record.specs.Side.{state_of}
use Rattle.due_dates.specs.Shipped.{shipped}
use Rattle.due_dates.proofs.shipped.Goals as goal

-- At first no side is found, and all SHIPPED sides are left.
pub loop-side-init : goal.loop-side-init
loop-side-init c = search rules

-- If `side` is SHIPPED, it and then the SHIPPED sides of `left` are the SHIPPED sides of `side ∷ left`.
is_found : (side : Side) (left : List Side) → is_among (Shipped ∷ []) (state_of side) ≡ true
    → side ∷ shipped left ≡ shipped (side ∷ left)
is_found side left is = search (rules, is)

-- If the next side is SHIPPED, the turn appends it to the found ones. By `is_found` it was the first SHIPPED side of
-- those left. `now` returns the side of a borrow, and `so_far` are the sides found before. `next` says that `side` is
-- the first side left, and `is` that its state is SHIPPED.
pub loop-side-preserved-in-Continue-1 : goal.loop-side-preserved-in-Continue-1
loop-side-preserved-in-Continue-1 c =
    let side = c.in-Some.side in
    let left = c.next.new.self in
    let now : Bor Side → Side = λ side. side.now in
    let so_far = map now c.loop-side.found.items in
    let next : side.now ∷ left ≡ c.loop-side.side-iterator = search rules in
    let is : is_among (Shipped ∷ []) (state_of side.now) ≡ true = search rules in
    record {
      all = ap (λ items. map now items ++ shipped left) c.in_ok-push.ensures.items
          ∙ ap (λ items. items ++ shipped left) (map-append now c.loop-side.found.items (side ∷ []))
          ∙ append_assoc so_far (side.now ∷ []) (shipped left)
          ∙ ap (λ items. so_far ++ items) (is_found side.now left is)
          ∙ ap (λ items. so_far ++ shipped items) next
          ∙ c.loop-side.invariant.all;
    }

-- If the next side is not SHIPPED, the turn appends nothing, and `shipped` leaves the side out.
pub loop-side-preserved : goal.loop-side-preserved
loop-side-preserved c = search rules

-- After the last turn no side is left, so the found ones are all SHIPPED sides.
pub returns : goal.returns
returns c = search rules
