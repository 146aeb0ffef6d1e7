-- Proves which commands on a shelf do not end well if no desk of the group was loaded, or none that is over.
use Rattle.std.proofs.Common.{◌≡◌, ℕ, Bool, true, false, List, Option, None, Result, Ok, Err, inl, inr, refl, subst, sym, ◌∙◌}
use Rattle.std.specs.Prelude.{IsErrAnd}
use Rattle.std.proofs.lemmas.Bool.{true≢false}
use Rattle.std.proofs.lemmas.Result.{IfOk-at_ok}
use Rattle.ill_store.specs.Store.{StoreState}
use Rattle.ill_text.specs.declared.fault.ToolFault.{ToolFault}
use Rattle.ill_desk.specs.ActAs.{Asking}
use Rattle.ill_files.specs.ShelfNames.{desk_path}
use Rattle.ill_place.specs.BadPlaces.{AreElsewhere}
use Rattle.ill_place.specs.Place.{PlaceOf, place_of, shelf_of}
use Rattle.ill_place.proofs.PlaceLemmas.{none_elsewhere}
use Rattle.ill_shelf.specs.BadHomes.{IsNowhere, IsOpenAt, IsOpenGroup}
use Rattle.ill_shelf.specs.Home.{ActsAtHome, ActsAtPlace, ShelfAction}
use Rattle.ill_shelf.specs.Retiring.{MarksGroup, RetiresAtHome, printed_with}

-- If no desk was loaded from `place`, and none may be begun there, no action ends well there.
none_acts_at : {S : Type 0} (place : PlaceOf S) (action : ShelfAction) (is_success : Bool) (before after : Option (List ℕ))
    → AreElsewhere place → ActsAtPlace None place action before after (Ok is_success) → ⊥
none_acts_at place action is_success before after elsewhere (inl fails) = fails.0
none_acts_at place action is_success before after elsewhere (inr acted) =
    none_elsewhere place acted.0 (elsewhere acted.0) acted.2

-- If no desk of the group was loaded, and no new group may be begun, no action ends well on the shelf.
pub none_acts : {S : Type 0} (state : S → StoreState) (folder : List ℕ) (asking : Asking) (is_long is_success : Bool)
    (before after : Option (List ℕ)) → IsNowhere (shelf_of state folder) asking.txn.group
    → ActsAtHome (shelf_of state folder) (record { asking = asking; is_long = is_long; is_new_group = false }) before after
    (Ok is_success) → ⊥
none_acts state folder asking is_long is_success before after nowhere acted =
    let path = desk_path folder acted.0 asking.txn.group in
    none_acts_at (place_of state path) (record { asking = asking; is_long = is_long; is_new_group = false }) is_success before
    after
    (nowhere path (acted.0, refl)) acted.1

-- If no desk was loaded from `place`, its group is not found to have an open loan.
none_stays_at : {S : Type 0} (place : PlaceOf S) (is_marked : Bool) (printed : Result (Unit {0}) ToolFault) → AreElsewhere place
    → MarksGroup place is_marked → Ok false ≡ printed_with is_marked printed → ⊥
none_stays_at place false printed elsewhere marks is = none_elsewhere place marks.0 (elsewhere marks.0) marks.1
none_stays_at place true (Ok done) elsewhere marks is = true≢false (IfOk-at_ok (λ is_marked. is_marked ≡ false) is refl)
none_stays_at place true (Err fault) elsewhere marks is =
    subst (λ (answer : Result Bool ToolFault). IsErrAnd answer (λ fault. Unit {0})) (sym is) tt

-- If no desk of the group was loaded, `retire` does not say that a loan of the group is not over.
pub none_stays : {S : Type 0} (state : S → StoreState) (folder group : List ℕ) (before after : Option (List ℕ))
    → IsNowhere (shelf_of state folder) group → RetiresAtHome (shelf_of state folder) group before after (Ok false) → ⊥
none_stays state folder group before after nowhere (path, home, inl fails) = fails.0
none_stays state folder group before after nowhere (path, home, inr printed) =
    none_stays_at (place_of state path) printed.0 printed.1 (nowhere path home) printed.2 printed.4

-- If the group of `place` is open (`IsOpenAt`), it is not marked.
none_retires_at : {S : Type 0} (place : PlaceOf S) (is_marked : Bool) (printed : Result (Unit {0}) ToolFault) → IsOpenAt place
    → MarksGroup place is_marked → Ok true ≡ printed_with is_marked printed → ⊥
none_retires_at place true printed open_at (inl was) is = open_at.unmarked was
none_retires_at place true printed open_at (inr marks) is =
    true≢false (sym marks.2.3.0 ∙ open_at.open_loan marks.0 marks.1)
none_retires_at place false (Ok done) open_at marks is =
    true≢false (sym (IfOk-at_ok (λ is_marked. is_marked ≡ true) is refl))
none_retires_at place false (Err fault) open_at marks is =
    subst (λ (answer : Result Bool ToolFault). IsErrAnd answer (λ fault. Unit {0})) (sym is) tt

-- If a group is open, `retire` does not say that it is retired.
pub none_retires : {S : Type 0} (state : S → StoreState) (folder group : List ℕ) (before after : Option (List ℕ))
    → IsOpenGroup (shelf_of state folder) group → RetiresAtHome (shelf_of state folder) group before after (Ok true) → ⊥
none_retires state folder group before after is_open (path, home, inl fails) = fails.0
none_retires state folder group before after is_open (path, home, inr printed) =
    none_retires_at (place_of state path) printed.0 printed.1 (is_open path home) printed.2 printed.4
