-- Proves what is known of a desk that is opened at a place.
use Rattle.std.proofs.Common.{◌≡◌, ℕ, List, Option, None, Some, Ok, inl, inr, refl, sym, subst, ◌∙◌}
use Rattle.std.proofs.lemmas.Option.{none-some, same_Some}
use Rattle.std.specs.Prelude.{true}
use Rattle.ill_record.specs.declared.role.Role.{Role}
use Rattle.ill_store.specs.declared.store.NextCall.{NextCall}
use Rattle.ill_saved.specs.Desk.{AreAllReleased, Begins, Creates, DeskLoads, DeskOf}
use Rattle.ill_saved.specs.ManySides.{DeskContents, many_sides, no_sides}
use Rattle.ill_place.specs.BadPlaces.{IsElsewhere, no_path, no_record, other_path, other_sides, unsaved}
use Rattle.ill_place.specs.Place.{BeginsAt, IsCommittedAs, IsAt, OpensAs, PlaceOf, StartsAt}

-- A desk that starts over a correct store has the sides of the committed record.
is_committed : {S : Type 0} (committed : Option (List ℕ)) (plan : Option NextCall) (desk : DeskOf DeskContents S)
    → Begins {S = S} many_sides.read many_sides.begins (λ (desk : DeskOf DeskContents S). desk.live) committed plan (Ok desk)
    → IsCommittedAs committed desk.live
is_committed (Some bytes) plan desk begins = (bytes, refl, begins.0)
is_committed None plan desk begins = absurd begins

-- If `store` is at `place`, and a load of it gives `desk` with all messages released, `desk` starts at `place`.
-- If the store is correct after the load, it was correct before (`was`).
pub started : {S : Type 0} (place : PlaceOf S) (store : S) (desk : DeskOf DeskContents S) → IsAt place store
    → ((place.state store).is_correct ≡ true
    → Begins {S = S} many_sides.read many_sides.begins (λ (desk : DeskOf DeskContents S). desk.live)
    (place.state store).committed (place.state store).plan (Ok desk))
    → AreAllReleased many_sides desk.live
    → DeskLoads {X = Unit {0}} (place.state store) (Ok tt) (place.state desk.store)
    → StartsAt place desk
started place store desk at begins released loads = record {
  path = loads.path ∙ at;
  committed = λ correct.
      let was = sym loads.correct ∙ correct in
      subst (λ (committed : Option (List ℕ)). IsCommittedAs committed desk.live) (sym (loads.committed was))
      (is_committed (place.state store).committed (place.state store).plan desk (begins was));
  released = released;
}

-- A correct store over which a desk is created has no record.
has_none : (committed : Option (List ℕ)) (plan : Option NextCall) → Creates committed plan (Ok tt) → committed ≡ None
has_none None plan creates = refl
has_none (Some bytes) plan creates = absurd creates

-- If `store` is at `place`, and `desk` is created over it without sides, `desk` begins at `place`.
-- If the store is correct after that, it was correct before (`was`).
begun : {S : Type 0} (place : PlaceOf S) (role : Role) (store : S) (desk : DeskOf DeskContents S) → IsAt place store
    → ((place.state store).is_correct ≡ true → Creates (place.state store).committed (place.state store).plan (Ok tt))
    → desk.live ≡ no_sides role
    → DeskLoads {X = Unit {0}} (place.state store) (Ok tt) (place.state desk.store)
    → BeginsAt place role desk
begun place role store desk at creates empty loads = record {
  path = loads.path ∙ at;
  committed = λ correct.
      let was = sym loads.correct ∙ correct in
      loads.committed was ∙ has_none (place.state store).committed (place.state store).plan (creates was);
  empty = empty;
}

-- A desk that starts at `place` is opened there, whatever the role with which a desk may be begun.
opens : {S : Type 0} (role : Option Role) (place : PlaceOf S) (desk : DeskOf DeskContents S) → StartsAt place desk
    → OpensAs role place desk
opens None place desk starts = starts
opens (Some role) place desk starts = inl starts

-- If `store` is at `place`, and a load of it gives `desk` with all messages released, `desk` is opened there
-- (`OpensAs`).
pub opened : {S : Type 0} (role : Option Role) (place : PlaceOf S) (store : S) (desk : DeskOf DeskContents S) → IsAt place store
    → ((place.state store).is_correct ≡ true
    → Begins {S = S} many_sides.read many_sides.begins (λ (desk : DeskOf DeskContents S). desk.live)
    (place.state store).committed (place.state store).plan (Ok desk))
    → AreAllReleased many_sides desk.live
    → DeskLoads {X = Unit {0}} (place.state store) (Ok tt) (place.state desk.store)
    → OpensAs role place desk
opened role place store desk at begins released loads =
    opens role place desk (started place store desk at begins released loads)

-- If `store` is at `place`, and `desk` is created over it without sides, `desk` is opened there (`OpensAs`), begun with
-- `role`.
pub opened_new : {S : Type 0} (place : PlaceOf S) (role : Role) (store : S) (desk : DeskOf DeskContents S) → IsAt place store
    → ((place.state store).is_correct ≡ true → Creates (place.state store).committed (place.state store).plan (Ok tt))
    → desk.live ≡ no_sides role
    → DeskLoads {X = Unit {0}} (place.state store) (Ok tt) (place.state desk.store)
    → OpensAs (Some role) place desk
opened_new place role store desk at creates empty loads = inr (begun place role store desk at creates empty loads)

-- If `desk` is elsewhere than `place`, it does not start there. Each case contradicts one field of `StartsAt`.
pub none_elsewhere : {S : Type 0} (place : PlaceOf S) (desk : DeskOf DeskContents S) → IsElsewhere place desk
    → StartsAt place desk → ⊥
none_elsewhere place desk (other_path path at differs) starts = differs (same_Some path place.path (sym at ∙ starts.path))
none_elsewhere place desk (no_path at) starts = none-some place.path (sym at ∙ starts.path)
none_elsewhere place desk (other_sides bytes correct has differs) starts =
    let committed = starts.committed correct in
    differs (subst (λ (bytes : List ℕ). many_sides.read bytes ≡ Ok desk.live)
    (same_Some committed.0 bytes (sym committed.1 ∙ has)) committed.2)
none_elsewhere place desk (no_record correct has) starts =
    none-some (starts.committed correct).0 (sym has ∙ (starts.committed correct).1)
none_elsewhere place desk (unsaved differs) starts = differs starts.released
