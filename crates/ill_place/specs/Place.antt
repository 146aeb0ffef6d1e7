-- The place of a desk, and what it says of a desk that is opened there.
use Rattle.std.specs.Prelude.{◌≡◌, ◌⊎◌, ℕ, false, true, List, Option, None, Some, Ok}
use Rattle.ill_record.specs.declared.role.Role.{Role}
use Rattle.ill_store.specs.Store.{FileStoreState, StoreState}
use Rattle.ill_saved.specs.Desk.{AreAllReleased, DeskOf}
use Rattle.ill_saved.specs.ManySides.{DeskContents, many_sides, no_sides}

-- The place of a desk: the path of its file, and the function `state` from a store to its state.
pub record PlaceOf (S : Type 0) : Type 0 where
  pub path : List ℕ
  pub state : S → StoreState

-- Returns the place at `path`, where `state` gives the state of a store.
abbrev pub place_of : {S : Type 0} → (S → StoreState) → List ℕ → PlaceOf S
place_of state path = record { path = path; state = state }

-- The place of a shelf: the path of its folder, and the function `state` from a desk's store to its state.
pub record ShelfOf (S : Type 0) : Type 0 where
  pub folder : List ℕ
  pub state : S → StoreState

-- Returns the place of the shelf in `folder`, where `state` gives the state of the store of a desk.
abbrev pub shelf_of : {S : Type 0} → (S → StoreState) → List ℕ → ShelfOf S
shelf_of state folder = record { folder = folder; state = state }

-- Returns the state of a store in a file of the host. No contract says what such a file has, so it is not correct.
abbrev pub file_state : FileStoreState → StoreState
file_state file = record {
  path = Some file.path;
  committed = None;
  failures = file.failures;
  is_correct = false;
  plan = None;
}

-- Returns the place of the file of the host at `path`.
abbrev pub file_at : List ℕ → PlaceOf FileStoreState
file_at path = place_of file_state path

-- The store is at the place.
abbrev pub IsAt : {S : Type 0} → PlaceOf S → S → Type 0
IsAt place store = (place.state store).path ≡ Some place.path

-- A record is committed, and is read as the contents `live`.
abbrev pub IsCommittedAs : (committed : Option (List ℕ)) → (live : DeskContents) → Type 0
IsCommittedAs committed live = (bytes : List ℕ) × (committed ≡ Some bytes) × (many_sides.read bytes ≡ Ok live)

-- The desk was loaded from the place: its store is there, and a correct store has the record of its sides. All their
-- messages may be sent.
pub record StartsAt {S : Type 0} (place : PlaceOf S) (desk : DeskOf DeskContents S) : Type 0 where
  pub path : IsAt place desk.store
  pub committed : (place.state desk.store).is_correct ≡ true → IsCommittedAs (place.state desk.store).committed desk.live
  pub released : AreAllReleased many_sides desk.live

-- The desk of `role` was begun at the place: its store is there, and a correct store has no record. It holds no sides.
pub record BeginsAt {S : Type 0} (place : PlaceOf S) (role : Role) (desk : DeskOf DeskContents S) : Type 0 where
  pub path : IsAt place desk.store
  pub committed : (place.state desk.store).is_correct ≡ true → (place.state desk.store).committed ≡ None
  pub empty : desk.live ≡ no_sides role

-- The desk was loaded from the place. If there is a `role`, it was loaded from the place, or was begun there with this
-- role.
abbrev pub OpensAs : {S : Type 0} → (role : Option Role) → PlaceOf S → DeskOf DeskContents S → Type 0
OpensAs None place desk = StartsAt place desk
OpensAs (Some role) place desk = StartsAt place desk ⊎ BeginsAt place role desk
