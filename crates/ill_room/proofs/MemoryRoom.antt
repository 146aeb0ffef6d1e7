-- Lemmas on the calls that move a message file in a room in memory, and on the lists of places.
use Rattle.std.proofs.Common.{◌≡◌, inl, refl, sym, ap, ◌∙◌, ℕ, zero, suc, ◌<◌, ◌≤◌, List, [], ◌∷◌, length}
use Rattle.std.proofs.Common.{get_or, slice_get, slice_set, Some, Result, Ok, Err, arith}
use Rattle.ill_text.specs.declared.fault.ToolFault.{ToolFault}
use Rattle.ill_room.specs.declared.room.Place.{Place}
use Rattle.ill_room.specs.declared.room.Place.TheVariants.{Waiting}
use Rattle.ill_room.specs.Room.{RoomState, Answers, GivesBack, Moves, is_correct_room, moved, moved_at, place_of}
use Rattle.ill_room.proofs.RoomLemmas.{may_move, slice_beyond}

-- If `k` is below the length of `xs`, the element at `k` is the one that `get_or` returns.
get_at : (xs : List Place) (k : ℕ) (other : Place) → k < length xs → slice_get xs k ≡ Some (get_or xs k other)
get_at [] k other lt = absurd (omega (arith, lt))
get_at (x ∷ xs) zero other lt = refl
get_at (x ∷ xs) (suc k) other lt = get_at xs k other (omega (arith, lt))

-- If `k` is below the length of `xs`, and `v` is set at `k`, the element at `k` is `v`.
set_at : (xs : List Place) (k : ℕ) (v : Place) → k < length xs → slice_get (slice_set xs k v) k ≡ Some v
set_at [] k v lt = absurd (omega (arith, lt))
set_at (x ∷ xs) zero v lt = refl
set_at (x ∷ xs) (suc k) v lt = set_at xs k v (omega (arith, lt))

-- If `v` is set at `k`, the element at each other place `m` is as before.
set_other : (xs : List Place) (k m : ℕ) (v : Place) → (m ≡ k → ⊥) → slice_get (slice_set xs k v) m ≡ slice_get xs m
set_other [] k m v differ = refl
set_other (x ∷ xs) zero zero v differ = absurd (differ refl)
set_other (x ∷ xs) zero (suc m) v differ = refl
set_other (x ∷ xs) (suc k) zero v differ = refl
set_other (x ∷ xs) (suc k) (suc m) v differ = set_other xs k m v (λ same. differ (ap suc same))

-- Let a call set the place of `number` to its old place moved to `to`, and change nothing else. Then it answers
-- as `Moves` says.
pub set_moves : {A : Type 0} (x y : RoomState) (number : ℕ) (to v other : Place) (done : A) → number < length x.places
    →
    v ≡ moved to (get_or x.places number other) → y.places ≡ slice_set x.places number v → y.asked ≡ x.asked →
    Moves to number x (Ok done) y
set_moves x y number to v other done lt is places asked = record {
  here = ap (λ (all : List Place). slice_get all number) places ∙ set_at x.places number v lt ∙ ap Some is
      ∙ ap (moved_at to) (sym (get_at x.places number other lt));
  else_same = record {
    others = λ m differ. ap (λ (all : List Place). slice_get all m) places ∙ set_other x.places number m v differ;
    asked = asked;
  };
}

-- If the room has no message file `number`, a call that is done and changes nothing answers as `Moves` says.
pub none_moves : {A : Type 0} (x : RoomState) (number : ℕ) (to : Place) (done : A) → length x.places ≤ number →
    Moves to number x (Ok done) x
none_moves x number to done beyond = record {
  here = let none = slice_beyond x.places number beyond in none ∙ sym (ap (moved_at to) none);
  else_same = record { others = λ m differ. refl; asked = refl };
}

-- A call that fails and changes nothing answers as `Moves` says of any `number` and place.
pub fails_to_move : {A : Type 0} (x : RoomState) (number : ℕ) (to : Place) (fault : ToolFault) →
    Moves {A = A} to number x (Err fault) x
fails_to_move x number to fault = record {
  here = inl refl;
  else_same = record { others = λ m differ. refl; asked = refl };
}

-- If a call moves `number` to the place `Waiting`, it gives `number` back.
gives_back : {A : Type 0} (x y : RoomState) (number : ℕ) (answer : Result A ToolFault)
    → Moves Waiting number x answer y →
    GivesBack number x answer y
gives_back x y number answer moves = record {
  here = may_move Waiting (place_of x number) (place_of y number) answer moves.here;
  else_same = moves.else_same;
}

-- If a call moves `number` and does not change `is_correct`, it does what a room asks of a move (`Answers`),
-- correct or not.
pub moves_in_all : {A : Type 0} (x y : RoomState) (number : ℕ) (to : Place) (answer : Result A ToolFault) →
    Moves to number x answer y → y.is_correct ≡ x.is_correct → Answers is_correct_room (Moves to number) x answer y
moves_in_all x y number to answer moves same = record { done = λ correct. moves; correct = same }

-- In any room: if a call moves `number` to `Waiting`, and does not change `is_correct`, it gives `number`
-- back.
pub gives_in_all : {A : Type 0} (x y : RoomState) (number : ℕ) (answer : Result A ToolFault) →
    Moves Waiting number x answer y → y.is_correct ≡ x.is_correct
    → Answers is_correct_room (GivesBack number) x answer y
gives_in_all x y number answer moves same = record {
  done = λ correct. gives_back x y number answer moves;
  correct = same;
}
