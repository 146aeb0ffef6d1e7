-- States the loop invariant of `Places::of` (`src/places.rt`).
use Rattle.std.proofs.Common.{◌≡◌, ℕ, [], take, fold, Vec, Global}
use Rattle.ill_beside.specs.Places.{places_of, with_thing}
use Rattle.ill_beside.proofs.places.Places.of.Given as goal

-- The places of the things so far are entered.
abbrev pub invariant-loop-place : goal.invariant-loop-place
invariant-loop-place g l = record {
  entered : (key : Vec ℕ Global) → fold (with_thing g.K.KeyForm.key_of key.items) (0, []) (take l.place l.things)
      ≡ (l.place, places_of l.places.by_key.entries key);
}
