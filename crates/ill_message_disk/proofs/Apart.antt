-- The paths of a message file differ if the tests of them return true.
use Rattle.std.proofs.Common.{◌≡◌, sym, ◌∙◌, subst, ℕ, true, not, ◌&&◌, List, [], ◌∷◌}
use Rattle.std.specs.Str.{bytes_eq}
use Rattle.std.proofs.lemmas.Bool.{true≢false, and_parts, not-true}
use Rattle.std.proofs.lemmas.Slice.Eq.{bytes_eq-Decides}
use Rattle.ill_message_disk.specs.Touches.{IsNoneOf}
use Rattle.ill_message_disk.specs.Spots.{SpotOf, are_apart, is_none_of}

-- The four paths of a message file differ.
pub record AreApart (spot : SpotOf) : Type 0 where
  pub claimed : IsNoneOf (spot.waiting ∷ spot.quarantined ∷ spot.reason ∷ []) spot.claimed
  pub waiting : IsNoneOf (spot.quarantined ∷ spot.reason ∷ []) spot.waiting
  pub quarantined : IsNoneOf (spot.reason ∷ []) spot.quarantined

-- If `is_none_of` returns true, `path` is none of `paths`.
pub none_of : (paths : List (List ℕ)) (path : List ℕ) → is_none_of paths path ≡ true → IsNoneOf paths path
none_of [] path is = tt
none_of (other ∷ paths) path is =
    let parts = and_parts (not (bytes_eq other path)) (is_none_of paths path) is in (
      λ same.
          true≢false (sym ((bytes_eq-Decides other path).1 same) ∙ not-true (bytes_eq other path) parts.0),
      none_of paths path parts.1,
    )

-- If `are_apart` returns true, the four paths of `spot` differ.
pub apart_of : (spot : SpotOf) → are_apart spot ≡ true → AreApart spot
apart_of spot is =
    let parts = and_parts (is_none_of (spot.waiting ∷ spot.quarantined ∷ spot.reason ∷ []) spot.claimed
    && is_none_of (spot.quarantined ∷ spot.reason ∷ []) spot.waiting)
    (is_none_of (spot.reason ∷ []) spot.quarantined) is in
    let first = and_parts (is_none_of (spot.waiting ∷ spot.quarantined ∷ spot.reason ∷ []) spot.claimed)
    (is_none_of (spot.quarantined ∷ spot.reason ∷ []) spot.waiting) parts.0 in record {
      claimed = none_of (spot.waiting ∷ spot.quarantined ∷ spot.reason ∷ []) spot.claimed first.0;
      waiting = none_of (spot.quarantined ∷ spot.reason ∷ []) spot.waiting first.1;
      quarantined = none_of (spot.reason ∷ []) spot.quarantined parts.1;
    }

-- If `are_apart` returns true for four paths, it does so for four paths that equal them.
pub copies_apart : (c w a r c' w' a' r' : List ℕ) (file : ℕ) → c' ≡ c → w' ≡ w → a' ≡ a → r' ≡ r →
    are_apart (record { claimed = c; waiting = w; quarantined = a; reason = r; file = file }) ≡ true →
    are_apart (record { claimed = c'; waiting = w'; quarantined = a'; reason = r'; file = file }) ≡ true
copies_apart c w a r c' w' a' r' file one two three four apart =
    subst (λ x. are_apart (record { claimed = x; waiting = w'; quarantined = a'; reason = r'; file = file }) ≡ true) (sym one)
    (subst (λ x. are_apart (record { claimed = c; waiting = x; quarantined = a'; reason = r'; file = file }) ≡ true) (sym two)
    (subst (λ x. are_apart (record { claimed = c; waiting = w; quarantined = x; reason = r'; file = file }) ≡ true) (sym three)
    (subst (λ x. are_apart (record { claimed = c; waiting = w; quarantined = a; reason = x; file = file }) ≡ true) (sym four)
    apart)))
