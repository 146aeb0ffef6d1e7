-- Proves that a desk finds each of its sides by the transaction of the side.
use Rattle.std.proofs.Common.{◌≡◌, ℕ, zero, suc, Bool, true, false, cond, List, [], ◌∷◌, map, Some, refl, ap, sym, subst, ◌∙◌}
use Rattle.std.proofs.Common.{true≢false}
use Rattle.std.specs.Prelude.{option_map, is_none, is_some, slice_get}
use Rattle.std.proofs.lemmas.Bool.{and_parts}
use Rattle.ill_values.specs.TxnId.{Qualifiers}
use Rattle.ill_core.specs.Issued.{is_same_txn}
use Rattle.ill_record.specs.declared.side.Side.{Side}
use Rattle.ill_record.specs.Sides.{side_with, are_apart}
use Rattle.ill_saved.specs.Holdings.{DeskEntry}
use Rattle.ill_record.specs.Side.{txn_of}
use Rattle.ill_saved.specs.ManySides.{DeskContents, found_by, txn_held, found_or, idle_held, held_for, sides_held}
use Rattle.ill_record.proofs.Finding.{same_is, same_self, some_is, found_mapped}

-- ---- the side of a transaction

-- Returns the side of an entry of a desk.
abbrev side_of : DeskEntry → Side
side_of held = held.side

-- If no side in `sides` has the transaction `txn`, `found_by` finds none.
not_found_if_absent : (txn : Qualifiers) (sides : List DeskEntry) (held : DeskEntry)
    → is_none (side_with txn (map side_of sides)) ≡ true → found_by txn_held txn sides ≡ Some held → ⊥
unfolding side_with
not_found_if_absent txn sides held none found =
    true≢false (sym none ∙ ap is_none
    (found_mapped txn_held txn_of side_of (λ h. refl) txn sides ∙ ap (option_map side_of) found))

-- If `sides` lack the transaction of `first`, a side found in `sides` is found in `first ∷ sides` too. `same` is true
-- if `held` and `first` have one transaction.
found_after : (first held : DeskEntry) (sides : List DeskEntry) (same : Bool)
    → is_same_txn (txn_held held) (txn_held first) ≡ same
    → is_none (side_with (txn_held first) (map side_of sides)) ≡ true
    → found_by txn_held (txn_held held) sides ≡ Some held
    → cond same (Some first) (found_by txn_held (txn_held held) sides) ≡ Some held
found_after first held sides true same none found =
    let of : txn_held held ≡ txn_held first = same_is (txn_held held) (txn_held first) same in
    absurd (not_found_if_absent (txn_held first) sides held none (ap (λ t. found_by txn_held t sides) (sym of) ∙ found))
found_after first held sides false same none found = found

-- If all sides have different transactions, `found_by` finds the side at `place` by its transaction.
apart_found : (sides : List DeskEntry) (place : ℕ) (held : DeskEntry) → are_apart (map side_of sides) ≡ true
    → slice_get sides place ≡ Some held → found_by txn_held (txn_held held) sides ≡ Some held
unfolding are_apart
apart_found [] place held apart at = absurd (true≢false (sym (ap is_some at)))
apart_found (first ∷ sides) zero held apart at =
    subst (λ (h : DeskEntry). found_by txn_held (txn_held h) (first ∷ sides) ≡ Some h) (some_is first held at)
    (ap (λ same. cond same (Some first) (found_by txn_held (txn_held first) sides)) (same_self (txn_held first)))
apart_found (first ∷ sides) (suc place) held apart at =
    let parts = and_parts _ _ apart in
    found_after first held sides (is_same_txn (txn_held held) (txn_held first)) refl parts.0
    (apart_found sides place held parts.1 at)

-- If all sides of a desk have different transactions, `held_for` returns the entry at `place` for its transaction.
pub held_at_place : (live : DeskContents) (place : ℕ) (held : DeskEntry) → are_apart (sides_held live).sides ≡ true
    → slice_get live.held place ≡ Some held → held_for (txn_held held) live ≡ held
held_at_place live place held apart at =
    ap (found_or (idle_held live.role (txn_held held))) (apart_found live.held place held apart at)
