-- Proves that each entry of a desk consists of its side and the number of its released messages.
use Rattle.std.proofs.Common.{◌≡◌, ℕ, zero, suc, true, true≢false, ◌++◌, List, [], ◌∷◌, drop, Option, Some, None, refl, ap, sym}
use Rattle.std.proofs.Common.{◌∙◌}
use Rattle.std.specs.Prelude.{slice_get, option_map, is_some}
use Rattle.std.proofs.lemmas.Option.{slice_get-map}
use Rattle.ill_record.specs.declared.side.Side.{Side}
use Rattle.ill_record.specs.Side.{txn_of}
use Rattle.ill_record.specs.Sides.{are_apart}
use Rattle.ill_saved.specs.Holdings.{DeskEntry}
use Rattle.ill_saved.specs.ManySides.{DeskContents, held_for, sides_held}
use Rattle.ill_record.proofs.Finding.{some_is}
use Rattle.ill_words.proofs.HeldLemmas.{held_at_place}
use Rattle.std.specs.Option.{option_to_list}

-- The items from `place` on are the item at `place`, if there is one, and the later items.
pub list_split_at : {X : Type 0} (items : List X) (place : ℕ)
    → option_to_list (slice_get items place) ++ drop (suc place) items ≡ drop place items
list_split_at [] zero = refl
list_split_at [] (suc place) = refl
list_split_at (item ∷ items) zero = refl
list_split_at (item ∷ items) (suc place) = list_split_at items place

-- If the entry `found` at `place` has `side`, and `released` counts its released messages, `found` consists of both.
entry_of_parts : (live : DeskContents) (place : ℕ) (side : Side) (released : ℕ) (found : Option DeskEntry)
    → are_apart (sides_held live).sides ≡ true → slice_get live.held place ≡ found
    → option_map (λ (held : DeskEntry). held.side) found ≡ Some side
    → released ≡ (held_for (txn_of side) live).released → found ≡ Some (record { side = side; released = released })
entry_of_parts live place side released (Some held) apart at e counted =
    let is : held.side ≡ side = some_is held.side side e in
    let there : held_for (txn_of side) live ≡ held =
    ap (λ s. held_for (txn_of s) live) (sym is) ∙ held_at_place live place held apart at in
    let many : held.released ≡ released = sym (counted ∙ ap (λ (h : DeskEntry). h.released) there) in
    ap (λ s. Some (record { side = s; released = held.released })) is ∙ ap (λ n. Some (record { side = side; released = n })) many
entry_of_parts live place side released None apart at e counted = absurd (true≢false (sym (ap is_some e)))

-- If `side` is at `place`, and `released` counts its released messages, the entry at `place` consists of both.
pub held_there : (live : DeskContents) (place : ℕ) (side : Side) (released : ℕ)
    → are_apart (sides_held live).sides ≡ true → slice_get (sides_held live).sides place ≡ Some side
    → released ≡ (held_for (txn_of side) live).released
    → slice_get live.held place ≡ Some (record { side = side; released = released })
held_there live place side released apart at counted =
    entry_of_parts live place side released (slice_get live.held place) apart refl
    (sym (slice_get-map (λ (held : DeskEntry). held.side) live.held place) ∙ at) counted

-- If `found` has no side, it is `None`.
no_side_no_entry : (found : Option DeskEntry) → option_map (λ (held : DeskEntry). held.side) found ≡ None → found ≡ None
no_side_no_entry (Some held) e = absurd (true≢false (ap is_some e))
no_side_no_entry None e = refl

-- If a desk has no side at `place`, it has no entry at `place`.
pub none_there : (live : DeskContents) (place : ℕ) → slice_get (sides_held live).sides place ≡ None
    → slice_get live.held place ≡ None
none_there live place at = no_side_no_entry (slice_get live.held place)
    (sym (slice_get-map (λ (held : DeskEntry). held.side) live.held place) ∙ at)
