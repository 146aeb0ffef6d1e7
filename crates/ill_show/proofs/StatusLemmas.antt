-- Proves how the command `status` joins words by spaces and appends the texts of sides.
use Rattle.std.proofs.Common.{◌≡◌, ℕ, zero, suc, true, false, true≢false, ◌==◌, ◌++◌, List, [], ◌∷◌, map, length, drop, Option}
use Rattle.std.proofs.Common.{Some, None, refl, ap, sym, ◌∙◌}
use Rattle.std.specs.Prelude.{slice_get, option_map, is_some}
use Rattle.std.specs.List.{flat_map, join_by}
use Rattle.std.proofs.lemmas.Option.{slice_get-map}
use Rattle.ill_record.specs.declared.side.Side.{Side}
use Rattle.ill_record.specs.Side.{txn_of}
use Rattle.ill_record.specs.Sides.{are_apart}
use Rattle.ill_saved.specs.Holdings.{DeskEntry}
use Rattle.ill_saved.specs.ManySides.{DeskContents, held_for, sides_held}
use Rattle.ill_record.proofs.Finding.{some_is}
use Rattle.ill_text.specs.declared.form.Form.{Form}
use Rattle.ill_show.specs.Objects.{status_of_desk, status_text, text_of_one}
use Rattle.ill_show.specs.Status.{spaced_or_dash}
use Rattle.ill_words.proofs.HeldLemmas.{held_at_place}

-- Writing a space and the text of each of `words` equals writing a space and each of their texts.
all_spaced : {X : Type 0} (text : X → List ℕ) (words : List X)
    → flat_map (λ word. 32 ∷ text word) words ≡ flat_map (λ word. 32 ∷ word) (map text words)
all_spaced text [] = refl
all_spaced text (word ∷ words) = ap (λ (more : List ℕ). (32 ∷ text word) ++ more) (all_spaced text words)

-- If `words` is not empty, joining the texts by spaces gives the text of `spaced_or_dash`.
pub joined_by_spaces : {X : Type 0} (text : X → List ℕ) (words : List X) → (length words == 0) ≡ false
    → join_by text (32 ∷ []) words ≡ spaced_or_dash (map text words)
joined_by_spaces text [] some = search some
joined_by_spaces text (word ∷ words) some = ap (λ (more : List ℕ). text word ++ more) (all_spaced text words)

-- ---- the text of the side at a place

-- The text of the sides from `place` on is the text of the side at `place`, and then of the later sides.
pub status_split_at : (form : Form) (sides : List DeskEntry) (place : ℕ)
    → status_of_desk form (drop place sides)
    ≡ text_of_one form (slice_get sides place) ++ status_of_desk form (drop (suc place) sides)
status_split_at form [] zero = refl
status_split_at form [] (suc place) = refl
status_split_at form (held ∷ sides) zero = refl
status_split_at form (held ∷ sides) (suc place) = status_split_at form sides place

-- Let the entry `found` at `place` have `side`, of which `released` messages are released. Then both give the text of
-- `found`.
status_text_of_entry : (form : Form) (live : DeskContents) (place : ℕ) (side : Side) (released : ℕ) (found : Option DeskEntry)
    → are_apart (sides_held live).sides ≡ true → slice_get live.held place ≡ found
    → option_map (λ (held : DeskEntry). held.side) found ≡ Some side
    → released ≡ (held_for (txn_of side) live).released → status_text form side released ≡ text_of_one form found
status_text_of_entry form live place side released (Some held) apart at e counted =
    let is : held.side ≡ side = some_is held.side side e in
    let there : held_for (txn_of side) live ≡ held =
    ap (λ s. held_for (txn_of s) live) (sym is) ∙ held_at_place live place held apart at in
    ap (status_text form side) (counted ∙ ap (λ (h : DeskEntry). h.released) there)
    ∙ ap (λ s. status_text form s held.released) (sym is)
status_text_of_entry form live place side released None apart at e counted = absurd (true≢false (sym (ap is_some e)))

-- If `found` is no entry, its text is empty.
no_side_no_text : (form : Form) (found : Option DeskEntry) → option_map (λ (held : DeskEntry). held.side) found ≡ None
    → [] ≡ text_of_one form found
no_side_no_text form (Some held) e = absurd (true≢false (ap is_some e))
no_side_no_text form None e = refl

-- Let `side` be at `place`, and `released` of its messages be released. Then both give the text of the entry at
-- `place`.
pub lines_there : (form : Form) (live : DeskContents) (place : ℕ) (side : Side) (released : ℕ)
    → are_apart (sides_held live).sides ≡ true → slice_get (sides_held live).sides place ≡ Some side
    → released ≡ (held_for (txn_of side) live).released
    → status_text form side released ≡ text_of_one form (slice_get live.held place)
lines_there form live place side released apart at counted =
    status_text_of_entry form live place side released (slice_get live.held place) apart refl
    (sym (slice_get-map (λ (held : DeskEntry). held.side) live.held place) ∙ at) counted

-- If a desk has no side at `place`, the text of the entry at `place` is empty.
pub no_lines_there : (form : Form) (live : DeskContents) (place : ℕ) → slice_get (sides_held live).sides place ≡ None
    → [] ≡ text_of_one form (slice_get live.held place)
no_lines_there form live place at =
    no_side_no_text form (slice_get live.held place) (sym (slice_get-map (λ (held : DeskEntry). held.side) live.held place) ∙ at)
