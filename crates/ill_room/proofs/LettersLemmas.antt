-- Lemmas on message files paired with their verdicts, for the loops of `file_verdicts` and `worst_in`.
use Rattle.std.proofs.Common.{◌≡◌, ℕ, zero, suc, List, [], ◌∷◌, ◌++◌, map, length, drop, Option, None, Some, Bor, refl, ap}
use Rattle.std.proofs.Common.{sym, ◌∙◌}
use Rattle.std.specs.Prelude.{slice_get, option_map}
use Rattle.std.specs.Slice.{IsItemAt}
use Rattle.std.proofs.lemmas.Option.{slice_get_past, slice_get_read}
use Rattle.std.specs.List.{zip}
use Rattle.ill_night.specs.declared.verdict.MessageFile.{MessageFile}
use Rattle.ill_night.specs.declared.verdict.Verdict.{Verdict}
use Rattle.ill_room.specs.Letters.{file_verdict, pair_at, verdict_at}

-- Pairing a list with an empty list gives no pairs.
zip_nothing : (message_files : List MessageFile) → zip {X = Verdict} message_files [] ≡ []
zip_nothing [] = refl
zip_nothing (message_file ∷ message_files) = refl

-- If there is no verdict, `pair_at` adds no pair before `rest`.
no_pair : (message_file : Option MessageFile) (rest : List (MessageFile × Verdict)) → pair_at message_file None ++ rest ≡ rest
no_pair None rest = refl
no_pair (Some message_file) rest = refl

-- Let a call of `get` at `place` of `xs` return `found`. Then the value of `found` is the element of `xs` at `place`,
-- or None if `place` is beyond the end.
pub item_at : {X : Type 0} (xs : List X) (place : ℕ) (found : Option (Bor X)) → IsItemAt xs place found
    → option_map (λ (x : Bor X). x.now) found ≡ slice_get xs place
item_at xs place (Some x) at = sym (slice_get_read xs (length xs) place x.now refl at.3.0 at.1)
item_at xs place None at = sym (slice_get_past xs place at.3)

-- If there is no verdict, `verdict_at` is empty.
pub no_verdict : (all : List (MessageFile × Verdict)) (message_file : Option MessageFile) → verdict_at all message_file None ≡ []
no_verdict all None = refl
no_verdict all (Some message_file) = refl

-- `verdict_at` has the verdict of the file (`file_verdict`) for the pair of `message_file` and `verdict`, if there are
-- both.
pub verdict_of_pair : (all : List (MessageFile × Verdict)) (message_file : Option MessageFile) (verdict : Option Verdict)
    → verdict_at all message_file verdict ≡ map (λ pair. file_verdict all pair.0.letter pair.1) (pair_at message_file verdict)
verdict_of_pair all None verdict = refl
verdict_of_pair all (Some message_file) None = refl
verdict_of_pair all (Some message_file) (Some verdict) = refl

-- The pairs from `place` on are the pair at `place`, and the later ones.
pub split_at : (message_files : List MessageFile) (verdicts : List Verdict) (place : ℕ)
    → pair_at (slice_get message_files place) (slice_get verdicts place)
    ++ zip (drop (suc place) message_files) (drop (suc place) verdicts)
    ≡ zip (drop place message_files) (drop place verdicts)
split_at [] verdicts zero = refl
split_at [] verdicts (suc place) = refl
split_at (message_file ∷ message_files) [] zero = zip_nothing message_files
split_at (message_file ∷ message_files) [] (suc place) =
    no_pair (slice_get message_files place) (zip (drop (suc place) message_files) [])
    ∙ (zip_nothing (drop (suc place) message_files) ∙ sym (zip_nothing (drop place message_files)))
split_at (message_file ∷ message_files) (verdict ∷ verdicts) zero = refl
split_at (message_file ∷ message_files) (verdict ∷ verdicts) (suc place) = split_at message_files verdicts place
