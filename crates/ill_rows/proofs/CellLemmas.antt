-- Proves how a cell is filled with spaces, and how a column goes on.
use Rattle.std.proofs.Common.{◌≡◌, ℕ, suc, ◌+◌, ◌-◌, ◌<◌, ◌++◌, Bool, List, [], ◌∷◌, replicate, ap}
use Rattle.std.proofs.Common.{sym, subst, ◌∙◌, arith, append_assoc, ◌||◌, ◌==◌}
use Rattle.std.proofs.lemmas.List.{append-nil}
use Rattle.ill_rows.specs.Cells.{column_byte, column_rest, is_end}

-- If `place` is less than `width`, one more space is left at `place` than at `place + 1`.
pub one_space : (width place : ℕ) → place < width
    → replicate {A = ℕ} (width - place) 32 ≡ 32 ∷ replicate {A = ℕ} (width - (place + 1)) 32
one_space width place within = let e : width - place ≡ suc (width - (place + 1)) = omega arith in
    ap (λ n. replicate {A = ℕ} n 32) e

-- If `rest` begins with `byte`, `more` and the column of the bytes `after` it are `all`. Here `more` is `shown` and
-- `byte` as it is shown, and `shown` and the column of `rest` are `all`.
pub column_goes_on : (shown more all : List ℕ) (is_edge : Bool) (byte : ℕ) (after rest : List ℕ) → rest ≡ byte ∷ after
    → shown ++ column_rest is_edge rest ≡ all → more ≡ shown ++ column_byte (is_edge || is_end after) byte
    → more ++ column_rest (byte == 0x20) after ≡ all
unfolding column_rest
column_goes_on shown more all is_edge byte after rest begins left pushed =
    ap (λ (text : List ℕ). text ++ column_rest (byte == 0x20) after) pushed
    ∙ append_assoc shown (column_byte (is_edge || is_end after) byte) (column_rest (byte == 0x20) after)
    ∙ subst (λ (rest : List ℕ). shown ++ column_rest is_edge rest ≡ all) begins left

-- If `rest`, the bytes left to show, is empty, the text `shown` so far is `all`.
pub column_ends : (shown all : List ℕ) (is_edge : Bool) (rest : List ℕ) → shown ++ column_rest is_edge rest ≡ all → rest ≡ []
    → shown ≡ all
unfolding column_rest
column_ends shown all is_edge rest left none =
    sym (append-nil shown) ∙ subst (λ (rest : List ℕ). shown ++ column_rest is_edge rest ≡ all) none left
