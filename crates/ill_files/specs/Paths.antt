-- The files that stand beside a desk.
use Rattle.std.specs.Prelude.{ℕ, Bool, List, [], ◌∷◌, codes, nat_eq}
use Rattle.std.specs.List.{ends_with, list_any}

-- Returns true if `path` has the ending of what lies beside the file of a desk.
abbrev pub is_beside : List ℕ → Bool
is_beside path = list_any (λ ending. ends_with nat_eq path ending)
    (codes ".new" ∷ codes ".lck" ∷ codes ".came" ∷ codes ".notes" ∷ codes ".diary" ∷ codes ".mail" ∷ codes ".retired" ∷ [])
