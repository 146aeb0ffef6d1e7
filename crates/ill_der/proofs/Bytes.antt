-- The parts of a list of octets are lists of octets.
use Rattle.std.proofs.Common.{◌≡◌, ℕ, ◌+◌, List, ◌++◌, length, take, drop, refl, subst, inl, inr, arith}
use Rattle.ill_der.specs.Laws.{IsBytes}
use Rattle.std.proofs.lemmas.Bool.{cases_lt}
use Rattle.std.proofs.lemmas.List.{drop_at, get_or-drop, get_or-take, get_or_past, length-take}

-- If all of `bytes` are octets, the bytes after the first `n` are octets.
pub IsBytes-drop : (n : ℕ) (bytes : List ℕ) → IsBytes bytes → IsBytes (drop n bytes)
IsBytes-drop n bytes h i = rw get_or-drop (h (n + i))

-- If all of `bytes` are octets, the first `n` are octets.
pub IsBytes-take : (n : ℕ) (bytes : List ℕ) → IsBytes bytes → IsBytes (take n bytes)
IsBytes-take n bytes h i =
    elim (cases_lt i n) [
      | inl lt ↦ rw (get_or-take n bytes i 0 lt) (h i)
      | inr le ↦ rw (get_or_past (take n bytes) i 0 (omega (arith, length-take n bytes))) (omega arith)
    ]

-- If `bytes` is `prefix ++ rest` and all of it are octets, all of `rest` are octets.
pub IsBytes-rest : (bytes prefix rest : List ℕ) → bytes ≡ prefix ++ rest → IsBytes bytes → IsBytes rest
IsBytes-rest bytes prefix rest e h =
    let whole : IsBytes (prefix ++ rest) = subst IsBytes e h in
    subst IsBytes (drop_at prefix rest (length prefix) refl) (IsBytes-drop (length prefix) (prefix ++ rest) whole)
