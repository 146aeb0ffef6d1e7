-- Lemmas on lists of bytes.
use Rattle.std.proofs.Common.{◌≡◌, ℕ, ◌+◌, List, ◌++◌, length, take, drop, refl, ap, subst, ◌∙◌, inl, inr, arith}
use Rattle.std.proofs.lemmas.Bool.{cases_lt}
use Rattle.std.proofs.lemmas.List.{drop_at, get_or-drop, get_or-take, get_or_past, length-take}
use Rattle.ill_der.specs.Laws.{IsBytes}

-- If all of `bytes` are octets, the first `n` are octets.
pub IsBytes-take : (n : ℕ) (bytes : List ℕ) → IsBytes bytes → IsBytes (take n bytes)
IsBytes-take n bytes h i =
    elim (cases_lt i n) [
      | inl lt ↦ rw (get_or-take n bytes i 0 lt) (h i)
      | inr le ↦ rw (get_or_past (take n bytes) i 0 (omega (arith, length-take n bytes))) (omega arith)
    ]

-- If `bytes` is `prefix ++ rest` and all of it are octets, all of `rest` are octets.
pub IsBytes-rest : (bytes prefix rest : List ℕ) → bytes ≡ prefix ++ rest → IsBytes bytes → IsBytes rest
IsBytes-rest bytes prefix rest e h =
    let after : IsBytes (drop (length prefix) bytes) = λ i. rw get_or-drop (h (length prefix + i)) in
    subst IsBytes (ap (drop (length prefix)) e ∙ drop_at prefix rest (length prefix) refl) after
