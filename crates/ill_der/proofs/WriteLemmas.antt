-- Writing bytes in several parts.
use Rattle.std.proofs.Common.{◌≡◌, ℕ, ◌+◌, ◌-◌, List, length, take, drop, Option, sym, ap, subst, ◌∙◌}
use Rattle.std.specs.Io.KnownBytes.{Appends}
use Rattle.std.proofs.KnownBytes.{Appends-trans}
use Rattle.std.proofs.Math.Seq.{take-add, take-length}
use Rattle.std.proofs.lemmas.List.{length-drop}

-- The slice of `bytes` from `written` to the end is all bytes after the first `written`.
pub whole_rest : (written : ℕ) (bytes : List ℕ) → take (length bytes - written) (drop written bytes) ≡ drop written bytes
whole_rest written bytes =
    ap (λ (n : ℕ). take n (drop written bytes)) (sym (length-drop written bytes)) ∙ take-length (drop written bytes)

-- If a writer took the first `written` bytes and then the next `count`, it took the first `written + count`.
pub appends_from : (before middle after : Option (List ℕ)) (written count : ℕ) (bytes : List ℕ)
    → Appends before middle (take written bytes) → Appends middle after (take count (drop written bytes))
    → Appends before after (take (written + count) bytes)
appends_from before middle after written count bytes first second =
    subst (Appends before after) (sym (take-add written count bytes))
    (Appends-trans before middle after (take written bytes) (take count (drop written bytes)) first second)
