-- Proves which words follow the beginning of a line of notes.
use Rattle.std.proofs.Common.{◌≡◌, ℕ, ◌-◌, Bool, true, ◌&&◌, List, Option, Some, None, length, drop, take, ap, sym, subst}
use Rattle.std.proofs.Common.{◌∙◌, arith}
use Rattle.std.specs.Prelude.{if◌then◌else◌, nat_eq, IsUtf8}
use Rattle.std.specs.List.{starts_with}
use Rattle.std.specs.Str.{is_utf8}
use Rattle.std.proofs.lemmas.Bool.{false_from_ne_true}
use Rattle.std.proofs.lemmas.List.{length-drop, take_all}
use Rattle.std.proofs.lemmas.Str.{IsUtf8-from_is_utf8, is_utf8-from_IsUtf8}
use Rattle.ill_beside.specs.Notes.{words_after}

-- Taking `length line - size` bytes of those after the first `size` takes them all.
pub rest_whole : (size : ℕ) (line : List ℕ) → take (length line - size) (drop size line) ≡ drop size line
rest_whole size line = take_all (length line - size) (drop size line) (omega (arith, length-drop size line))

-- Returns the words after `begin`, if `is` is true.
abbrev words_if : (begin line : List ℕ) → Bool → Option (List ℕ)
words_if begin line is = if is then Some (drop (length begin) line) else None

-- If a line begins with `begin`, and the rest of it is UTF-8, its words are this rest.
pub words_read : (begin line words : List ℕ) → true ≡ starts_with nat_eq line begin
    → words ≡ take (length line - length begin) (drop (length begin) line)
    → IsUtf8 (take (length line - length begin) (drop (length begin) line)) → Some words ≡ words_after begin line
words_read begin line words begins is utf8 =
    let rest = drop (length begin) line in
    let whole = rest_whole (length begin) line in
    let text = is_utf8-from_IsUtf8 rest (subst IsUtf8 whole utf8) in
    ap Some (is ∙ whole) ∙ sym (ap (words_if begin line) (ap (λ b. b && is_utf8 rest) (sym begins) ∙ text))

-- If a line begins with `begin`, and the rest of it is not UTF-8, it has no words.
pub no_words : (begin line : List ℕ) → true ≡ starts_with nat_eq line begin
    → ¬ (IsUtf8 (take (length line - length begin) (drop (length begin) line))) → None ≡ words_after begin line
no_words begin line begins none =
    let rest = drop (length begin) line in
    let whole = rest_whole (length begin) line in
    let no_text = false_from_ne_true (is_utf8 rest) (λ yes. none (subst IsUtf8 (sym whole) (IsUtf8-from_is_utf8 rest yes))) in
    sym (ap (words_if begin line) (ap (λ b. b && is_utf8 rest) (sym begins) ∙ no_text))
