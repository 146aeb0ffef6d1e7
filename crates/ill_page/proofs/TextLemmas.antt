-- Proves how a text grows by several texts, for the contracts of `src/desks.rt`.
use Rattle.std.proofs.Common.{◌≡◌, ℕ, List, ◌++◌, refl, ap, ◌∙◌, append_assoc}

-- Appending four texts to `before`, one after another, equals appending their join.
four_joined : (before one two three four : List ℕ)
    → before ++ one ++ two ++ three ++ four ≡ before ++ (one ++ (two ++ (three ++ four)))
four_joined before one two three four = simp append_assoc refl

-- If `first` to `fourth` grow from `before` by one text each, `fourth` is `before` and the four texts.
pub four_added : (before first second third fourth one two three four : List ℕ) → first ≡ before ++ one
    → second ≡ first ++ two → third ≡ second ++ three → fourth ≡ third ++ four
    → fourth ≡ before ++ (one ++ (two ++ (three ++ four)))
four_added before first second third fourth one two three four e f g h =
    h ∙ ap (λ text. text ++ four) (g ∙ ap (λ text. text ++ three) (f ∙ ap (λ text. text ++ two) e))
    ∙ four_joined before one two three four
