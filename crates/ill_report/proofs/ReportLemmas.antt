-- Proves how a page grows by the parts of desks.
use Rattle.std.proofs.Common.{◌≡◌, ℕ, List, ◌++◌, refl, ap, ◌∙◌, append_assoc}

-- Appending three texts one by one equals appending their join.
pub three_added : (before first second third one two three : List ℕ) → first ≡ before ++ one → second ≡ first ++ two
    → third ≡ second ++ three → third ≡ before ++ (one ++ (two ++ three))
three_added before first second third one two three e f g =
    g ∙ ap (λ text. text ++ three) (f ∙ ap (λ text. text ++ two) e) ∙ append_assoc (before ++ one) two three
    ∙ append_assoc before one (two ++ three)

-- Appending five texts one by one to `before` equals appending the join of the five.
five_joined : (before one two three four five : List ℕ)
    → before ++ one ++ two ++ three ++ four ++ five ≡ before ++ (one ++ (two ++ (three ++ (four ++ five))))
five_joined before one two three four five = simp append_assoc refl

-- If four texts were appended to `before` one by one, a fifth one gives `before` with all five joined.
pub four_added : (before first second third fourth one two three four five : List ℕ) → first ≡ before ++ one
    → second ≡ first ++ two → third ≡ second ++ three → fourth ≡ third ++ four
    → fourth ++ five ≡ before ++ (one ++ (two ++ (three ++ (four ++ five))))
four_added before first second third fourth one two three four five e f g h =
    ap (λ text. text ++ five)
    (h ∙ ap (λ text. text ++ four) (g ∙ ap (λ text. text ++ three) (f ∙ ap (λ text. text ++ two) e)))
    ∙ five_joined before one two three four five
