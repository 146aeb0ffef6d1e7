-- Answers the contract of `push_counts_line` (`src/list.rt`).
use Rattle.std.proofs.Common.{◌≡◌, ℕ, ◌++◌, List, ap, append_assoc, refl, ◌∙◌}
use Rattle.std.specs.Prelude.{codes}
use Rattle.std.specs.Fmt.{decimal}
use Rattle.ill_list.specs.List.{counts_line}
use Rattle.ill_list.proofs.list.push_counts_line.Goals as goal

-- Joining nine texts from the right equals joining them from the left.
nine_joined : (a b c d e f g h i : List ℕ)
    → a ++ (b ++ (c ++ (d ++ (e ++ (f ++ (g ++ (h ++ i))))))) ≡ a ++ b ++ c ++ d ++ e ++ f ++ g ++ h ++ i
nine_joined a b c d e f g h i = simp append_assoc refl

-- Proves the contract of `push_counts_line`. The line joins the nine texts from the left.
pub returns : goal.returns
unfolding counts_line
returns c =
    let counts = c.args.counts.now in
    let joined = nine_joined (codes "loans ") (decimal counts.loans) (codes ", open ") (decimal counts.open_loans)
    (codes ", to do ") (decimal counts.to_do) (codes ", room for ") (decimal counts.room) (codes "\n") in
    c.in_ok-extend_from_slice.ensures.items
    ∙ ap (λ line. c.args.lines.now.items ++ line) (c.as_bytes.ensures.value ∙ c.in_ok-line.ensures.ok ∙ joined)
