-- Answers the contract of `push_done` (`src/tally.rt`).
use Rattle.std.proofs.Common.{◌≡◌, ℕ, ◌++◌, List, ap, append_assoc, refl, ◌∙◌}
use Rattle.std.specs.Prelude.{codes}
use Rattle.std.specs.Fmt.{decimal}
use Rattle.ill_inbox.specs.Lines.{done_text}
use Rattle.ill_inbox.proofs.tally.push_done.Goals as goal

-- Joining ten texts from the right equals joining them from the left.
ten_joined : (a b c d e f g h i j : List ℕ)
    → a ++ (b ++ (c ++ (d ++ (e ++ (f ++ (g ++ (h ++ (i ++ j)))))))) ≡ a ++ b ++ c ++ d ++ e ++ f ++ g ++ h ++ i ++ j
ten_joined a b c d e f g h i j = simp append_assoc refl

-- Proves the contract of `push_done`. The text joins the ten texts from the left.
pub returns : goal.returns
unfolding done_text
returns c =
    let tally = c.args.tally.now in
    let joined = ten_joined (codes "taken ") (decimal tally.taken) (codes ", repeat ") (decimal tally.repeat) (codes ", stale ")
    (decimal tally.stale) (codes ", conflict ") (decimal tally.conflict) (codes ", unknown ") (decimal tally.unknown) in
    c.in_ok-extend_from_slice.ensures.items
    ∙ ap (λ text. c.args.lines.now.items ++ text) (c.as_bytes.ensures.value ∙ c.in_ok-text.ensures.ok ∙ joined)
