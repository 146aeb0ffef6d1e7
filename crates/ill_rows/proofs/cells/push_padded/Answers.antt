-- Answers the contract of `push_padded` (`src/cells.rt`).
use Rattle.std.proofs.Common.{ℕ, ◌≡◌, ◌+◌, ◌-◌, ◌++◌, ◌∷◌, [], length, replicate, ap, sym, ◌∙◌, append_assoc, arith}
use Rattle.std.proofs.lemmas.List.{append-nil}
use Rattle.ill_rows.specs.Cells.{padded}
use Rattle.ill_rows.proofs.CellLemmas.{one_space}
use Rattle.ill_rows.proofs.cells.push_padded.Goals as goal

-- Proves the loop invariant of `push_padded` after one more space. By `one_space` one space fewer is left.
pub loop-preserved : goal.loop-preserved
loop-preserved c =
    let before = c.loop.lines.items in
    let left = replicate {A = ℕ} (c.args.width - (c.loop.counter + 1)) 32 in
    let one_more = append_assoc before (32 ∷ []) left
    ∙ ap (λ more. before ++ more) (sym (one_space c.args.width c.loop.counter c.loop-test.true)) in
    record { filled = ap (λ items. items ++ left) c.in_ok-push.ensures.items ∙ one_more ∙ c.loop.invariant.filled }

-- Proves the contract of `push_padded`. After the loop no space is left.
pub returns : goal.returns
unfolding padded
returns c =
    let filled = c.loop.lines.items in
    let spaces = replicate {A = ℕ} (c.args.width - length c.args.text.now) 32 in
    let none : c.args.width - c.loop.counter ≡ 0 = omega (arith, c.loop-test.false) in
    sym (append-nil filled) ∙ ap (λ n. filled ++ replicate {A = ℕ} n 32) (sym none) ∙ c.loop.invariant.filled
    ∙ ap (λ items. items ++ spaces) c.in_ok-extend_from_slice.ensures.items
    ∙ append_assoc c.args.lines.now.items c.args.text.now spaces
