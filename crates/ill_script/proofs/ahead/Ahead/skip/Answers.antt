-- Proves the contract of `Ahead::skip` (`src/ahead.rt`). The buffer begins its range `count` later, and so lacks the
-- first `count` bytes.
use Rattle.std.proofs.Common.{arith, ◌≡◌, ◌≤◌, ◌+◌, ◌-◌, ℕ, List, length, take, drop, slice_range, sym, ap, ◌∙◌, subst}
use Rattle.std.proofs.Common.{length-take, drop-drop}
use Rattle.std.proofs.lemmas.List.{drop-take}
use Rattle.ill_script.proofs.ahead.Ahead.skip.Goals as goal

-- If a range begins `count` later, it lacks its first `count` items.
fewer : (xs : List ℕ) (start end count : ℕ) → count ≤ length (slice_range xs start end)
    → slice_range xs (start + count) end ≡ drop count (slice_range xs start end)
fewer xs start end count there =
    let within : count + (end - (start + count)) ≡ end - start =
    omega (arith, there, length-take (end - start) (drop start xs)) in
    ap (take (end - (start + count))) (sym (drop-drop count start xs))
    ∙ sym (drop-take count (end - (start + count)) (drop start xs))
    ∙ ap (λ k. drop count (take k (drop start xs))) within

-- The range of the buffer begins `count` later, and `view_is` turns it into the bytes.
pub returns : goal.returns
returns c =
    let old = c.self.inside in
    let there = subst (λ (bytes : List ℕ). c.args.count ≤ length bytes) (sym c.self.view_is) c.requires in
    fewer old.piece old.start old.end c.args.count there ∙ ap (drop c.args.count) c.self.view_is
