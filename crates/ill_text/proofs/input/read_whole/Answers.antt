-- Answers the contract of `read_whole` (`src/input.rt`).
use Rattle.std.proofs.Common.{◌≡◌, ℕ, ◌-◌, ◌<◌, ◌≤◌, ◌++◌, length, take, inl, refl, sym, subst, arith, rules}
use Rattle.std.proofs.KnownBytes.{Consumes-trans}
use Rattle.std.proofs.lemmas.List.{length-append, length-take-le}
use Rattle.ill_text.proofs.input.read_whole.Goals as goal

-- Proves that the input has more than `limit` bytes, if the next piece has more bytes than `limit` leaves (`over`).
-- `long` says that the piece has as many bytes as were read.
pub returns-then-size-saturating_sub-clause-fault : goal.returns-then-size-saturating_sub-clause-fault
returns-then-size-saturating_sub-clause-fault g c =
    let few : c.in-Ok.size ≤ length c.read.new.buf = search rules in
    let long : length (take c.in-Ok.size c.read.new.buf) ≡ c.in-Ok.size = length-take-le c.in-Ok.size c.read.new.buf few in
    let over : c.args.limit - length c.loop-bytes.bytes.items < c.in-Ok.size = search rules in
    inl (
      refl,
      (
        c.loop-bytes.bytes.items ++ take c.in-Ok.size c.read.new.buf,
        Consumes-trans _ _ _ _ _ c.loop-bytes.invariant.so_far c.in-Ok.ensures.bytes.0,
        subst (λ (n : ℕ). c.args.limit < n) (sym (length-append c.loop-bytes.bytes.items (take c.in-Ok.size c.read.new.buf)))
            (omega (arith, long, over)),
      ),
    )
