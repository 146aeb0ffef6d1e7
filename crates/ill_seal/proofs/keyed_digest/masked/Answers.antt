-- Answers the contract of `masked` (`src/keyed_digest.rt`).
use Rattle.std.proofs.Common.{◌∷◌, ◌++◌, [], List, ℕ, ap, sym, ◌∙◌, arith, take}
use Rattle.std.specs.Prelude.{bit_xor}
use Rattle.std.proofs.lemmas.List.{length-set, take_more_set}
use Rattle.ill_seal.specs.Hmac.{masked, filled}
use Rattle.ill_seal.proofs.Blocks.{more_masked}
use Rattle.ill_seal.proofs.keyed_digest.masked.Goals as goal

-- One more byte of the block is set, by `more_masked`. The block keeps its length.
pub loop-place-preserved : goal.loop-place-preserved
loop-place-preserved c =
    let mask = c.args.mask in
    let place = c.loop-place.place in
    let key = c.args.key.now in
    let size = c.loop-place.invariant.0 in
    let byte = bit_xor c.byte_at.result mask in (
      length-set _ _ _ ∙ size,
      take_more_set c.loop-place.block place byte (omega (arith, size))
          ∙ ap (λ (l : List ℕ). l ++ byte ∷ []) c.loop-place.invariant.1
          ∙ ap (λ (x : ℕ). masked mask (take place (filled key)) ++ bit_xor x mask ∷ []) c.byte_at.ensures
          ∙ sym (more_masked mask place key c.requires (omega arith)),
    )
