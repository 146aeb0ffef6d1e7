-- Proves the contract of `read_sides` (`src/many_sides.rt`).
-- Decoding gives only consistent sides, which back themselves.
use Rattle.std.proofs.Common.{◌≡◌, arith, ap, sym, subst}
use Rattle.ill_record.specs.Side.{IsConsistent}
use Rattle.ill_record.specs.Ranges.{Each}
use Rattle.ill_saved.specs.ManySides.{ManyBack, sides_held, whole_of}
use Rattle.ill_saved.proofs.Contents.{read_consistent, sides_of_whole, whole_back}
use Rattle.ill_saved.proofs.many_sides.read_sides.Goals as goal

-- The sides that were read are consistent.
pub whole-requires : goal.whole-requires
whole-requires c =
    let bytes = c.args.bytes.now in
    record {
      rules = read_consistent c.encoded.ensures.side c.sides_encoded.ensures bytes c.in_ok-sides.sides
          (λ i. omega (arith, c.type_inv.bytes i)) (sym c.in_ok-sides.ensures);
    }

-- All messages are released.
pub returns-clause-whole : goal.returns-clause-whole
returns-clause-whole c =
    subst (λ held. held ≡ whole_of (sides_held held)) (sym c.in_ok-whole.ensures)
    (ap whole_of (sym (sides_of_whole c.in_ok-sides.sides)))

-- The sides that were read back themselves.
pub returns-clause-backed : goal.returns-clause-backed
returns-clause-backed c =
    let bytes = c.args.bytes.now in
    let each : Each IsConsistent c.in_ok-sides.sides.sides =
    read_consistent c.encoded.ensures.side c.sides_encoded.ensures bytes c.in_ok-sides.sides
    (λ i. omega (arith, c.type_inv.bytes i)) (sym c.in_ok-sides.ensures) in
    subst (λ held. ManyBack held held) (sym c.in_ok-whole.ensures) (whole_back c.in_ok-sides.sides each)
