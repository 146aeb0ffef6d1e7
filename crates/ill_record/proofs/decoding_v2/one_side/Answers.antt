-- Proves the contract of `one_side` (`src/decoding_v2.rt`).
-- A side that is not idle may be put alone, so putting it fails only if memory runs out.
use Rattle.std.proofs.Common.{rules, ◌≡◌, false, [], Err, subst}
use Rattle.ill_record.specs.Side.{role_of, is_idle}
use Rattle.ill_record.specs.Sides.{SidesOf}
use Rattle.ill_record.specs.RecordsV2.{PutsRead}
use Rattle.ill_record.proofs.Together.{alone_fails}
use Rattle.ill_record.proofs.decoding_v2.one_side.Goals as goal

-- If the only side cannot be put, the fault is right for the record.
pub returns-in_err-put : goal.returns-in_err-put
returns-in_err-put c =
    let side = c.in_ok-side.side in
    let fault = c.in_err-put.field-0.0 in
    let begun : is_idle side ≡ false = search rules in
    let none : c.in_ok-sides.sides ≡ record { role = role_of side; sides = [] } = search rules in
    let puts = subst (λ (held : SidesOf). PutsRead held side (Err fault) c.put.new.sides) none c.in_err-put.ensures in
    search (rules, alone_fails c.args.bytes.now side fault c.put.new.sides c.in_ok-side.ensures begun puts)
