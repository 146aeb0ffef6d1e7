-- Proves the contract of `first_take` (`src/many_sides.rt`).
-- An idle responder takes each ILL-Request.
use Rattle.std.proofs.Common.{rules}
use Rattle.ill_saved.proofs.Contents.{first_take_fails}
use Rattle.ill_saved.proofs.many_sides.first_take.Goals as goal

-- The first APDU of a transaction fails only if memory runs out.
pub returns-in-Err : goal.returns-in-Err
returns-in-Err c =
    let fault = first_take_fails c.args.role c.args.apdu.now c.in-Err.fault c.take.new.self c.requires.request c.requires.other
    (search rules) in
    search (rules, fault, c.into.ensures)
