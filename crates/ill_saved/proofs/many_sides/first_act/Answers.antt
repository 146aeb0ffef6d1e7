-- Proves the contract of `first_act` (`src/many_sides.rt`).
-- An idle requester performs each action Request.
use Rattle.std.proofs.Common.{rules}
use Rattle.ill_saved.proofs.Contents.{first_act_fails}
use Rattle.ill_saved.proofs.many_sides.first_act.Goals as goal

-- The first action of a transaction fails only if memory runs out.
pub returns-in-Err : goal.returns-in-Err
returns-in-Err c =
    let fault = first_act_fails c.args.role c.args.txn.now c.args.action.now c.in-Err.fault c.act.new.self c.requires.begins
    c.requires.role (search rules) in
    search (rules, fault, c.into.ensures)
