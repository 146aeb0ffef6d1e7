-- Proves the law `laws::equal_apdus`: APDUs are equal if, and only if, all their parts are.
use Rattle.ill_values.proofs.Equality.{apdus_equal}
use Rattle.ill_values.proofs.laws.equal_apdus.Goals as goal

pub returns : goal.returns
returns c = apdus_equal _ _ c.equal_txn_ids.ensures c.equal_bodies.ensures
