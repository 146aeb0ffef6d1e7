-- Proves the contract of `OneSide::read` (`src/one_side.rt`).
-- A side that is read is consistent, so it backs itself.
use Rattle.std.proofs.Common.{rules, arith}
use Rattle.ill_record.specs.Records.{begins_as_record}
use Rattle.ill_saved.proofs.Desks.{itself_backs, keeps_whole, record_faults}
use Rattle.ill_saved.proofs.one_side.OneSideHeld.read.Goals as goal

-- A fault of the record is a fault that reading a record without a digest can have.
pub returns-in_err-side-clause-faults : goal.returns-in_err-side-clause-faults
returns-in_err-side-clause-faults c =
    let bytes = c.deref.result.now in
    search (rules, record_faults bytes (begins_as_record bytes) c.in_err-side.field-0.0 c.in_err-side.ensures.decodes)

-- The side that was read satisfies its rules, with all messages released.
pub invariant_of-result : goal.invariant_of-result
invariant_of-result c =
    let all = c.issued_count-released.ensures in
    let is = c.in_ok-side.ensures.encoded.0 in (
      omega (arith, all),
      keeps_whole c.in_ok-committed_record.committed_record c.in_ok-side.side c.issued_count-released.result
          (is, c.in_ok-committed_record.ensures) all,
    )

-- The side that was read backs itself.
pub returns-clause-backed : goal.returns-clause-backed
returns-clause-backed c = itself_backs c.in_ok-side.side c.issued_count-released.result c.in_ok-side.ensures.encoded.0.0
    (omega (arith, c.issued_count-released.ensures))
