-- Answers the contract of `run_desk_verify` (`src/verify.rt`).
use Rattle.std.proofs.Common.{rules, Ok, Err, Some, None, refl}
use Rattle.std.proofs.KnownBytes.{Appends-nil}
use Rattle.ill_show.proofs.verify.run_desk_verify.Goals as goal

-- Proves the clause `verifies` of `run_desk_verify` if the store has bytes. `verify_bytes` writes their text, or
-- tells their fault.
pub returns-in-Ok-Some-clause-verifies : goal.returns-in-Ok-Some-clause-verifies
returns-in-Ok-Some-clause-verifies g c = (
  Ok (Some c.in-Ok-Some.bytes.items),
  (λ correct. let is = c.in-Ok-Some.ensures.loads.loaded correct in search (rules, is)),
  search rules,
)

-- Proves the clause `verifies` of `run_desk_verify` if the store has no record. Nothing is written.
pub returns-in-Ok-None-clause-verifies : goal.returns-in-Ok-None-clause-verifies
returns-in-Ok-None-clause-verifies g c = (
  Ok None,
  (λ correct. let is = c.in-Ok-None.ensures.loads.loaded correct in search (rules, is)),
  (refl, Appends-nil (g.W.Write.contents c.args.writer.now)),
)

-- Proves the clause `verifies` of `run_desk_verify` if the load fails. Nothing is written.
pub returns-in-Err-clause-verifies : goal.returns-in-Err-clause-verifies
returns-in-Err-clause-verifies g c =
    (Err c.in-Err.fault, (λ correct. tt), (search rules, Appends-nil (g.W.Write.contents c.args.writer.now)))
