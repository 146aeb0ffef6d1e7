-- Proves the contract of `requester` (`src/decoding.rt`).
-- The parts of a requester fit together exactly if the record is consistent.
use Rattle.std.proofs.Common.{rules, ◌≡◌, Ok, sym}
use Rattle.ill_core.specs.Requester.{RequesterRecord, requester_of, IsRequester}
use Rattle.ill_record.specs.declared.side.Side.TheVariants as sides
use Rattle.ill_record.specs.Records.{read_requester, all_of}
use Rattle.ill_record.proofs.Records.{judged_not}
use Rattle.ill_record.proofs.decoding.requester.Goals as goal

-- If the parts of a requester do not fit together, the answer is `Inconsistent`.
pub returns-in-None : goal.returns-in-None
returns-in-None c =
    let x : RequesterRecord =
    requester_of c.in_ok-txn.txn c.in_ok-state.state c.in_ok-held.held c.in_ok-checked_in.checked_in c.in_ok-due.due
    c.in_ok-issued.issued.items in
    let read : all_of (read_requester c.args.cursor.now) ≡ Ok (sides.Requester x) = search rules in
    let breaks : IsRequester x → ⊥ = search rules in
    sym (judged_not (all_of (read_requester c.args.cursor.now)) (sides.Requester x) read breaks)
