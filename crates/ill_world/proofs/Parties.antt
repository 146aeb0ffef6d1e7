-- A desk of one side gives the answers that a party of the model gives.
use Rattle.std.proofs.Common.{rules, ◌≡◌, List, [], ℕ, Result, Ok, Err, ap, sym, subst}
use Rattle.ill_values.specs.declared.apdu.Apdu.{Apdu}
use Rattle.ill_der.specs.declared.fault.DerFault.{DerFault}
use Rattle.ill_core.specs.declared.refusal.Refusal.{Refusal}
use Rattle.ill_core.specs.declared.taking.Taking.{Taking}
use Rattle.ill_record.specs.declared.side.Side.{Side}
use Rattle.ill_saved.specs.declared.fault.DeskFault.{DeskFault}
use Rattle.ill_saved.specs.declared.fault.DeskFault.TheVariants as faults
use Rattle.ill_record.specs.Side.{idle_of, takes, IsSideTransition, Grows, took}
use Rattle.ill_saved.specs.Holdings.{DeskEntry}
use Rattle.ill_saved.specs.OneSide.{one_acts, one_side, with_side}
use Rattle.ill_saved.specs.Desk.{DeskTakes}

-- A transition keeps the role and the transaction, and takes no message away.
abbrev pub RowsGrow : Type 0
RowsGrow = (old new : Side) → IsSideTransition old new → Grows old new

-- If two results are equal, their values are equal.
done_is : (held new : DeskEntry) → ◌≡◌ {A = Result DeskEntry DeskFault} (Ok held) (Ok new) → held ≡ new
done_is held new is = search rules

-- If bytes are exactly one APDU, their answer is the answer to this APDU.
pub takes_one : (old new : DeskEntry) (read : Result (Apdu × List ℕ) DerFault) (a : Apdu) (answer : Result Taking DeskFault)
    → read ≡ Ok (a, []) → DeskTakes one_side old read answer new
    → DeskTakes one_side old (Ok (a, [])) answer new
takes_one old new read a answer e takes = subst (λ r. DeskTakes one_side old r answer new) e takes

-- A side that takes an APDU keeps its role and its transaction.
answered_idle : RowsGrow → (old new : DeskEntry) (a : Apdu) (answer : Result Taking DeskFault)
    → one_side.takes old a ≡ (answer, new) → idle_of new.side ≡ idle_of old.side
answered_idle grows old new a answer is =
    (grows old.side new.side (took a (ap (λ (r : Result Taking DeskFault × DeskEntry). r.1.side) is))).0

-- A side that takes one APDU, or has no memory for it, keeps its role and its transaction.
pub taken_idle : RowsGrow → (old new : DeskEntry) (a : Apdu) (answer : Result Taking DeskFault)
    → DeskTakes one_side old (Ok (a, [])) answer new → idle_of new.side ≡ idle_of old.side
taken_idle grows old new a (Ok answered) is = answered_idle grows old new a (Ok answered) is
taken_idle grows old new a (Err faults.OutOfMemory) is = ap (λ (held : DeskEntry). idle_of held.side) is
taken_idle grows old new a (Err fault) is = answered_idle grows old new a (Err fault) is.0

-- If a desk of one side does an action, its side has done it, and the released count is unchanged.
pub one_done : (held new : DeskEntry) (r : Result Side Refusal) → one_acts held r ≡ Ok new
    → (r ≡ Ok new.side) × (new.released ≡ held.released)
one_done held new (Ok side) is =
    let same = done_is (with_side held side) new is in
    (ap (λ (h : DeskEntry). Ok h.side) same, sym (ap (λ (h : DeskEntry). h.released) same))
one_done held new (Err refusal) is = absurd cc

-- If a desk of one side refuses an action, its side has refused it.
pub one_refused : (held : DeskEntry) (r : Result Side Refusal) (refusal : Refusal) → one_acts held r ≡ Err (faults.Core refusal)
    → r ≡ Err refusal
one_refused held (Err other) refusal is = search rules
one_refused held (Ok side) refusal is = absurd cc
