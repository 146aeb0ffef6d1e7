-- The reading of a record after its version and its role, and the check that the side is consistent.
use Rattle.std.proofs.Common.{◌≡◌, ℕ, Bool, true, false, cond, List, Result, Ok, Err, refl, ap, sym, subst, ◌∙◌}
use Rattle.std.specs.Prelude.{IfOk}
use Rattle.ill_der.specs.Format.{◌>>=◌, Cursor, cursor_at}
use Rattle.ill_record.specs.declared.fault.LayoutFault.{LayoutFault}
use Rattle.ill_record.specs.declared.fault.LayoutFault.TheVariants.{Short, Bad}
use Rattle.ill_record.specs.declared.fault.RecordFault.{RecordFault}
use Rattle.ill_record.specs.declared.fault.RecordFault.TheVariants as faults
use Rattle.ill_record.specs.declared.role.Role.{Role}
use Rattle.ill_record.specs.declared.side.Side.{Side}
use Rattle.ill_record.specs.Side.{is_consistent, IsConsistent}
use Rattle.ill_record.specs.Records.{start, side_at, side_encoded, consistent_side, record_at, has_prefix, has_prefix_after}
use Rattle.ill_record.specs.Records.{begins_as_record, Decodes, record_encoding}
use Rattle.ill_record.specs.Ranges.{IsSide}
use Rattle.ill_der.proofs.Chains.{ok_is}

-- Let a version and a role be read first. If `result` is right for the rest `left`, it is right for the whole record.
pub decodes_after : (bytes : List ℕ) (first left : Cursor) (found role : Role) (result : Result Side RecordFault)
    → first ≡ cursor_at 0 bytes → found ≡ role
    → start.read first ≡ Ok (((tt, (tt, (tt, tt))), found), left)
    → Decodes (consistent_side (side_at role left)) (has_prefix role left) result
    → Decodes (record_at bytes) (begins_as_record bytes) result
unfolding record_at side_encoded begins_as_record
decodes_after bytes first left found role result begun is read_first decodes =
    let read : start.read (cursor_at 0 bytes) ≡ Ok (((tt, (tt, (tt, tt))), role), left) =
    ap start.read (sym begun) ∙ read_first ∙ ap (λ (r : Role). Ok (((tt, (tt, (tt, tt))), r), left)) is in
    let same : record_at bytes ≡ consistent_side (side_at role left) =
    ap (λ r. consistent_side (r >>= λ start. side_at start.0.1 start.1)) read in
    let begins : begins_as_record bytes ≡ has_prefix role left = ap has_prefix_after read in
    subst (λ r. Decodes r (begins_as_record bytes) result) (sym same)
    (subst (λ b. Decodes (consistent_side (side_at role left)) b result) (sym begins) decodes)

-- Let each side read from `bytes` be consistent and in range, with `bytes` as its encoding. Then decoding gives such a
-- side or a fault.
pub decodes_encoded : (bytes : List ℕ) (begins : Bool) (result : Result Side RecordFault)
    → ((side : Side) → record_at bytes ≡ Ok side → (bytes ≡ record_encoding side) × IsSide side)
    → Decodes (record_at bytes) begins result → IfOk result (λ side. IsSide side × (bytes ≡ record_encoding side))
decodes_encoded bytes begins (Ok side) encoded decodes =
    let is = encoded side (sym decodes) in
    (is.1, is.0)
decodes_encoded bytes begins (Err fault) encoded decodes = tt

-- ---- the check of a side

-- If the check gives a side, its test is true, and the side is the side that was read.
judged_by : (keeps : Bool) (read side : Side) → cond keeps (Ok read) (Err faults.Inconsistent) ≡ Ok side
    → (keeps ≡ true) × (read ≡ side)
judged_by true read side is = (refl, ok_is read side is)
judged_by false read side is = absurd cc

-- If `consistent_side` gives a side, this side was read and is consistent.
pub judged_ok : (read : Result Side LayoutFault) (side : Side) → consistent_side read ≡ Ok side → (read ≡ Ok side)
    × IsConsistent side
judged_ok (Ok found) side is =
    let both = judged_by (is_consistent found) found side is in
    (ap Ok both.1, subst IsConsistent both.1 both.0)
judged_ok (Err fault) side is = absurd cc

-- If the side that was read is consistent, `consistent_side` gives it.
pub judged_is : (read : Result Side LayoutFault) (side : Side) → read ≡ Ok side → IsConsistent side
    → consistent_side read ≡ Ok side
judged_is read side is consistent =
    ap consistent_side is ∙ ap (λ keeps. cond keeps (Ok side) (Err faults.Inconsistent)) consistent

-- If the test is false, the check gives `Inconsistent`.
is_inconsistent : (keeps : Bool) (side : Side) → (keeps ≡ true → ⊥)
    → cond keeps (Ok side) (Err faults.Inconsistent) ≡ Err faults.Inconsistent
is_inconsistent true side breaks = absurd (breaks refl)
is_inconsistent false side breaks = refl

-- If the side that was read is not consistent, `consistent_side` gives `Inconsistent`.
pub judged_not : (read : Result Side LayoutFault) (side : Side) → read ≡ Ok side → (IsConsistent side → ⊥)
    → consistent_side read ≡ Err faults.Inconsistent
judged_not read side is breaks = ap consistent_side is ∙ is_inconsistent (is_consistent side) side breaks

-- The check of a side never gives `Digest`.
consistent_no_digest : (keeps : Bool) (side : Side) → Err faults.Digest ≡ cond keeps (Ok side) (Err faults.Inconsistent) → ⊥
consistent_no_digest true side is = cc
consistent_no_digest false side is = cc

-- `consistent_side` never gives `Digest`.
judged_no_digest : (read : Result Side LayoutFault) → Err faults.Digest ≡ consistent_side read → ⊥
judged_no_digest (Ok side) is = consistent_no_digest (is_consistent side) side is
judged_no_digest (Err Short) is = cc
judged_no_digest (Err (Bad at)) is = cc

-- A record of one side never has the fault `Digest`.
pub no_digest : (bytes : List ℕ) → Err faults.Digest ≡ record_at bytes → ⊥
unfolding record_at
no_digest bytes is = judged_no_digest (side_encoded bytes) is
