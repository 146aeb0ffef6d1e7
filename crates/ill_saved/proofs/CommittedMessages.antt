-- Proves that each message that a desk may send is that message of its committed record.
use Rattle.std.proofs.Common.{arith, ◌≡◌, ℕ, ◌≤◌, zero, suc, List, [], ◌∷◌, ◌++◌, length, Option, Some, None, Result, Ok, Err}
use Rattle.std.proofs.Common.{refl, sym, ap, subst, ◌∙◌}
use Rattle.std.specs.Prelude.{option_map}
use Rattle.ill_values.specs.declared.apdu.Apdu.{Apdu}
use Rattle.ill_values.specs.TxnId.{Qualifiers}
use Rattle.ill_core.specs.Issued.{message}
use Rattle.ill_record.specs.declared.fault.RecordFault.{RecordFault}
use Rattle.ill_record.specs.declared.role.Role.{Role}
use Rattle.ill_record.specs.declared.side.Side.{Side}
use Rattle.ill_record.specs.Side.{issued_of, txn_of, idle_side, IsAfterTransitions, IsPrefix}
use Rattle.ill_record.specs.Sides.{side_with}
use Rattle.ill_saved.specs.Holdings.{DeskEntry, IsBackedBy, IsBackedByRead, MaySend, ReadHas}
use Rattle.ill_saved.specs.OneSide.{OneBacks, one_side}
use Rattle.ill_saved.specs.ManySides.{DeskContents, ManyBack, found_or, found_by, held_for, idle_held, many_sides, side_for}
use Rattle.ill_saved.specs.ManySides.{sides_held, txn_held}
use Rattle.ill_record.proofs.Finding.{found_mapped}

-- If transitions lead from one side to another, the issued messages of the first are a prefix of those of the second.
abbrev FollowsIssues : Type 0
FollowsIssues = (old new : Side) → IsAfterTransitions old new → IsPrefix (issued_of old) (issued_of new)

-- If `first` has at least `n` messages, message `n` of `first ++ more` is message `n` of `first`.
in_prefix : (first more : List Apdu) (n : ℕ) → n ≤ length first → message (first ++ more) n ≡ message first n
in_prefix first more zero few = refl
in_prefix [] more (suc n) few = absurd (omega (arith, few))
in_prefix (a ∷ first) more (suc zero) few = refl
in_prefix (a ∷ first) more (suc (suc n)) few = in_prefix first more (suc n) (omega (arith, few))

-- Each released message of a side is that message of the side that backs it.
backed_has : FollowsIssues → (committed live : Side) (released number : ℕ) (a : Apdu) → IsBackedBy committed live released
    → message (issued_of live) number ≡ Some a → number ≤ released → message (issued_of committed) number ≡ Some a
backed_has follows committed live released number a backed is may =
    let more = follows committed live backed.follows in
    sym (in_prefix (issued_of committed) more.0 number (omega (arith, may, backed.has-released)))
    ∙ ap (λ apdus. message apdus number) (sym more.1) ∙ is

-- The side of the found entry, or of the idle entry, is the found side, or the idle side.
found_side : (role : Role) (txn : Qualifiers) (found : Option DeskEntry)
    → (found_or (idle_held role txn) found).side ≡ found_or (idle_side role txn) (option_map (λ held. held.side) found)
found_side role txn (Some held) = refl
found_side role txn None = refl

-- The side of `txn` that the contents hold with its count is the side of `txn` among `sides_held`.
side_held : (live : DeskContents) (txn : Qualifiers) → (held_for txn live).side ≡ side_for txn (sides_held live)
unfolding side_with
side_held live txn =
    found_side live.role txn (found_by txn_held txn live.held)
    ∙ ap (found_or (idle_side live.role txn))
    (sym (found_mapped txn_held txn_of (λ held. held.side) (λ held. refl) txn live.held))

-- If a read record backs a desk of one side, it has each message that the desk may send.
pub one_has : FollowsIssues → (read : Result DeskEntry RecordFault) (live : DeskEntry) (number : ℕ) (a : Apdu)
    → IsBackedByRead OneBacks read live → MaySend one_side live tt number a → ReadHas one_side read tt number a
one_has follows (Ok committed) live number a backed may =
    backed_has follows committed.side live.side live.released number a backed may.0 may.1
one_has follows (Err fault) live number a backed may = absurd backed

-- If a read record backs a desk of many sides, it has each message that the desk may send.
pub many_have : FollowsIssues → (read : Result DeskContents RecordFault) (live : DeskContents) (txn : Qualifiers)
    (number : ℕ) (a : Apdu) → IsBackedByRead ManyBack read live → MaySend many_sides live txn number a
    → ReadHas many_sides read txn number a
many_have follows (Ok committed) live txn number a backed may =
    subst (λ (side : Side). message (issued_of side) number ≡ Some a) (sym (side_held committed txn))
    (backed_has follows (side_for txn (sides_held committed)) (held_for txn live).side (held_for txn live).released number a
    (backed.each txn) may.0 may.1)
many_have follows (Err fault) live txn number a backed may = absurd backed
