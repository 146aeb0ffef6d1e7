-- Sides that are read one after another, and then held together by one desk.
use Rattle.std.proofs.Common.{◌≡◌, ℕ, ◌<◌, ◌≤◌, nat_lt, length, Bool, true, false, cond, not, ◌&&◌, if◌then◌else◌, List, [], ◌∷◌}
use Rattle.std.proofs.Common.{◌++◌, Option, Some, None, Result, Ok, Err, is_some, is_none, is_ok, refl, ap, sym, subst, ◌∙◌}
use Rattle.std.proofs.Common.{true≢false, rules, arith, length-append}
use Rattle.std.specs.List.{list_all}
use Rattle.std.proofs.lemmas.Bool.{and_parts, not-true}
use Rattle.std.proofs.lemmas.List.Folds.{list_all-append}
use Rattle.ill_values.specs.TxnId.{Qualifiers}
use Rattle.ill_core.specs.Issued.{is_same_txn}
use Rattle.ill_der.specs.Format.{◌>>=◌, Cursor, cursor_at}
use Rattle.ill_record.specs.declared.role.Role.{Role}
use Rattle.ill_record.specs.declared.role.Role.TheVariants as roles
use Rattle.ill_record.specs.declared.side.Side.{Side}
use Rattle.ill_record.specs.declared.fault.LayoutFault.{LayoutFault}
use Rattle.ill_record.specs.declared.fault.RecordFault.{RecordFault}
use Rattle.ill_record.specs.declared.fault.RecordFault.TheVariants as faults
use Rattle.ill_record.specs.declared.fault.SidesFault.TheVariants as refusals
use Rattle.ill_record.specs.Side.{role_of, txn_of, is_idle}
use Rattle.ill_record.specs.Sides.{SidesOf, side_with, is_same_role, is_begun, are_apart, may_be_held, most_sides, put_refusal}
use Rattle.ill_record.specs.Layout.{counted_by, read_all, ended}
use Rattle.ill_record.specs.Records.{role, heading, start, has_prefix, has_prefix_after, requester_fields, responder_fields}
use Rattle.ill_record.specs.Records.{requester_states, responder_states, read_fields, side_at, side_encoded, record_at}
use Rattle.ill_record.specs.Records.{begins_as_record, Decodes}
use Rattle.ill_record.specs.RecordsV2.{part, side_count, role_and_sides, unsealed, together, consistent_sides, sides_at}
use Rattle.ill_record.specs.RecordsV2.{read_alone}
use Rattle.ill_record.specs.RecordsV2.{is_version_1, counts_any, has_sides, records_at, begins_as_records, PutsRead}
use Rattle.ill_der.proofs.Chains.{bind_ok}
use Rattle.ill_record.proofs.Records.{judged_ok}
use Rattle.ill_record.proofs.Finding.{apart_back}

-- ---- sides that one desk may hold together

-- If a search finds nothing, the first side `x` fails the test (`is`). Nothing is found among the others (`found`).
first_apart : (is : Bool) (found : Option Side) (x : Side) → is_none (cond is (Some x) found) ≡ true
    → (is ≡ false) × (is_none found ≡ true)
first_apart true found x none = absurd (true≢false (sym none))
first_apart false found x none = (refl, none)

-- If no side in a list is of `txn`, the element `side` is not of `txn`.
apart_of : (txn : Qualifiers) (prefix : List Side) (side : Side) (rest : List Side)
    → is_none (side_with txn (prefix ++ side ∷ rest)) ≡ true → is_same_txn txn (txn_of side) ≡ false
unfolding side_with
apart_of txn [] side rest none = (first_apart (is_same_txn txn (txn_of side)) (side_with txn rest) side none).0
apart_of txn (x ∷ prefix) side rest none =
    apart_of txn prefix side rest (first_apart (is_same_txn txn (txn_of x)) (side_with txn (prefix ++ side ∷ rest)) x none).1

-- If the transactions of sides differ, no side before `side` is of its transaction.
not_before : (prefix : List Side) (side : Side) (rest : List Side) → are_apart (prefix ++ side ∷ rest) ≡ true
    → is_some (side_with (txn_of side) prefix) ≡ false
unfolding side_with are_apart
not_before [] side rest apart = refl
not_before (x ∷ prefix) side rest apart =
    let parts = and_parts (is_none (side_with (txn_of x) (prefix ++ side ∷ rest))) (are_apart (prefix ++ side ∷ rest)) apart in
    let differs : is_same_txn (txn_of side) (txn_of x) ≡ false =
    apart_back (txn_of x) (txn_of side) (apart_of (txn_of x) prefix side rest parts.0) in
    ap (λ same. is_some (cond same (Some x) (side_with (txn_of side) prefix))) differs ∙ not_before prefix side rest parts.1

-- If `a` is less than `b`, `nat_lt a b` is true.
less : (a b : ℕ) → a < b → nat_lt a b ≡ true
less a b is = search rules

-- If there is room, a side of the role, not idle and of a new transaction is not refused. `same` is true if the roles
-- are equal, and `twice` if the transaction is held.
none_refused : (same idle twice room : Bool) → same ≡ true → idle ≡ false → twice ≡ false → room ≡ true
    → (if not same then Some refusals.OtherRole else
    (if idle then Some refusals.Idle else
    (if twice then Some refusals.Twice else (if room then None else Some refusals.Full)))) ≡ None
none_refused same idle twice room is_same no_idle once free = rw (is_same, no_idle, once, free) refl

-- If at most 1,000 sides may be held together, each may be put after the sides before it. `parts` says that each side
-- is of the role and not idle, and that their transactions differ. `stands` and `one` say this of `side`.
stands_last : (role : Role) (prefix : List Side) (side : Side) (rest : List Side) → length (prefix ++ side ∷ rest) ≤ most_sides
    → may_be_held (record { role = role; sides = prefix ++ side ∷ rest }) ≡ true
    → put_refusal (record { role = role; sides = prefix }) side ≡ None
stands_last role prefix side rest few held =
    let parts = and_parts (list_all (is_begun role) (prefix ++ side ∷ rest)) (are_apart (prefix ++ side ∷ rest)) held in
    let all : list_all (is_begun role) prefix && list_all (is_begun role) (side ∷ rest) ≡ true =
    sym (list_all-append (is_begun role) prefix (side ∷ rest)) ∙ parts.0 in
    let after = and_parts (list_all (is_begun role) prefix) (list_all (is_begun role) (side ∷ rest)) all in
    let stands = and_parts (is_begun role side) (list_all (is_begun role) rest) after.1 in
    let one = and_parts (is_same_role role (role_of side)) (not (is_idle side)) stands.0 in
    let room : length prefix < most_sides = omega (arith, few, length-append prefix (side ∷ rest)) in
    none_refused (is_same_role role (role_of side)) (is_idle side) (is_some (side_with (txn_of side) prefix))
    (nat_lt (length prefix) most_sides)
    one.0 (not-true (is_idle side) one.1) (not_before prefix side rest parts.1) (less (length prefix) most_sides room)

-- If sides may not be held together, the result of `together` is `Inconsistent`.
inconsistent : (held : Bool) (all : SidesOf) → (held ≡ true → ⊥)
    → Err faults.Inconsistent ≡ cond held (Ok all) (Err faults.Inconsistent)
inconsistent true all breaks = absurd (breaks refl)
inconsistent false all breaks = refl

-- If `side` cannot be put after the sides `held`, the fault is right for decoding `all` sides together.
pub put_fails : (of_role : Role) (all : List Side) (held : SidesOf) (side : Side) (rest : List Side) (fault : RecordFault)
    (new : SidesOf)
    → held.role ≡ of_role → held.sides ++ side ∷ rest ≡ all → length all ≤ most_sides
    → PutsRead held side (Err fault) new
    → Decodes (together (record { role = of_role; sides = all })) (nat_lt 0 (length all)) (Err fault)
put_fails of_role all held side rest faults.Inconsistent new same whole few puts =
    let breaks : may_be_held (record { role = of_role; sides = all }) ≡ true → ⊥ =
    λ stand. puts (stands_last held.role held.sides side rest (omega (arith, few, ap length whole))
    (ap (λ sides. may_be_held (record { role = held.role; sides = sides })) whole
    ∙ ap (λ r. may_be_held (record { role = r; sides = all })) same ∙ stand)) in
    inconsistent (may_be_held (record { role = of_role; sides = all })) (record { role = of_role; sides = all }) breaks
put_fails of_role all held side rest faults.OutOfMemory new same whole few puts =
    less 0 (length all) (omega (arith, ap length whole, length-append held.sides (side ∷ rest)))
put_fails of_role all held side rest fault new same whole few puts = absurd puts

-- ---- a record of one side

-- If `r >>= f` gives a value, `r` gives one, too.
ok_begins : {V W : Type 0} (r : Result V LayoutFault) (f : V → Result W LayoutFault) (w : W) → (r >>= f) ≡ Ok w → is_ok r ≡ true
ok_begins (Ok v) f w e = refl
ok_begins (Err fault) f w e = absurd cc

-- If a side of role `r` is read, the bytes begin with a state of `r` and two qualifiers. `found` is the reading of the
-- side, and `fields` that of its fields.
fields_begin : (r : Role) (left : Cursor) (side : Side) → side_at r left ≡ Ok side → has_prefix r left ≡ true
fields_begin roles.Requester left side e =
    let found = bind_ok (read_fields roles.Requester left) _ side e in
    let fields = bind_ok (requester_fields.read left) _ found.value found.given in
    ok_begins ((heading requester_states).read left) _ fields.value fields.given
fields_begin roles.Responder left side e =
    let found = bind_ok (read_fields roles.Responder left) _ side e in
    let fields = bind_ok (responder_fields.read left) _ found.value found.given in
    ok_begins ((heading responder_states).read left) _ fields.value fields.given

-- If bytes are read as a side, they begin as a record. `read` says that the side was read, and `begun` is the reading
-- of the version and the role.
read_begins : (bytes : List ℕ) (side : Side) → record_at bytes ≡ Ok side → begins_as_record bytes ≡ true
unfolding record_at side_encoded begins_as_record
read_begins bytes side e =
    let read = judged_ok (side_encoded bytes) side e in
    let begun = bind_ok (start.read (cursor_at 0 bytes)) (λ start. side_at start.0.1 start.1) side read.0 in
    let version_and_role = begun.value.0 in
    ap has_prefix_after begun.given ∙ fields_begin version_and_role.1 begun.value.1 side begun.follows

-- Each role is equal to itself.
own_role : (r : Role) → is_same_role r r ≡ true
own_role roles.Requester = refl
own_role roles.Responder = refl

-- A side that is not idle may be put alone.
none_first : (side : Side) → is_idle side ≡ false → put_refusal (record { role = role_of side; sides = [] }) side ≡ None
unfolding side_with
none_first side begun = none_refused (is_same_role (role_of side) (role_of side)) (is_idle side) false true
    (own_role (role_of side)) begun refl refl

-- If the only side that was read cannot be put, memory ran out, and the fault is right for the record.
pub alone_fails : (bytes : List ℕ) (side : Side) (fault : RecordFault) (new : SidesOf) → Ok side ≡ record_at bytes
    → is_idle side ≡ false → PutsRead (record { role = role_of side; sides = [] }) side (Err fault) new
    → Decodes (read_alone (record_at bytes)) (begins_as_record bytes) (Err fault)
alone_fails bytes side faults.Inconsistent new read begun puts = absurd (puts (none_first side begun))
alone_fails bytes side faults.OutOfMemory new read begun puts = read_begins bytes side (sym read)
alone_fails bytes side fault new read begun puts = absurd puts

-- ---- a record of many sides

-- If the number of sides is `n`, decoding takes memory exactly if `n` is above 0.
count_tells : (octets : List ℕ) (first after_role after_count : Cursor) (of_role : Role) (n : ℕ)
    → first ≡ cursor_at 4 octets → role.read first ≡ Ok (of_role, after_role)
    → side_count.read after_role ≡ Ok (n, after_count) → has_sides octets ≡ nat_lt 0 n
count_tells octets first after_role after_count of_role n begun read_role read_count =
    let role_read : role.read (cursor_at 4 octets) ≡ Ok (of_role, after_role) = ap role.read (sym begun) ∙ read_role in
    ap (λ r. counts_any (r >>= λ a. side_count.read a.1 >>= λ b. Ok ((a.0, b.0), b.1))) role_read
    ∙ ap (λ r. counts_any (r >>= λ b. Ok ((of_role, b.0), b.1))) read_count

-- If `sides` are read to the end, a `result` that is right for holding them together is right for `octets`.
pub all_held : (octets : List ℕ) (first after_role after_count last : Cursor) (of_role : Role) (n : ℕ) (sides : List Side)
    (x : Unit {0}) (result : Result SidesOf RecordFault)
    → first ≡ cursor_at 4 octets
    → role.read first ≡ Ok (of_role, after_role) → side_count.read after_role ≡ Ok (n, after_count)
    → read_all part n after_count ≡ Ok (sides, last) → length sides ≡ n → ended last ≡ Ok x
    → Decodes (together (record { role = of_role; sides = sides })) (nat_lt 0 (length sides)) result
    → Decodes (sides_at octets) (has_sides octets) result
all_held octets first after_role after_count last of_role n sides x result begun read_role read_count read_sides so_many at_end
    decodes =
    let role_read : role.read (cursor_at 4 octets) ≡ Ok (of_role, after_role) = ap role.read (sym begun) ∙ read_role in
    let counted : (counted_by side_count part).read after_role ≡ Ok (sides, last) =
    ap (λ r. r >>= λ n. read_all part n.0 n.1) read_count ∙ read_sides in
    let whole : role_and_sides.read (cursor_at 4 octets) ≡ Ok ((of_role, sides), last) =
    ap (λ r. r >>= λ a. (counted_by side_count part).read a.1 >>= λ b. Ok ((a.0, b.0), b.1)) role_read
    ∙ ap (λ r. r >>= λ b. Ok ((of_role, b.0), b.1)) counted in
    let same : sides_at octets ≡ together (record { role = of_role; sides = sides }) =
    ap (λ r. consistent_sides (r >>= λ found. ended found.1 >>= λ _. Ok found.0)) whole
    ∙ ap (λ r. consistent_sides (r >>= λ _. Ok (of_role, sides))) at_end in
    let begins : has_sides octets ≡ nat_lt 0 (length sides) =
    count_tells octets first after_role after_count of_role n begun read_role read_count ∙ ap (nat_lt 0) (sym so_many) in
    subst (λ r. Decodes r (has_sides octets) result) (sym same)
    (subst (λ b. Decodes (together (record { role = of_role; sides = sides })) b result) (sym begins) decodes)

-- If the bytes are not of version 1, a fault of their version or digest is a fault of the record.
pub unsealed_not : (bytes : List ℕ) (fault : RecordFault) → is_version_1 bytes ≡ false
    → Decodes (unsealed bytes) false (Err fault) → Decodes (records_at bytes) (begins_as_records bytes) (Err fault)
unfolding records_at
unsealed_not bytes faults.OutOfMemory another decodes = absurd (true≢false (sym decodes))
unsealed_not bytes faults.Short another decodes = rw (another, sym decodes) refl
unsealed_not bytes (faults.Bad at) another decodes = rw (another, sym decodes) refl
unsealed_not bytes faults.Inconsistent another decodes = rw (another, sym decodes) refl
unsealed_not bytes faults.Digest another decodes = rw (another, sym decodes) refl
