-- The contents of a desk of many transactions: its sides, their released counts, and the sides that back them.
use Rattle.std.proofs.Common.{rules, arith, ◌≡◌, ◌⊎◌, inl, inr, ℕ, zero, suc, ◌+◌, ◌<◌, ◌≤◌, nat_lt, length, map, Bool, true}
use Rattle.std.proofs.Common.{false, not, cond, List, [], ◌∷◌, ◌++◌, Option, Some, None, is_some, Result, Ok, Err, is_ok, refl}
use Rattle.std.proofs.Common.{ap, sym, subst, ◌∙◌, true≢false, slice_index_or, drop, append_assoc}
use Rattle.std.specs.Prelude.{option_map, IfSome, slice_get, position, find}
use Rattle.std.specs.List.{position_or_len}
use Rattle.std.proofs.Math.ListN.{get_or}
use Rattle.std.proofs.lemmas.List.{length-map, drop_more}
use Rattle.std.proofs.lemmas.List.Folds.{find_at}
use Rattle.ill_values.specs.TxnId.{Qualifiers}
use Rattle.ill_values.specs.declared.apdu.Apdu.{Apdu}
use Rattle.ill_core.specs.declared.refusal.Refusal.{Refusal}
use Rattle.ill_core.specs.declared.refusal.Refusal.TheVariants as refusals
use Rattle.ill_core.specs.declared.taking.Taking.{Taking}
use Rattle.ill_core.specs.declared.taking.Taking.TheVariants.{Taken}
use Rattle.ill_values.specs.Bodies.{is_ill_request, is_requesters}
use Rattle.ill_core.specs.declared.state.State.TheVariants.{Idle}
use Rattle.ill_core.specs.Answers.{unless_refused}
use Rattle.ill_core.specs.Responder.{ResponderRecord, responder_of}
use Rattle.ill_core.specs.ResponderDeliveries.{take_message, takes as responder_takes}
use Rattle.ill_core.specs.State.{is_among}
use Rattle.ill_record.specs.declared.fault.SidesFault.TheVariants as sides_faults
use Rattle.ill_values.specs.Body.{Body}
use Rattle.ill_values.specs.declared.apdu.BodyWith.TheVariants as types
use Rattle.ill_core.specs.Issued.{is_same_txn}
use Rattle.ill_record.specs.declared.role.Role.{Role}
use Rattle.ill_record.specs.declared.role.Role.TheVariants as roles
use Rattle.ill_record.specs.declared.side.Action.TheVariants as actions
use Rattle.ill_core.specs.declared.requester.Wish.TheVariants as wishes
use Rattle.ill_record.specs.declared.side.Side.{Side}
use Rattle.ill_record.specs.declared.side.Action.{Action}
use Rattle.ill_saved.specs.declared.fault.DeskFault.{DeskFault}
use Rattle.ill_saved.specs.declared.fault.DeskFault.TheVariants as faults
use Rattle.ill_record.specs.declared.fault.RecordFault.{RecordFault}
use Rattle.ill_record.specs.Side.{issued_of, txn_of, role_of, idle_side, is_idle, role_for, begins, IsConsistent}
use Rattle.ill_record.specs.Side.{IsSideTransition}
use Rattle.ill_record.specs.Side.{acts}
use Rattle.ill_record.specs.Side.{takes, takes_memory, Acts, Takes, IsAfterTransitions, same as follows_itself}
use Rattle.ill_record.specs.Side.{further as one_further}
use Rattle.ill_record.specs.Side.{IsPrefix}
use Rattle.ill_saved.specs.Faults.{of_core}
use Rattle.ill_record.specs.Ranges.{Each, IsSide}
use Rattle.ill_record.specs.Sides.{SidesOf, is_same_role, most_sides, found_by, put_by, side_with, put_refusal}
use Rattle.ill_record.specs.Sides.{put_last as put_side, ChangesOnlySideOf}
use Rattle.ill_der.specs.Format.{◌>>=◌}
use Rattle.ill_der.specs.Laws.{IsBytes}
use Rattle.ill_record.specs.Records.{record_at, record_encoding}
use Rattle.ill_record.specs.RecordsV2.{AreSides, alone, read_alone, is_version_1, unsealed, sides_at, sides_encoding, records_at}
use Rattle.ill_saved.specs.Holdings.{DeskEntry, DeskActs, DeskTakesApdu, IsBacked, IsBackedBy, IsBackedByRead, IsRecordOf}
use Rattle.ill_saved.specs.Holdings.{StaysBacked, committed_live, map_ok, whole}
use Rattle.ill_saved.specs.ManySides.{DeskContents, held_of, counts, txn_held, idle_held, found_or, held_for, with_held}
use Rattle.ill_saved.specs.ManySides.{sides_held, whole_of, no_sides, is_own, held_or_begun, side_for_call, acted as acted_by}
use Rattle.ill_saved.specs.ManySides.{acts_reached, desk_acts, contents_after_message as took_by, takes_reached, desk_takes}
use Rattle.ill_saved.specs.ManySides.{many_sides, FirstActs}
use Rattle.ill_saved.specs.ManySides.{FirstTakes, side_for, AreBackedBy, AreBackable, ManyBack}
use Rattle.ill_record.proofs.Transitions.{RowsGrow, RefusalsStay, no_less, idle_consistent}
use Rattle.ill_saved.proofs.Desks.{core_answer, itself_backs}
use Rattle.ill_record.proofs.DeskEntry.{new_to, idle_txn, idle_role, acts_row, takes_row, found_plainly}
use Rattle.ill_record.proofs.Finding.{same_is, same_self, found_is, found_put, put_last, put_again, found_mapped, put_length}
use Rattle.ill_record.proofs.Finding.{some_is}

-- ---- sides and their released counts

-- Returns the side of `held`.
abbrev side_of : DeskEntry → Side
side_of held = held.side

-- If there is a count for each side, the held sides are `sides`.
pub sides_there : (sides : List Side) (counted : List ℕ) → length counted ≡ length sides
    → map (λ (held : DeskEntry). held.side) (held_of sides counted) ≡ sides
unfolding held_of
sides_there [] counted as_many = refl
sides_there (side ∷ sides) [] as_many = absurd (omega (arith, as_many))
sides_there (side ∷ sides) (n ∷ counted) as_many = ap (λ vs. side ∷ vs) (sides_there sides counted (omega (arith, as_many)))

-- If there is a count for each side, a desk with these sides and counts holds the sides `all`.
pub holds_sides : (all : SidesOf) (counted : List ℕ) → length counted ≡ length all.sides
    → sides_held (record { role = all.role; held = held_of all.sides counted }) ≡ all
holds_sides all counted as_many = ap (λ vs. record { role = all.role; sides = vs }) (sides_there all.sides counted as_many)

-- If `live` is `all` with a count for each side, `live` holds the sides `all`.
pub as_seen : (all : SidesOf) (counted : List ℕ) (live : DeskContents) → length counted ≡ length all.sides
    → record { role = all.role; held = held_of all.sides counted } ≡ live → all ≡ sides_held live
as_seen all counted live as_many view = sym (holds_sides all counted as_many) ∙ ap sides_held view

-- If there is a count for each side, the number of held sides is the number of `sides`.
pub as_many_held : (sides : List Side) (counted : List ℕ) → length counted ≡ length sides
    → length (held_of sides counted) ≡ length sides
as_many_held sides counted as_many =
    sym (length-map (held_of sides counted) side_of) ∙ ap length (sides_there sides counted as_many)

-- If there is a count for each side, a search of `sides` and a search of the held sides find one side.
pub found_side : (txn : Qualifiers) (sides : List Side) (counted : List ℕ) → length counted ≡ length sides
    → side_with txn sides ≡ option_map (λ (held : DeskEntry). held.side) (found_by txn_held txn (held_of sides counted))
unfolding side_with
found_side txn sides counted as_many =
    ap (λ vs. found_by txn_of txn vs) (sym (sides_there sides counted as_many))
    ∙ found_mapped txn_held txn_of (λ (held : DeskEntry). held.side) (λ held. refl) txn (held_of sides counted)

-- Appending a side and its count appends the entry of both to the held sides.
pub held_last : (sides : List Side) (counted : List ℕ) (side : Side) (n : ℕ) → length counted ≡ length sides
    → held_of (sides ++ side ∷ []) (counted ++ n ∷ []) ≡ held_of sides counted ++ record { side = side; released = n } ∷ []
unfolding held_of
held_last [] [] side n as_many = refl
held_last [] (m ∷ counted) side n as_many = absurd (omega (arith, as_many))
held_last (x ∷ sides) [] side n as_many = absurd (omega (arith, as_many))
held_last (x ∷ sides) (m ∷ counted) side n as_many =
    ap (λ hs. record { side = x; released = m } ∷ hs) (held_last sides counted side n (omega (arith, as_many)))

-- If the count of each side is the number of its issued messages, the sides are held with all messages released.
pub held_whole : (sides : List Side) → held_of sides (counts sides) ≡ map whole sides
unfolding held_of
held_whole [] = refl
held_whole (side ∷ sides) = ap (λ hs. whole side ∷ hs) (held_whole sides)

-- If `held_put` holds for the other sides, it holds with `x` before them.
put_among : (after x : Side) (n : ℕ) (held : DeskEntry) (sides : List Side) (counted : List ℕ) (same : Bool)
    → cond same (Some (record { side = x; released = n })) (found_by txn_held (txn_of after) (held_of sides counted)) ≡ Some held
    → (found_by txn_held (txn_of after) (held_of sides counted) ≡ Some held
    → held_of (put_by txn_of after sides) counted
    ≡ put_by txn_held (record { side = after; released = held.released }) (held_of sides counted))
    → held_of (cond same (after ∷ sides) (x ∷ put_by txn_of after sides)) (n ∷ counted)
    ≡ cond same (record { side = after; released = held.released } ∷ held_of sides counted)
    (record { side = x; released = n }
    ∷ put_by txn_held (record { side = after; released = held.released }) (held_of sides counted))
unfolding held_of
put_among after x n held sides counted true found on =
    ap (λ (h : DeskEntry). record { side = after; released = h.released } ∷ held_of sides counted) (some_is _ _ found)
put_among after x n held sides counted false found on = ap (λ hs. record { side = x; released = n } ∷ hs) (on found)

-- If the entry `held` has the transaction of `after`, putting `after` among the sides puts it in this entry. The count
-- of the entry is unchanged.
pub held_put : (after : Side) (held : DeskEntry) (sides : List Side) (counted : List ℕ) → length counted ≡ length sides
    → found_by txn_held (txn_of after) (held_of sides counted) ≡ Some held
    → held_of (put_by txn_of after sides) counted
    ≡ put_by txn_held (record { side = after; released = held.released }) (held_of sides counted)
unfolding held_of put_by
held_put after held [] counted as_many found = absurd (true≢false (sym (ap is_some found)))
held_put after held (x ∷ sides) [] as_many found = absurd (omega (arith, as_many))
held_put after held (x ∷ sides) (n ∷ counted) as_many found =
    put_among after x n held sides counted (is_same_txn (txn_of after) (txn_of x)) found
    (held_put after held sides counted (omega (arith, as_many)))

-- The held side at index `i` has the count at index `i`.
at_place : (sides : List Side) (counted : List ℕ) (i n : ℕ) → length counted ≡ length sides → i < length sides
    → n ≡ slice_index_or counted i n
    → (side : Side) × (slice_get (held_of sides counted) i ≡ Some (record { side = side; released = n }))
unfolding held_of
at_place [] counted i n as_many within at = absurd (omega (arith, within))
at_place (x ∷ sides) [] i n as_many within at = absurd (omega (arith, as_many))
at_place (x ∷ sides) (m ∷ counted) zero n as_many within at = (x, ap (λ k. Some (record { side = x; released = k })) (sym at))
at_place (x ∷ sides) (m ∷ counted) (suc i) n as_many within at =
    at_place sides counted i n (omega (arith, as_many)) (omega (arith, within)) at

-- A search by transaction stops at equal indices among the sides and among the held sides.
same_place : (test : Qualifiers → Bool) (sides : List Side) (counted : List ℕ) → length counted ≡ length sides
    → position_or_len (λ (held : DeskEntry). test (txn_of held.side)) (held_of sides counted)
    ≡ position_or_len (λ side. test (txn_of side)) sides
unfolding held_of
same_place test [] counted as_many = refl
same_place test (side ∷ sides) [] as_many = absurd (omega (arith, as_many))
same_place test (side ∷ sides) (n ∷ counted) as_many =
    ap (λ m. cond (not (test (txn_of side))) (1 + m) 0) (same_place test sides counted (omega (arith, as_many)))

-- If a search among the held sides gives `side`, it finds an entry whose side is `side`.
some_mapped : (found : Option DeskEntry) (side : Side) → Some side ≡ option_map (λ (held : DeskEntry). held.side) found
    → (held : DeskEntry) × (found ≡ Some held) × (held.side ≡ side)
some_mapped (Some held) side e = (held, refl, sym (some_is side held.side e))
some_mapped None side e = absurd (true≢false (ap is_some e))

-- If a search among the held sides gives no side, it finds no entry.
none_mapped : (found : Option DeskEntry) → None ≡ option_map (λ (held : DeskEntry). held.side) found → found ≡ None
none_mapped None e = refl
none_mapped (Some held) e = absurd (true≢false (sym (ap is_some e)))

-- If a position is given, it is the index at which the search stopped.
is_position : (pos len place : ℕ) → cond (nat_lt pos len) (Some pos) None ≡ Some place → pos ≡ place
is_position pos len place e = search rules

-- If no position is given, the search reached the end.
no_position : (pos len : ℕ) → cond (nat_lt pos len) (Some pos) None ≡ None → nat_lt pos len ≡ false
no_position pos len e = search rules

-- If `none_there` holds for the other items, it holds with `x` before them.
not_here : {X : Type 0} (x : X) (found : Option X) (pos len : ℕ) (passes : Bool)
    → nat_lt (cond (not passes) (1 + pos) 0) (suc len) ≡ false → (nat_lt pos len ≡ false → found ≡ None)
    → cond passes (Some x) found ≡ None
not_here x found pos len true past on = search rules
not_here x found pos len false past on = on (search rules)

-- If a search reaches the end, it finds nothing.
none_there : {X : Type 0} (test : X → Bool) (xs : List X) → nat_lt (position_or_len test xs) (length xs) ≡ false
    → find test xs ≡ None
none_there test [] past = refl
none_there test (x ∷ xs) past = not_here x (find test xs) (position_or_len test xs) (length xs) (test x) past (none_there test xs)

-- The count at the index of the side of `txn` is the number of its released messages. A search stops at this index
-- among the sides and among the entries.
pub count_there : (role : Role) (sides : List Side) (counted : List ℕ) (txn : Qualifiers) (place n : ℕ)
    → length counted ≡ length sides → Some place ≡ position (λ side. is_same_txn txn (txn_of side)) sides
    → place < length sides → n ≡ slice_index_or counted place n
    → n ≡ (held_for txn (record { role = role; held = held_of sides counted })).released
count_there role sides counted txn place n as_many at within counted_at =
    let test : Side → Bool = λ side. is_same_txn txn (txn_of side) in
    let pos : position_or_len test sides ≡ place = is_position (position_or_len test sides) (length sides) place (sym at) in
    let there = at_place sides counted place n as_many within counted_at in
    let found : found_by txn_held txn (held_of sides counted) ≡ Some (record { side = there.0; released = n }) =
    find_at (λ (held : DeskEntry). is_same_txn txn (txn_of held.side)) (held_of sides counted)
    ∙ ap (slice_get (held_of sides counted)) (same_place (is_same_txn txn) sides counted as_many ∙ pos) ∙ there.1 in
    sym (ap (λ f. (found_or (idle_held role txn) f).released) found)

-- If no side is of `txn`, the number of released messages of `txn` is 0. A search passes all sides (`past`), and stops
-- at equal indices among sides and entries (`pos`). So it finds no entry.
pub no_count : (role : Role) (sides : List Side) (counted : List ℕ) (txn : Qualifiers) → length counted ≡ length sides
    → None ≡ position (λ side. is_same_txn txn (txn_of side)) sides
    → 0 ≡ (held_for txn (record { role = role; held = held_of sides counted })).released
no_count role sides counted txn as_many at =
    let test : Side → Bool = λ side. is_same_txn txn (txn_of side) in
    let past = no_position (position_or_len test sides) (length sides) (sym at) in
    let pos = same_place (is_same_txn txn) sides counted as_many in
    let found : found_by txn_held txn (held_of sides counted) ≡ None =
    none_there (λ (held : DeskEntry). is_same_txn txn (txn_of held.side)) (held_of sides counted)
    (ap (λ n. nat_lt n (length (held_of sides counted))) pos
    ∙ ap (nat_lt (position_or_len test sides)) (as_many_held sides counted as_many) ∙ past) in
    sym (ap (λ f. (found_or (idle_held role txn) f).released) found)

-- If a search among the held sides gives `side`, the entry that it finds has `side` and its released count.
found_so : (idle : DeskEntry) (side : Side) (found : Option DeskEntry) → Some side ≡ option_map side_of found
    → found ≡ Some (record { side = side; released = (found_or idle found).released })
found_so idle side (Some held) e = ap (λ s. Some (record { side = s; released = held.released })) (sym (some_is side held.side e))
found_so idle side None e = absurd (true≢false (ap is_some e))

-- If `side` is the side of `txn`, the held entry of `txn` has `side` and its released count.
pub held_there : (live : DeskContents) (txn : Qualifiers) (side : Side) → side_with txn (sides_held live).sides ≡ Some side
    → found_by txn_held txn live.held ≡ Some (record { side = side; released = (held_for txn live).released })
unfolding side_with
held_there live txn side there =
    found_so (idle_held live.role txn) side (found_by txn_held txn live.held)
    (sym there ∙ found_mapped txn_held txn_of side_of (λ held. refl) txn live.held)

-- If no side is of `txn`, no side of `txn` is held.
pub none_held_there : (live : DeskContents) (txn : Qualifiers) → side_with txn (sides_held live).sides ≡ None
    → found_by txn_held txn live.held ≡ None
unfolding side_with
none_held_there live txn none = none_mapped _ (sym none ∙ found_mapped txn_held txn_of side_of (λ held. refl) txn live.held)

-- ---- committed sides that back the contents of a desk

-- The idle side of `txn` is of transaction `txn`.
pub idle_of_txn : (role : Role) (txn : Qualifiers) → txn_of (idle_side role txn) ≡ txn
idle_of_txn role txn = search rules

-- If `committed` backs a side, it backs the side after a transition.
backed_on : (committed old new : Side) (released : ℕ) → IsSideTransition old new → IsBackedBy committed old released
    → IsBackedBy committed new released
backed_on committed old new released row backed =
    record {
      consistent = backed.consistent;
      follows = one_further old new backed.follows row;
      has-released =
          backed.has-released;
    }

-- Let `committed` back the entry that is found, or `idle`, and back `new` if `new` has the transaction (`same`). Then
-- it backs the entry that is found after `new` is put.
found_backs : (committed : Side) (idle new old : DeskEntry) (found : Option DeskEntry) (same : Bool)
    → (same ≡ true → IsBackedBy committed new.side new.released)
    → IsBackedBy committed (found_or idle found).side (found_or idle found).released
    → IsBackedBy committed (found_or idle (cond same (Some new) found)).side (found_or idle (cond same (Some new) found)).released
found_backs committed idle new old found true backs backed = backs refl
found_backs committed idle new old found false backs backed = backed

-- If committed sides back the desk's contents, they back them after a transition of one side. In the transaction of
-- `new` they back `new` (`here`), and all other entries are unchanged.
pub row_backs_held : (committed : SidesOf) (live : DeskContents) (held : DeskEntry) (new : Side)
    → held_for (txn_of new) live ≡ held → IsSideTransition held.side new → AreBackedBy committed live
    → AreBackedBy committed (with_held live (record { side = new; released = held.released }))
row_backs_held committed live held new is row backed = record {
  role = backed.role;
  each = λ txn.
      let after : DeskEntry = record { side = new; released = held.released } in
      let here : is_same_txn txn (txn_of new) ≡ true → IsBackedBy (side_for txn committed) new held.released =
      λ same.
      let of : txn ≡ txn_of new = same_is txn (txn_of new) same in
      let there : held_for txn live ≡ held = ap (λ t. held_for t live) of ∙ is in
      backed_on (side_for txn committed) held.side new held.released row
      (subst (λ (h : DeskEntry). IsBackedBy (side_for txn committed) h.side h.released) there (backed.each txn)) in
      subst (λ found. IsBackedBy (side_for txn committed) (found_or (idle_held live.role txn) found).side
      (found_or (idle_held live.role txn) found).released) (sym (found_put txn_held txn after live.held))
      (found_backs (side_for txn committed) (idle_held live.role txn) after held (found_by txn_held txn live.held)
      (is_same_txn txn (txn_of new)) here (backed.each txn));
}

-- If the sides that were read back the desk's contents, they back them after a transition of one side.
pub row_backs_all : (committed : Result DeskContents RecordFault) (live : DeskContents) (held : DeskEntry) (new : Side)
    → held_for (txn_of new) live ≡ held → IsSideTransition held.side new → IsBackedByRead ManyBack committed live
    → IsBackedByRead ManyBack committed (with_held live (record { side = new; released = held.released }))
row_backs_all (Ok committed) live held new is row backed = row_backs_held (sides_held committed) live held new is row backed
row_backs_all (Err fault) live held new is row backed = backed

-- If `old` and `new` have one role, the bytes `committed` give equal committed sides for both.
same_committed : (committed : Option (List ℕ)) (old new : DeskContents) → new.role ≡ old.role
    → committed_live many_sides committed old ≡ committed_live many_sides committed new
same_committed None old new role = ap (λ r. Ok (no_sides r)) (sym role)
same_committed (Some bytes) old new role = refl

-- ---- actions and messages of a held side

-- Putting a held side as it is changes nothing.
pub unchanged : (live : DeskContents) (held : DeskEntry) (txn : Qualifiers) (new : Side)
    → found_by txn_held txn live.held ≡ Some held → new ≡ held.side
    → with_held live (record { side = new; released = held.released }) ≡ live
unchanged live held txn new found same =
    let of : txn ≡ txn_held held = found_is txn_held txn live.held held found in
    ap (λ side. with_held live (record { side = side; released = held.released })) same
    ∙ ap (λ hs. record { role = live.role; held = hs })
    (put_again txn_held held live.held (ap (λ t. found_by txn_held t live.held) (sym of) ∙ found))

-- An action of the desk is done exactly if the action of its side is done.
acted_ok : (live : DeskContents) (held : DeskEntry) (r : Result Side Refusal) → is_ok (acted_by live held r) ≡ is_ok r
acted_ok live held (Ok new) = refl
acted_ok live held (Err refusal) = refl

-- If the side takes an APDU, the desk does.
took_taken : (live : DeskContents) (held : DeskEntry) (r : Result Taking Refusal) (new : Side) → r ≡ Ok Taken
    → (took_by live held (r, new)).0 ≡ Ok Taken
took_taken live held (Ok taking) new e = search rules
took_taken live held (Err refusal) new e = search rules

-- Below, `held` is the entry of `txn`, and `after` is its side after a call.
module _ (live : DeskContents) (txn : Qualifiers) (held : DeskEntry) (after : Side)
    (found : found_by txn_held txn live.held ≡ Some held) where
  -- Returns the desk's contents with `after` in place of the old side. The released count is unchanged.
  abbrev next : DeskContents
  next = with_held live (record { side = after; released = held.released })

  -- If the side of `txn` is held and the action is of its role, the desk acts as the side does.
  acts_there : (action : Action) → is_same_role live.role (role_for action) ≡ true
      → desk_acts live txn action ≡ acted_by live held (acts held.side action)
  acts_there action fits =
      ap (λ b. cond b (acts_reached live action (side_for_call live txn (begins action))) (Err (faults.Core refusals.WrongRole)))
      fits
      ∙ ap (λ f. acts_reached live action
      (held_or_begun (begins action) (nat_lt (length live.held) most_sides) (idle_held live.role txn) f)) found

  -- If the held side answers an action as `Acts` says, the desk answers it as `DeskActs` says.
  pub acts_held : (action : Action) (answer : Result (Unit {0}) Refusal)
      → is_same_role live.role (role_for action) ≡ true → Acts held.side action answer after
      → DeskActs many_sides live txn action (core_answer answer) next
  acts_held action (Ok done) fits acts = acts_there action fits ∙ ap (acted_by live held) acts
  acts_held action (Err refusals.OutOfMemory) fits acts =
      (ap is_ok (acts_there action fits) ∙ acted_ok live held _ ∙ acts.0, unchanged live held txn after found acts.1)
  acts_held action (Err refusal) fits acts =
      (acts_there action fits ∙ ap (acted_by live held) acts.0, refl, unchanged live held txn after found acts.1)

-- Below, `held` is the entry of the transaction of `a`, and `after` its side after a call. The other role issues `a`.
module _ (live : DeskContents) (a : Apdu) (held : DeskEntry) (after : Side)
    (found : found_by txn_held a.txn live.held ≡ Some held) (other : is_own live.role a.body ≡ false) where
  -- If the side of the APDU's transaction is held, and the APDU is of the other role, that side takes it.
  takes_there : desk_takes live a ≡ took_by live held (takes held.side a)
  takes_there =
      ap (λ b. cond b (Err (faults.Core refusals.WrongRole), live)
      (takes_reached live a (side_for_call live a.txn (is_ill_request a.body)))) other
      ∙ ap (λ f. takes_reached live a
      (held_or_begun (is_ill_request a.body) (nat_lt (length live.held) most_sides) (idle_held live.role a.txn) f)) found

  -- If the held side answers an APDU as `Takes` says, the desk answers it as `DeskTakesApdu` says.
  pub takes_held : RefusalsStay → (answer : Result Taking Refusal) → Takes held.side a answer after
      → DeskTakesApdu many_sides live a (core_answer answer) (next live a.txn held after found)
  takes_held stay (Err refusals.OutOfMemory) takes_so = (
    (
      ap (λ (p : Result Taking DeskFault × DeskContents). p.0) takes_there
          ∙ took_taken live held (takes held.side a).0 (takes held.side a).1 takes_so.0,
      ap (λ f. takes_memory (found_or (idle_held live.role a.txn) f).side a) found ∙ takes_so.1,
    ),
    unchanged live held a.txn after found takes_so.2,
  )
  takes_held stay (Ok taking) takes_so = takes_there ∙ ap (took_by live held) takes_so
  takes_held stay (Err refusal) takes_so =
      let same : after ≡ held.side = sym (ap (λ (p : Result Taking Refusal × Side). p.1) takes_so)
      ∙ stay held.side a refusal (ap (λ (p : Result Taking Refusal × Side). p.0) takes_so) in (
        takes_there ∙ ap (took_by live held) takes_so
            ∙ ap (λ l. (Err (of_core refusal), l)) (sym (unchanged live held a.txn after found same)),
        refl,
      )

-- ---- the first action or message of a transaction

-- An action that may begin a transaction, in the desk's role, fails only if memory runs out.
pub first_act_fails : (role : Role) (txn : Qualifiers) (action : Action) (refusal : Refusal) (new : Side)
    → begins action ≡ true → is_same_role role (role_for action) ≡ true
    → Acts (idle_side role txn) action (Err refusal) new
    → FirstActs (idle_side role txn) action (Err (of_core refusal))
first_act_fails roles.Requester txn (actions.Wish (wishes.Request expiry item)) refusals.OutOfMemory new may fits acts = acts.0
first_act_fails role txn action refusal new may fits acts = search rules

-- Returns the answer of an idle responder of `txn` to APDU `a`, and its record after it.
-- `same` is the result of the test that `a` is of `txn`.
abbrev takes_of_txn : Bool → Qualifiers → Apdu → Result Taking Refusal × ResponderRecord
takes_of_txn same txn a =
    let y = responder_of txn Idle None None None false None [] in
    unless_refused (cond same (cond (not (is_requesters a.body)) (Some refusals.WrongRole) None) (Some refusals.OtherTransaction))
    y (take_message y a a.body)

-- An idle responder takes an ILL-Request.
first_taken : (role : Role) (txn : Qualifiers) (number : ℕ) (body : Body) → is_ill_request body ≡ true
    → is_own role body ≡ false
    → (takes (idle_side role txn) (record { txn = txn; number = number; body = body })).0 ≡ Ok Taken
first_taken roles.Responder txn number (types.IllRequest expiry item) request other =
    let a : Apdu = record { txn = txn; number = number; body = types.IllRequest expiry item } in
    ap (λ (same : Bool). (takes_of_txn same txn a).0) (same_self txn)
first_taken roles.Requester txn number (types.IllRequest expiry item) request other = absurd (true≢false other)
first_taken role txn number body request other = absurd (true≢false (sym request))

-- If the first APDU is an ILL-Request and the desk is a responder's, taking it fails only if memory runs out.
pub first_take_fails : (role : Role) (a : Apdu) (refusal : Refusal) (new : Side) → is_ill_request a.body ≡ true
    → is_own role a.body ≡ false → Takes (idle_side role a.txn) a (Err refusal) new
    → FirstTakes (idle_side role a.txn) a (Err (of_core refusal))
first_take_fails role a refusals.OutOfMemory new request other wants = tt
first_take_fails role a refusal new request other refused =
    let taken = first_taken role a.txn a.number a.body request other in
    let is = ap (λ (p : Result Taking Refusal × Side). p.0) refused in
    search (rules, taken, is)

-- An ILL-Request is of a type that a requester issues.
is_requests : (body : Body) → is_ill_request body ≡ true → is_own roles.Requester body ≡ true
is_requests (types.IllRequest expiry item) request = refl
is_requests body request = absurd (true≢false (sym request))

-- Each role is equal to itself.
same_role : (role : Role) → is_same_role role role ≡ true
same_role roles.Requester = refl
same_role roles.Responder = refl

-- The idle side of a role has that role.
role_idle : (role : Role) (txn : Qualifiers) → role_of (idle_side role txn) ≡ role
role_idle roles.Requester txn = refl
role_idle roles.Responder txn = refl

-- If there is room, a side is not refused if it is of the role and not idle, and its transaction is not held.
may_put_so : (fits idle there room : Bool) → fits ≡ true → idle ≡ false → there ≡ false → room ≡ true
    → cond (not fits) (Some sides_faults.OtherRole)
    (cond idle (Some sides_faults.Idle) (cond there (Some sides_faults.Twice) (cond room None (Some sides_faults.Full))))
    ≡ None
may_put_so true false false true fits begun none has_room = refl
may_put_so fits idle there room f b n r = search rules

-- If there is room, a side may be put if it is of the role and not idle, and its transaction is not held.
may_put : (held : SidesOf) (side : Side) → is_same_role held.role (role_of side) ≡ true → is_idle side ≡ false
    → side_with (txn_of side) held.sides ≡ None → nat_lt (length held.sides) most_sides ≡ true
    → put_refusal held side ≡ None
may_put held side fits begun none room =
    may_put_so (is_same_role held.role (role_of side)) (is_idle side) (is_some (side_with (txn_of side) held.sides))
    (nat_lt (length held.sides) most_sides) fits begun (ap is_some none) room

-- The side of `txn` among the desk's sides is the side of the held entry of `txn`.
pub side_of_found : (live : DeskContents) (txn : Qualifiers)
    → side_with txn (sides_held live).sides ≡ option_map side_of (found_by txn_held txn live.held)
unfolding side_with
side_of_found live txn = found_mapped txn_held txn_of side_of (λ held. refl) txn live.held

-- If no entry of `txn` is held, no side is of `txn`.
none_with : (live : DeskContents) (txn : Qualifiers) → found_by txn_held txn live.held ≡ None
    → side_with txn (sides_held live).sides ≡ None
unfolding side_with
none_with live txn none = found_mapped txn_held txn_of side_of (λ held. refl) txn live.held ∙ ap (option_map side_of) none

-- Below, `txn` is not held, and there is room. A transition leads from its idle side to `side`, which has begun.
module _ (grows : RowsGrow) (live : DeskContents) (txn : Qualifiers) (none : found_by txn_held txn live.held ≡ None)
    (room : nat_lt (length live.held) most_sides ≡ true) (side : Side) (row : IsSideTransition (idle_side live.role txn) side)
    (begun : is_idle side ≡ false) where
  -- The new side is of `txn`.
  first_txn : txn_of side ≡ txn
  first_txn = sym (idle_txn side) ∙ ap txn_of (grows (idle_side live.role txn) side row).0 ∙ idle_txn (idle_side live.role txn)
      ∙ idle_of_txn live.role txn

  -- The new side is of the desk's role.
  first_role : role_of side ≡ live.role
  first_role = sym (idle_role side) ∙ ap role_of (grows (idle_side live.role txn) side row).0
      ∙ idle_role (idle_side live.role txn) ∙ role_idle live.role txn

  -- The new side may be put.
  first_put : put_refusal (sides_held live) side ≡ None
  first_put =
      may_put (sides_held live) side (ap (is_same_role live.role) first_role ∙ same_role live.role) begun
      (ap (λ t. side_with t (sides_held live).sides) first_txn ∙ none_with live txn none)
      (ap (λ n. nat_lt n most_sides) (length-map live.held side_of) ∙ room)

  -- The new side may be put, and a transition led to it from the idle side of its transaction.
  pub may_begin_with : (put_refusal (sides_held live) side ≡ None) × IsSideTransition (idle_side live.role (txn_of side)) side
  may_begin_with = (first_put, subst (λ t. IsSideTransition (idle_side live.role t) side) (sym first_txn) row)

-- If an idle side takes an ILL-Request, it is not idle after it.
pub first_begins : ((y : ResponderRecord) (a : Apdu) → is_ill_request a.body ≡ true → (responder_takes y a).0 ≡ Ok Taken
    → is_among (Idle ∷ []) (responder_takes y a).1.state ≡ false)
    → (role : Role) (a : Apdu) (side : Side) → is_ill_request a.body ≡ true → is_own role a.body ≡ false
    → takes (idle_side role a.txn) a ≡ (Ok Taken, side) → is_idle side ≡ false
first_begins law roles.Responder a side request other taken =
    subst (λ s. is_idle s ≡ false) (ap (λ (p : Result Taking Refusal × Side). p.1) taken)
    (law (responder_of a.txn Idle None None None false None []) a request (ap (λ (p : Result Taking Refusal × Side). p.0) taken))
first_begins law roles.Requester a side request other taken = absurd (true≢false (sym (is_requests a.body request) ∙ other))

-- ---- a desk of which one side is changed

-- Below, each of `sides` has a count in `counted`.
module _ (role : Role) (sides : List Side) (counted : List ℕ) (as_many : length counted ≡ length sides) where
  -- Returns the contents of a desk with these sides and counts.
  abbrev desk_with : DeskContents
  desk_with = record { role = role; held = held_of sides counted }

  -- If no side is of `txn`, no side of `txn` is held.
  pub none_held : (txn : Qualifiers) → side_with txn sides ≡ None → found_by txn_held txn (held_of sides counted) ≡ None
  none_held txn none = none_mapped _ (sym none ∙ found_side txn sides counted as_many)

  -- If `side` is the side of `txn`, it is held.
  side_held : (txn : Qualifiers) (side : Side) → side_with txn sides ≡ Some side
      → (held : DeskEntry) × (found_by txn_held txn (held_of sides counted) ≡ Some held) × (held.side ≡ side)
  side_held txn side there = some_mapped _ side (sym there ∙ found_side txn sides counted as_many)

  -- Below, a call that `Does` describes leads a side to the next one by a transition, or changes nothing (`rows`).
  module _ (grows : RowsGrow) (txn : Qualifiers) {A : Type 0} (Does : Side → A → Side → Type 0)
      (rows : (old new : Side) (answer : A) → Does old answer new → IsSideTransition old new ⊎ (new ≡ old)) where
    -- A side keeps its transaction in a call that `Does` describes.
    same_txn : (side after : Side) (answer : A) → Does side answer after → txn ≡ txn_of side → txn ≡ txn_of after
    same_txn side after answer does of = by (rows side after answer does)
      where
        -- A transition keeps the transaction (`grows`), and an unchanged side has it.
        by : IsSideTransition side after ⊎ (after ≡ side) → txn ≡ txn_of after
        by (inl row) = of ∙ sym (idle_txn side) ∙ ap txn_of (sym (grows side after row).0) ∙ idle_txn after
        by (inr same) = of ∙ ap txn_of (sym same)

    -- If `Does` describes a call of the side of `txn` alone, the desk holds the side after it. The count is unchanged.
    pub changed_held : (answer : A) (new : SidesOf)
        → ChangesOnlySideOf Does txn (record { role = role; sides = sides }) (Some answer) new
        → (held : DeskEntry) × (after : Side) × (found_by txn_held txn (held_of sides counted) ≡ Some held)
        × Does held.side answer after × (txn ≡ txn_of after)
        × (record { role = new.role; held = held_of new.sides counted }
        ≡ with_held desk_with (record { side = after; released = held.released })) × (length counted ≡ length new.sides)
    changed_held answer new (side, after, there, does, changed) =
        let held = side_held txn side there in
        let of_side : txn ≡ txn_of side = found_is txn_held txn (held_of sides counted) held.0 held.1 ∙ ap txn_of held.2 in
        let of : txn ≡ txn_of after = same_txn side after answer does of_side in
        let put = held_put after held.0 sides counted as_many
        (ap (λ t. found_by txn_held t (held_of sides counted)) (sym of) ∙ held.1) in
        let holding : record { role = new.role; held = held_of new.sides counted }
        ≡ with_held desk_with (record { side = after; released = held.0.released }) =
        ap (λ (all : SidesOf). record { role = all.role; held = held_of all.sides counted }) changed
        ∙ ap (λ hs. record { role = role; held = hs }) put in
        let few : length (put_by txn_of after sides) ≡ length sides =
        put_length txn_of after side sides
        (ap (λ t. found_by txn_of t sides) (sym of) ∙ found_plainly txn sides side there) in (
          held.0,
          after,
          held.1,
          subst (λ s. Does s answer after) (sym held.2) does,
          of,
          holding,
          as_many ∙ sym (ap (λ (all : SidesOf). length all.sides) changed ∙ few),
        )

    -- If the sides that were read back the contents, they back them after a held side's call that `Does` describes.
    changed_backs : (committed : Result DeskContents RecordFault) (held : DeskEntry) (after : Side) (answer : A)
        → found_by txn_held txn (held_of sides counted) ≡ Some held → Does held.side answer after → txn ≡ txn_of after
        → IsBackedByRead ManyBack committed desk_with
        → IsBackedByRead ManyBack committed (with_held desk_with (record { side = after; released = held.released }))
    changed_backs committed held after answer found does of backed = by (rows held.side after answer does)
      where
        -- The contents are backed after a transition of the side, and if it is unchanged.
        by : IsSideTransition held.side after ⊎ (after ≡ held.side)
            → IsBackedByRead ManyBack committed (with_held desk_with (record { side = after; released = held.released }))
        by (inl row) = row_backs_all committed desk_with held after
            (ap (λ t. held_for t desk_with) (sym of) ∙ ap (found_or (idle_held role txn)) found) row backed
        by (inr same) = subst (IsBackedByRead ManyBack committed) (sym (unchanged desk_with held txn after found same)) backed

    -- If `committed` backs the desk's contents, it backs them after a held side's call that `Does` describes.
    changed_backs_by : (committed : SidesOf) (held : DeskEntry) (after : Side) (answer : A)
        → found_by txn_held txn (held_of sides counted) ≡ Some held → Does held.side answer after → txn ≡ txn_of after
        → AreBackedBy committed desk_with
        → AreBackedBy committed (with_held desk_with (record { side = after; released = held.released }))
    changed_backs_by committed held after answer found does of backed = by (rows held.side after answer does)
      where
        -- The contents are backed after a transition of the side, and if it is unchanged.
        by : IsSideTransition held.side after ⊎ (after ≡ held.side)
            → AreBackedBy committed (with_held desk_with (record { side = after; released = held.released }))
        by (inl row) = row_backs_held committed desk_with held after
            (ap (λ t. held_for t desk_with) (sym of) ∙ ap (found_or (idle_held role txn)) found) row backed
        by (inr same) = subst (AreBackedBy committed) (sym (unchanged desk_with held txn after found same)) backed

    -- All bytes that back the desk's contents back them after a call of one side that `Does` describes.
    pub still_backed : (answer : A) (new : SidesOf)
        → ChangesOnlySideOf Does txn (record { role = role; sides = sides }) (Some answer) new
        → StaysBacked many_sides ManyBack desk_with (record { role = new.role; held = held_of new.sides counted })
    still_backed answer new only committed backed =
        let to = changed_held answer new only in
        let next = with_held desk_with (record { side = to.1; released = to.0.released }) in
        subst (IsBacked many_sides ManyBack committed) (sym to.5)
        (subst (λ read. IsBackedByRead ManyBack read next) (same_committed committed desk_with next refl)
        (changed_backs (committed_live many_sides committed desk_with) to.0 to.1 answer to.2 to.3 to.4 backed))

    -- If some sides back the desk's contents, they back them after a call of one side that `Does` describes.
    pub still_backable : (answer : A) (new : SidesOf)
        → ChangesOnlySideOf Does txn (record { role = role; sides = sides }) (Some answer) new
        → AreBackable desk_with → AreBackable (record { role = new.role; held = held_of new.sides counted })
    still_backable answer new only backed =
        let to = changed_held answer new only in
        (backed.0, subst (AreBackedBy backed.0) (sym to.5) (changed_backs_by backed.0 to.0 to.1 answer to.2 to.3 to.4 backed.1))

  -- If the side of `txn` alone answers an action as `Acts` says, the desk answers it as `DeskActs` says.
  pub desk_acts_so : (grows : RowsGrow) (txn : Qualifiers) (action : Action) (answer : Result (Unit {0}) Refusal) (new : SidesOf)
      → is_same_role role (role_for action) ≡ true
      → ChangesOnlySideOf (λ old answer new. Acts old action answer new) txn (record { role = role; sides = sides }) (Some answer)
      new
      → DeskActs many_sides desk_with txn action (core_answer answer)
      (record { role = new.role; held = held_of new.sides counted })
  desk_acts_so grows txn action answer new fits only =
      let to = changed_held grows txn (λ old answer new. Acts old action answer new)
      (λ old new answer does. acts_row old new action answer does) answer new only in
      subst (λ l. DeskActs many_sides desk_with txn action (core_answer answer) l) (sym to.5)
      (acts_held desk_with txn to.0 to.1 to.2 action answer fits to.3)

  -- If the side of an APDU alone answers it as `Takes` says, the desk answers as `DeskTakesApdu` says.
  pub desk_takes_so : (grows : RowsGrow) → RefusalsStay → (a : Apdu) (answer : Result Taking Refusal) (new : SidesOf)
      → is_own role a.body ≡ false
      → ChangesOnlySideOf (λ old answer new. Takes old a answer new) a.txn (record { role = role; sides = sides }) (Some answer)
      new
      → DeskTakesApdu many_sides desk_with a (core_answer answer) (record { role = new.role; held = held_of new.sides counted })
  desk_takes_so grows stay a answer new other only =
      let to = changed_held grows a.txn (λ old answer new. Takes old a answer new)
      (λ old new answer does. takes_row old new a answer does) answer new only in
      subst (λ l. DeskTakesApdu many_sides desk_with a (core_answer answer) l) (sym to.5)
      (takes_held desk_with a to.0 to.1 to.2 other stay answer to.3)

-- ---- a desk with one more side

-- Below, each of `sides` has a count in `counted`, and `side` may be put after them.
module _ (role : Role) (sides : List Side) (counted : List ℕ) (as_many : length counted ≡ length sides) (side : Side)
    (may : put_refusal (record { role = role; sides = sides }) side ≡ None) where
  -- No side of the transaction of `side` is held.
  none_before : found_by txn_held (txn_of side) (held_of sides counted) ≡ None
  none_before = none_held role sides counted as_many (txn_of side) (new_to (record { role = role; sides = sides }) side may)

  -- If `side` is put with a count of 0, the desk holds it with no message released.
  pub held_more : (new : SidesOf) → new ≡ put_side (record { role = role; sides = sides }) side
      → record { role = new.role; held = held_of new.sides (counted ++ 0 ∷ []) }
      ≡ with_held (desk_with role sides counted as_many) (record { side = side; released = 0 })
  held_more new put =
      ap (λ (all : SidesOf). record { role = all.role; held = held_of all.sides (counted ++ 0 ∷ []) }) put
      ∙ ap (λ hs. record { role = role; held = hs })
      (held_last sides counted side 0 as_many
      ∙ sym (put_last txn_held (record { side = side; released = 0 }) (held_of sides counted) none_before))

  -- All bytes that back the desk's contents back them with a side that began by a transition.
  pub more_backed : RowsGrow → (new : SidesOf)
      → new ≡ put_side (record { role = role; sides = sides }) side → IsSideTransition (idle_side role (txn_of side)) side
      → StaysBacked many_sides ManyBack (desk_with role sides counted as_many)
      (record { role = new.role; held = held_of new.sides (counted ++ 0 ∷ []) })
  more_backed grows new put row committed backed =
      let old = desk_with role sides counted as_many in
      let next = with_held old (record { side = side; released = 0 }) in
      subst (IsBacked many_sides ManyBack committed) (sym (held_more new put))
      (subst (λ read. IsBackedByRead ManyBack read next) (same_committed committed old next refl)
      (row_backs_all (committed_live many_sides committed old) old (idle_held role (txn_of side)) side
      (ap (found_or (idle_held role (txn_of side))) none_before) row backed))

  -- If some sides back the desk's contents, they back them with a side that began by a transition.
  pub more_backable : RowsGrow → (new : SidesOf) → new ≡ put_side (record { role = role; sides = sides }) side
      → IsSideTransition (idle_side role (txn_of side)) side
      → AreBackable (desk_with role sides counted as_many)
      → AreBackable (record { role = new.role; held = held_of new.sides (counted ++ 0 ∷ []) })
  more_backable grows new put row backed = (
    backed.0,
    subst (AreBackedBy backed.0) (sym (held_more new put))
        (row_backs_held backed.0 (desk_with role sides counted as_many) (idle_held role (txn_of side)) side
        (ap (found_or (idle_held role (txn_of side))) none_before) row backed.1),
  )

-- ---- sides that back themselves, their counts, and the record of a desk

-- An idle side is consistent.
idle_keeps : (role : Role) (txn : Qualifiers) → IsConsistent (idle_side role txn)
idle_keeps roles.Requester txn = idle_consistent (idle_side roles.Requester txn)
idle_keeps roles.Responder txn = idle_consistent (idle_side roles.Responder txn)

-- If `side` and `found` satisfy `P`, the result of a search satisfies it: `side` if `here` is true, and else `found`.
either_is : (P : Side → Type 0) (side : Side) (found : Option Side) (here : Bool) → P side → IfSome found P
    → IfSome (cond here (Some side) found) P
either_is P side found true is others = is
either_is P side found false is others = others

-- If each side satisfies `P`, a side that is found satisfies it.
each_is : (P : Side → Type 0) (txn : Qualifiers) (sides : List Side) → Each P sides → IfSome (found_by txn_of txn sides) P
unfolding Each
each_is P txn [] each = tt
each_is P txn (side ∷ sides) each =
    either_is P side (found_by txn_of txn sides) (is_same_txn txn (txn_of side)) each.0 (each_is P txn sides each.1)

-- A consistent side that is found, or an idle one, backs itself with all messages released.
found_whole : (role : Role) (txn : Qualifiers) (found : Option Side) → IfSome found IsConsistent
    → IsBackedBy (found_or (idle_side role txn) found) (found_or (idle_held role txn) (option_map whole found)).side
    (found_or (idle_held role txn) (option_map whole found)).released
found_whole role txn (Some side) is = itself_backs side (length (issued_of side)) is (omega arith)
found_whole role txn None is = itself_backs (idle_side role txn) 0 (idle_keeps role txn) (omega arith)

-- Consistent sides back themselves with all messages released.
whole_backed : (all : SidesOf) → Each IsConsistent all.sides → AreBackedBy all (whole_of all)
unfolding side_with
whole_backed all each = record {
  role = refl;
  each = λ txn.
      subst (λ found. IsBackedBy (side_for txn all) (found_or (idle_held all.role txn) found).side
      (found_or (idle_held all.role txn) found).released)
      (sym (found_mapped txn_of txn_held whole (λ side. refl) txn all.sides))
      (found_whole all.role txn (found_by txn_of txn all.sides) (each_is IsConsistent txn all.sides each));
}

-- If the counts are the numbers of issued messages, a desk holds its sides with all messages released.
pub whole_held : (all : SidesOf) (counted : List ℕ) → counted ≡ counts all.sides
    → record { role = all.role; held = held_of all.sides counted } ≡ whole_of all
whole_held all counted whole = ap (λ ns. record { role = all.role; held = held_of all.sides ns }) whole
    ∙ ap (λ hs. record { role = all.role; held = hs }) (held_whole all.sides)

-- If `counted` has the numbers of issued messages, it has a count for each side.
pub as_many_counted : (sides : List Side) (counted : List ℕ) → counted ≡ counts sides → length counted ≡ length sides
as_many_counted sides counted whole = ap length whole ∙ length-map sides (λ side. length (issued_of side))

-- A desk that holds `all` with all messages released holds the sides `all`.
pub sides_of_whole : (all : SidesOf) → sides_held (whole_of all) ≡ all
sides_of_whole all = ap sides_held (sym (whole_held all (counts all.sides) refl))
    ∙ holds_sides all (counts all.sides) (length-map all.sides (λ side. length (issued_of side)))

-- Consistent sides that are held with all messages released back themselves.
pub whole_back : (all : SidesOf) → Each IsConsistent all.sides → ManyBack (whole_of all) (whole_of all)
whole_back all each = subst (λ committed. AreBackedBy committed (whole_of all)) (sym (sides_of_whole all)) (whole_backed all each)

-- Consistent sides with all messages released are backed by some sides.
pub whole_backable : (all : SidesOf) (counted : List ℕ) → Each IsConsistent all.sides → counted ≡ counts all.sides
    → AreBackable (record { role = all.role; held = held_of all.sides counted })
whole_backable all counted each whole =
    (all, subst (AreBackedBy all) (sym (whole_held all counted whole)) (whole_backed all each))

-- If some sides back the desk's contents, at most the issued messages are released.
pub few_released : ((old new : Side) → IsAfterTransitions old new → IsPrefix (issued_of old) (issued_of new))
    → (live : DeskContents) (txn : Qualifiers) → AreBackable live
    → (held_for txn live).released ≤ length (issued_of (held_for txn live).side)
few_released follows live txn backed =
    let is = backed.1.each txn in
    omega (arith, is.has-released, no_less _ _ (follows _ _ is.follows))

-- The count of side `n` and the counts of the sides after it are the counts of the sides from `n` on.
pub one_counted : (counted : List ℕ) (sides : List Side) (n : ℕ) (side : Side) → n < length sides → side ≡ get_or sides n side
    → (counted ++ length (issued_of side) ∷ []) ++ counts (drop (n + 1) sides) ≡ counted ++ counts (drop n sides)
one_counted counted sides n side inside there =
    append_assoc counted (length (issued_of side) ∷ []) (counts (drop (n + 1) sides))
    ∙ ap (λ vs. counted ++ counts vs) (sym (drop_more sides n side inside ∙ ap (λ s. s ∷ drop (n + 1) sides) (sym there)))

-- Each element of an empty list satisfies `P`.
pub none_are : (P : Side → Type 0) → Each P []
unfolding Each
none_are P = tt

-- A desk that holds no side backs itself.
pub none_back : (role : Role) → ManyBack (no_sides role) (no_sides role)
none_back role = whole_backed (record { role = role; sides = [] }) (none_are IsConsistent)

-- If each side is consistent and in range (`IsSide`), each is consistent.
pub each_consistent : (sides : List Side) → Each IsSide sides → Each IsConsistent sides
unfolding Each
each_consistent [] each = tt
each_consistent (side ∷ sides) each = (each.0.0, each_consistent sides each.1)

-- The law of a record of sides: sides that may be saved are read from their encoding.
abbrev pub SidesReadAgain : Type 0
SidesReadAgain = (all : SidesOf) → AreSides all → records_at (sides_encoding all) ≡ Ok all

-- The law of transitions: if they lead from `old` to `new`, the messages of `old` are a prefix of those of `new`.
abbrev FollowsIssues : Type 0
FollowsIssues = (old new : Side) → IsAfterTransitions old new → IsPrefix (issued_of old) (issued_of new)

-- Below, the sides `all` are consistent, and each has a count in `counted`.
module _ (follows : FollowsIssues) (all : SidesOf) (counted : List ℕ) (as_many : length counted ≡ length all.sides)
    (each : Each IsConsistent all.sides) where
  -- If a found side is consistent, the found side, or the idle one if none is found, is consistent.
  keeps_or : (txn : Qualifiers) (found : Option DeskEntry) → IfSome (option_map side_of found) IsConsistent
      → IsConsistent (found_or (idle_held all.role txn) found).side
  keeps_or txn (Some held) is = is
  keeps_or txn None is = idle_keeps all.role txn

  -- The found side, or the idle one, is the side of the found entry, or of the idle entry.
  same_or : (txn : Qualifiers) (found : Option DeskEntry)
      → found_or (idle_side all.role txn) (option_map side_of found) ≡ (found_or (idle_held all.role txn) found).side
  same_or txn (Some held) = refl
  same_or txn None = refl

  -- If committed sides back the desk's contents, the sides `all` of the desk back them, too. The sides `all` have all
  -- messages of the committed ones (`few`), and the committed ones have each released message (`was`).
  self_backed : (committed : SidesOf) → AreBackedBy committed (record { role = all.role; held = held_of all.sides counted })
      → AreBackedBy all (record { role = all.role; held = held_of all.sides counted })
  unfolding side_with
  self_backed committed backed = record {
    role = refl;
    each = λ txn.
        let live : DeskContents = record { role = all.role; held = held_of all.sides counted } in
        let held = held_for txn live in
        let found = found_by txn_held txn live.held in
        let there = found_side txn all.sides counted as_many in
        let is : IsConsistent held.side =
        keeps_or txn found (subst (λ f. IfSome f IsConsistent) there (each_is IsConsistent txn all.sides each)) in
        let was = backed.each txn in
        let few = no_less _ _ (follows _ _ was.follows) in
        subst (λ side. IsBackedBy side held.side held.released)
        (sym (ap (found_or (idle_side all.role txn)) there ∙ same_or txn found))
        (record { consistent = is; follows = follows_itself; has-released = omega (arith, was.has-released, few) });
  }

  -- The encoding of the sides is the record of a desk that holds them, as `IsRecordOf` says.
  pub sides_record : SidesReadAgain → AreSides all → (bytes : List ℕ) (live : DeskContents) → bytes ≡ sides_encoding all
      → record { role = all.role; held = held_of all.sides counted } ≡ live → AreBackable live
      → IsRecordOf many_sides ManyBack bytes live
  sides_record again are bytes live encoded is backable =
      let seen : all ≡ sides_held live = as_seen all counted live as_many is in
      let saved : whole_of all ≡ whole_of (sides_held live) = ap whole_of seen in
      record {
        encoded = encoded ∙ ap sides_encoding seen;
        read = ap many_sides.read encoded ∙ ap (map_ok whole_of) (again all are) ∙ ap Ok saved;
        backed = subst (λ committed. ManyBack committed live) saved
            (subst (λ committed. AreBackedBy committed live) (sym (sides_of_whole all))
            (subst (AreBackedBy all) is (self_backed backable.0 (subst (AreBackedBy backable.0) (sym is) backable.1))));
        saved = subst (λ committed. ManyBack committed committed) saved (whole_back all each);
      }

-- If `Ok x` is `Ok y`, `x` is `y`.
ok_is : {X : Type 0} (x y : X) → ◌≡◌ {A = Result X RecordFault} (Ok x) (Ok y) → x ≡ y
ok_is x y e = search rules

-- ---- sides that are read are consistent, and the sides of a desk's entries

-- If a side is consistent, each side of a desk with only this side is consistent.
each_if : (idle : Bool) (side : Side) → IsConsistent side → Each IsConsistent (cond idle [] (side ∷ []))
unfolding Each
each_if true side is = tt
each_if false side is = (is, tt)

-- The law of one record. Bytes that are read as a side are its encoding, and the side is consistent and in range.
abbrev pub OneConsistent : Type 0
OneConsistent = (bytes : List ℕ) (side : Side) → IsBytes bytes → record_at bytes ≡ Ok side → (bytes ≡ record_encoding side)
    × IsSide side

-- The law of version 2: bytes that are read as sides are their encoding, and the sides may be saved.
abbrev pub ManyConsistent : Type 0
ManyConsistent = (bytes : List ℕ) (held : SidesOf) → IsBytes bytes → is_version_1 bytes ≡ false → records_at bytes ≡ Ok held
    → (bytes ≡ sides_encoding held) × AreSides held

-- If a side that is read is consistent, each side of the desk that `read_alone` gives is consistent.
alone_read : (read : Result Side RecordFault) (all : SidesOf) → ((side : Side) → read ≡ Ok side → IsConsistent side)
    → read_alone read ≡ Ok all → Each IsConsistent all.sides
alone_read (Ok side) all one is =
    subst (λ (held : SidesOf). Each IsConsistent held.sides) (ok_is (alone side) all is)
    (each_if (is_idle side) side (one side refl))
alone_read (Err fault) all one is = search rules

-- If the sides that either version gives are consistent, the sides that are read are consistent.
either_read : (first : Bool) (bytes : List ℕ) (many : Result SidesOf RecordFault) (all : SidesOf)
    → (is_version_1 bytes ≡ first) → cond first (read_alone (record_at bytes)) many ≡ Ok all
    → ((side : Side) → record_at bytes ≡ Ok side → IsConsistent side)
    → (is_version_1 bytes ≡ false → Each IsConsistent all.sides) → Each IsConsistent all.sides
either_read true bytes many all first read one others = alone_read (record_at bytes) all one read
either_read false bytes many all first read one others = others first

-- Sides that are read from a record of either version are consistent.
pub read_consistent : OneConsistent → ManyConsistent → (bytes : List ℕ) (all : SidesOf) → IsBytes bytes
    → records_at bytes ≡ Ok all → Each IsConsistent all.sides
unfolding records_at
read_consistent one many bytes all is read =
    either_read (is_version_1 bytes) bytes (unsealed bytes >>= sides_at) all refl read
    (λ side found. (one bytes side is found).1.0) (λ later. each_consistent all.sides (many bytes all is later read).1.each)

-- The side of the found entry, or of `idle`, is the found side, or the side of `idle`.
side_found : (idle : DeskEntry) (found : Option DeskEntry)
    → found_or idle.side (option_map (λ (held : DeskEntry). held.side) found) ≡ (found_or idle found).side
side_found idle (Some held) = refl
side_found idle None = refl

-- The side of `txn` among the sides of a desk is the side of the desk's entry for `txn`.
pub side_of_held : (txn : Qualifiers) (live : DeskContents) → side_for txn (sides_held live) ≡ (held_for txn live).side
unfolding side_with
side_of_held txn live =
    ap (found_or (idle_side live.role txn))
    (found_mapped txn_held txn_of (λ (held : DeskEntry). held.side) (λ held. refl) txn live.held)
    ∙ side_found (idle_held live.role txn) (found_by txn_held txn live.held)
