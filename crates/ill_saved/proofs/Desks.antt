-- The rules of a desk of one side. They hold after each of its calls.
use Rattle.std.proofs.Common.{rules, arith, ◌≡◌, ℕ, ◌+◌, ◌≤◌, Bool, true, List, [], ◌∷◌, ◌++◌, length, Option, Some, None}
use Rattle.std.proofs.Common.{Result, Ok, Err, refl, ap, sym, subst, ◌∙◌, inl, inr, drop}
use Rattle.std.specs.Prelude.{IfErr, IfOk, is_ok, nat_le, map, option_map, slice_get, zero, suc, ◌-◌, is_some, if◌then◌else◌, not}
use Rattle.std.specs.Prelude.{false, take}
use Rattle.std.proofs.lemmas.Bool.{le-leb}
use Rattle.ill_values.specs.declared.apdu.Apdu.{Apdu}
use Rattle.ill_values.specs.Apdu.{IsApdu}
use Rattle.ill_core.specs.declared.refusal.Refusal.{Refusal}
use Rattle.ill_core.specs.declared.refusal.Refusal.TheVariants as refusals
use Rattle.ill_core.specs.declared.taking.Taking.{Taking}
use Rattle.std.proofs.lemmas.List.{length-drop, take-append-le, take_all}
use Rattle.ill_der.specs.declared.fault.DerFault.{DerFault}
use Rattle.ill_der.specs.ShortForm as short_form
use Rattle.ill_der.specs.ShortForm.{encoding}
use Rattle.ill_core.specs.Issued.{message}
use Rattle.ill_core.specs.declared.state.State.TheVariants.{Idle}
use Rattle.ill_core.specs.declared.requester.standing.Standing.{Standing as RequesterStanding}
use Rattle.ill_core.specs.declared.responder.standing.Standing.{Standing as ResponderStanding}
use Rattle.ill_core.specs.State.{is_among}
use Rattle.ill_core.specs.Requester as requesters
use Rattle.ill_core.specs.Requester.{RequesterRecord, requester_of}
use Rattle.ill_core.specs.Responder as responders
use Rattle.ill_core.specs.Responder.{ResponderRecord, responder_of, request_in}
use Rattle.ill_saved.specs.declared.fault.DeskFault.{DeskFault}
use Rattle.ill_saved.specs.declared.fault.DeskFault.TheVariants as faults
use Rattle.ill_record.specs.declared.fault.RecordFault.{RecordFault}
use Rattle.ill_record.specs.declared.fault.RecordFault.TheVariants as records
use Rattle.ill_record.specs.declared.side.Side.{Side}
use Rattle.ill_record.specs.declared.side.Side.TheVariants as sides
use Rattle.ill_record.specs.declared.side.Standing.{Standing}
use Rattle.ill_record.specs.declared.side.Standing.TheVariants as standings
use Rattle.ill_record.specs.declared.side.Action.{Action}
use Rattle.ill_store.specs.declared.store.NextCall.{NextCall}
use Rattle.ill_store.specs.declared.store.NextCall.TheVariants as plans
use Rattle.ill_record.specs.Side.{issued_of, txn_of, is_idle, standing_of, back_to, is_asked, KeepsRequest, IsConsistent, idle_of}
use Rattle.ill_record.specs.Side.{acts, takes, Acts, Takes, IsSideTransition, IsPrefix, Grows, acted, took}
use Rattle.ill_record.specs.Side.{same, further}
use Rattle.ill_saved.specs.Faults.{of_core, of_record}
use Rattle.ill_record.proofs.Records.{no_digest}
use Rattle.ill_record.specs.Records.{record_at, record_encoding, Decodes}
use Rattle.ill_record.specs.Ranges.{Each, IsSide}
use Rattle.ill_store.specs.Store.{Allows, StoreState, StoreLoads}
use Rattle.ill_saved.specs.CommittedBytes.{CommittedBytes, IsCommittedRecord, HoldsReleased, GoesBackTo}
use Rattle.ill_saved.specs.Holdings.{DeskEntry, Effects, DeskActs, DeskTakesApdu, GoesBackToCommitted, IsBacked, IsBackedBy}
use Rattle.ill_saved.specs.Holdings.{IsBackedByRead, IsReadFault, IsRecordOf, ReadsRecord, Sends, StaysBacked, committed_live}
use Rattle.ill_saved.specs.Holdings.{map_ok, whole}
use Rattle.ill_saved.specs.OneSide.{OneBacks, alone, one_acts, one_answers, one_side, with_side}
use Rattle.ill_saved.specs.Desk.{IsOneApdu, Restarts}
use Rattle.ill_record.proofs.Rules.{responder_asked}
use Rattle.ill_record.proofs.Transitions.{none_more, no_less, RowsGrow, RowsKeepRequest, prefix_of_prefix, idle_twice}
use Rattle.ill_record.proofs.Transitions.{idle_consistent, nothing_issued}

-- ---- the committed side, the rules and the answers after a call of the live side

-- Returns a held side with its released count.
abbrev entry : Side → ℕ → DeskEntry
entry side released = record { side = side; released = released }

-- If a committed side backs the live one, it backs it after a transition.
step_backed : (committed : DeskEntry) (old new : Side) (released : ℕ) → IsSideTransition old new
    → OneBacks committed (entry old released) → OneBacks committed (entry new released)
step_backed committed old new released row backed =
    record { consistent = backed.consistent; follows = further old new backed.follows row; has-released = backed.has-released }

-- If the side that was read backs the live one, it backs it after a transition.
read_backs : (read : Result DeskEntry RecordFault) (old new : Side) (released : ℕ) → IsSideTransition old new
    → IsBackedByRead OneBacks read (entry old released) → IsBackedByRead OneBacks read (entry new released)
read_backs (Ok committed) old new released row backed = step_backed committed old new released row backed
read_backs (Err fault) old new released row backed = backed

-- All committed bytes that back the live side back it after a transition.
row_backs : RowsGrow → (old new : Side) (released : ℕ) → IsSideTransition old new
    → StaysBacked one_side OneBacks (entry old released) (entry new released)
row_backs grows old new released row None backed =
    subst (λ side. OneBacks (whole side) (entry new released)) (sym (grows old new row).0)
    (step_backed (whole (idle_of old)) old new released row backed)
row_backs grows old new released row (Some bytes) backed = read_backs (one_side.read bytes) old new released row backed

-- Let a requester keep its transaction and its first `count` messages.
-- Then it goes back to the record to which it could go back before.
requester_back : (s : RequesterStanding) (count : ℕ) (x new : RequesterRecord) → new.txn ≡ x.txn
    → IsPrefix x.issued new.issued → count ≤ length x.issued
    → requesters.back_to s count new ≡ requesters.back_to s count x
requester_back s count x new txn more few =
    let issued : take count new.issued ≡ take count x.issued =
    ap (take count) more.1 ∙ take-append-le count x.issued more.0 few in
    ap (λ t. requester_of t s.state s.held s.checked_in s.due (take count new.issued)) txn
    ∙ ap (requester_of x.txn s.state s.held s.checked_in s.due) issued

-- If the request is unchanged unless the standing is IDLE, the request that belongs to the standing is unchanged.
request_stays : (is_idle : Bool) (old new : Option Apdu) → (is_idle ≡ false → new ≡ old)
    → (if is_idle then None else new) ≡ (if is_idle then None else old)
request_stays true old new stays = refl
request_stays false old new stays = stays refl

-- Let a responder keep its transaction, its first `count` messages and its request.
-- Then it goes back to the record to which it could go back before.
responder_back : (s : ResponderStanding) (count : ℕ) (y new : ResponderRecord) → new.txn ≡ y.txn
    → IsPrefix y.issued new.issued → count ≤ length y.issued
    → (is_among (Idle ∷ []) s.state ≡ false → new.request ≡ y.request)
    → responders.back_to s count new ≡ responders.back_to s count y
responder_back s count y new txn more few stays =
    let issued : take count new.issued ≡ take count y.issued =
    ap (take count) more.1 ∙ take-append-le count y.issued more.0 few in
    let request : request_in s.state new.request ≡ request_in s.state y.request =
    request_stays (is_among (Idle ∷ []) s.state) y.request new.request stays in
    ap (λ t. responder_of t s.state s.accepted s.last_cancel s.last_renew s.received (request_in s.state new.request)
    (take count new.issued)) txn
    ∙ (ap (λ r. responder_of y.txn s.state s.accepted s.last_cancel s.last_renew s.received r (take count new.issued)) request
    ∙ ap (responder_of y.txn s.state s.accepted s.last_cancel s.last_renew s.received (request_in s.state y.request)) issued)

-- If `Some s` is `Some t`, then `s` is `t`.
some_is : (s t : Side) → ◌≡◌ {A = Option Side} (Some s) (Some t) → s ≡ t
some_is s t e = search rules

-- Let `old` grow to `new` and keep its request. If `old` can go back to `side`, `new` can go back to it, too. `s` and
-- `count` are the standing and the number of messages of `side`. If `side` has taken a request, `old` has taken one.
back_on : (s : Standing) (count : ℕ) (old new side : Side) → Grows old new → KeepsRequest old new
    → count ≤ length (issued_of old) → (is_asked side ≡ true → is_asked old ≡ true)
    → back_to s count old ≡ Some side → back_to s count new ≡ Some side
back_on (standings.Requester s) count (sides.Requester x) (sides.Requester new) side grows keeps few asked e =
    ap (λ r. Some (sides.Requester r)) (requester_back s count x new (ap txn_of grows.0) grows.1 few) ∙ e
back_on (standings.Responder s) count (sides.Responder y) (sides.Responder new) side grows keeps few asked e =
    let is : is_asked side ≡ not (is_among (Idle ∷ []) s.state) = sym (ap is_asked (some_is _ side e)) in
    let stays : is_among (Idle ∷ []) s.state ≡ false → new.request ≡ y.request = λ begun. (keeps (asked (is ∙ ap not begun))).1 in
    ap (λ r. Some (sides.Responder r)) (responder_back s count y new (ap txn_of grows.0) grows.1 few stays) ∙ e
back_on (standings.Requester s) count (sides.Responder y) new side grows keeps few asked e = absurd cc
back_on (standings.Responder s) count (sides.Requester x) new side grows keeps few asked e = absurd cc
back_on (standings.Requester s) count (sides.Requester x) (sides.Responder new) side grows keeps few asked e = absurd cc
back_on (standings.Responder s) count (sides.Responder y) (sides.Requester new) side grows keeps few asked e = absurd cc

-- If the live side grows and keeps its request, `HoldsReleased` remains true. `is` says that the committed record is
-- that of `side`, and `of` that `side` has issued exactly the released messages.
keeps_on : (committed_record : CommittedBytes) (old new : Side) (released : ℕ) → released ≤ length (issued_of old) → Grows old new
    → KeepsRequest old new → HoldsReleased committed_record old released → HoldsReleased committed_record new released
keeps_on committed_record old new released few grows keeps (inl none) = inl none
keeps_on committed_record old new released few grows keeps (inr (side, is, of)) =
    inr (
      side,
      is,
      record {
        prefix = prefix_of_prefix (issued_of side) (issued_of old) (issued_of new) of.prefix grows.1;
        all = of.all;
        back = back_on (standing_of side) released old new side grows keeps few of.asked of.back;
        asked = λ asked. (keeps (of.asked asked)).0;
      },
    )

-- The rules of a held side: at most the issued messages are released, and its committed record has the released ones.
abbrev pub Rules : CommittedBytes → Side → ℕ → Type 0
Rules committed_record live released = (released ≤ length (issued_of live)) × HoldsReleased committed_record live released

-- The new side satisfies the rules, and all bytes that back the old side back it.
abbrev pub SatisfiesRulesAfter : CommittedBytes → Side → Side → ℕ → Type 0
SatisfiesRulesAfter committed_record old new released =
    Rules committed_record new released × StaysBacked one_side OneBacks (entry old released) (entry new released)

-- A held side satisfies `SatisfiesRulesAfter` after a transition.
row_rules : RowsGrow → RowsKeepRequest → (committed_record : CommittedBytes) (old new : Side) (released : ℕ)
    → IsSideTransition old new → Rules committed_record old released → SatisfiesRulesAfter committed_record old new released
row_rules grows keeps committed_record old new released row rules =
    let more = grows old new row in (
      (
        omega (arith, rules.0, no_less _ _ more.1),
        keeps_on committed_record old new released rules.0 more (keeps old new row) rules.1,
      ),
      row_backs grows old new released row,
    )

-- A held side satisfies `SatisfiesRulesAfter` if it does not change.
same_rules : (committed_record : CommittedBytes) (old new : Side) (released : ℕ) → new ≡ old
    → Rules committed_record old released → SatisfiesRulesAfter committed_record old new released
same_rules committed_record old new released e rules =
    subst (λ side. SatisfiesRulesAfter committed_record old side released) (sym e) (rules, λ committed backed. backed)

-- A held side satisfies `SatisfiesRulesAfter` after an action, whatever the answer is.
pub acts_rules : RowsGrow → RowsKeepRequest
    → (committed_record : CommittedBytes) (old new : Side) (released : ℕ) (action : Action) (answer : Result (Unit {0}) Refusal)
    → Acts old action answer new → Rules committed_record old released → SatisfiesRulesAfter committed_record old new released
acts_rules grows keeps committed_record old new released action (Ok done) acts rules =
    row_rules grows keeps committed_record old new released (acted action acts) rules
acts_rules grows keeps committed_record old new released action (Err refusals.OutOfMemory) acts rules =
    same_rules committed_record old new released acts.1 rules
acts_rules grows keeps committed_record old new released action (Err refusal) acts rules =
    same_rules committed_record old new released acts.1 rules

-- A held side satisfies `SatisfiesRulesAfter` after an APDU, whatever the answer is.
pub takes_rules : RowsGrow → RowsKeepRequest
    → (committed_record : CommittedBytes) (old new : Side) (released : ℕ) (a : Apdu) (answer : Result Taking Refusal)
    → Takes old a answer new → Rules committed_record old released → SatisfiesRulesAfter committed_record old new released
takes_rules grows keeps committed_record old new released a (Err refusals.OutOfMemory) takes rules =
    same_rules committed_record old new released takes.2 rules
takes_rules grows keeps committed_record old new released a answer takes rules =
    row_rules grows keeps committed_record old new released (took a (ap (λ (r : Result Taking Refusal × Side). r.1) takes)) rules

-- Returns the answer of a desk for the answer of its side.
abbrev pub core_answer : {A : Type 0} → Result A Refusal → Result A DeskFault
core_answer (Ok answer) = Ok answer
core_answer (Err refusal) = Err (of_core refusal)

-- An action of a desk of one side is done exactly if the action of its side is done.
one_ok : (held : DeskEntry) (r : Result Side Refusal) → is_ok (one_acts held r) ≡ is_ok r
one_ok held (Ok side) = refl
one_ok held (Err refusal) = refl

-- If a side answers an action as `Acts` says, a desk of this side answers as `DeskActs` says.
pub acts_alone : (held : DeskEntry) (new : Side) (action : Action) (answer : Result (Unit {0}) Refusal)
    → Acts held.side action answer new → DeskActs one_side held tt action (core_answer answer) (with_side held new)
acts_alone held new action (Ok done) acts = ap (one_acts held) acts
acts_alone held new action (Err refusals.OutOfMemory) acts = (one_ok held _ ∙ acts.0, ap (with_side held) acts.1)
acts_alone held new action (Err refusal) acts = (ap (one_acts held) acts.0, refl, ap (with_side held) acts.1)

-- If a side answers an APDU as `Takes` says, a desk of this side answers as `DeskTakesApdu` says.
pub takes_alone : (held : DeskEntry) (new : Side) (a : Apdu) (answer : Result Taking Refusal)
    → Takes held.side a answer new → DeskTakesApdu one_side held a (core_answer answer) (with_side held new)
takes_alone held new a (Err refusals.OutOfMemory) takes = ((ap one_answers takes.0, takes.1), ap (with_side held) takes.2)
takes_alone held new a (Ok taking) takes = ap (λ (r : Result Taking Refusal × Side). (one_answers r.0, with_side held r.1)) takes
takes_alone held new a (Err refusal) takes =
    (ap (λ (r : Result Taking Refusal × Side). (one_answers r.0, with_side held r.1)) takes, refl)

-- ---- one APDU

-- If bytes follow the APDU, `Trailing` is an answer that `IsOneApdu` allows.
one_after : (a : Apdu) (rest : List ℕ) → 1 ≤ length rest → IsOneApdu (Ok (a, rest)) (Err faults.Trailing)
one_after a [] more = absurd (omega (arith, more))
one_after a (byte ∷ rest) more = tt

-- If the APDU that was read ends before the bytes do, `Trailing` is an answer that `IsOneApdu` allows.
pub trailing_alone : (bytes : List ℕ) (read : Result (Apdu × List ℕ) DerFault) (found : Apdu × ℕ)
    → found.1 + 1 ≤ length bytes → short_form.Decodes bytes read (Ok found) → IsOneApdu read (Err faults.Trailing)
trailing_alone bytes (Ok apdu) found less decodes =
    subst (λ r. IsOneApdu (Ok r) (Err faults.Trailing)) (sym decodes.1)
    (one_after found.0 (drop found.1 bytes) (omega (arith, length-drop found.1 bytes, less)))
trailing_alone bytes (Err fault) found less decodes = search rules

-- ---- a side with all messages released, and its record

-- The law of one record: a consistent side in range is read from its encoding.
abbrev pub ReadsAgain : Type 0
ReadsAgain = (side : Side) → IsSide side → record_at (record_encoding side) ≡ Ok side

-- If there is a request exactly if the state is not IDLE, clearing it in IDLE changes nothing.
unless_idle : (is_idle : Bool) (request : Option Apdu) → is_some request ≡ not is_idle
    → (if is_idle then None else request) ≡ request
unless_idle true None is = refl
unless_idle true (Some a) is = absurd cc
unless_idle false request is = refl

-- A consistent side goes back to itself with its standing and all its issued messages.
back_to_itself : (side : Side) (count : ℕ) → IsConsistent side → count ≡ length (issued_of side)
    → back_to (standing_of side) count side ≡ Some side
back_to_itself (sides.Requester x) count is all =
    ap (λ l. Some (sides.Requester (requester_of x.txn x.state x.held x.checked_in x.due l)))
    (take_all count x.issued (omega (arith, all)))
back_to_itself (sides.Responder y) count is all =
    let request : request_in y.state y.request ≡ y.request =
    unless_idle (is_among (Idle ∷ []) y.state) y.request (responder_asked y is) in
    ap (λ r. Some (sides.Responder (responder_of y.txn y.state y.accepted y.last_cancel y.last_renew y.received r
    (take count y.issued)))) request
    ∙ ap (λ l. Some (sides.Responder (responder_of y.txn y.state y.accepted y.last_cancel y.last_renew y.received y.request l)))
    (take_all count y.issued (omega (arith, all)))

-- If the committed record is that of the side and all its messages are released, `HoldsReleased` is true.
pub keeps_whole : (committed_record : CommittedBytes) (side : Side) (count : ℕ) → IsCommittedRecord committed_record side
    → count ≡ length (issued_of side)
    → HoldsReleased committed_record side count
keeps_whole committed_record side count is all =
    inr (
      side,
      is,
      record {
        prefix = none_more (issued_of side) (issued_of side) refl;
        all = all;
        back = back_to_itself side count is.0.0 all;
        asked = λ asked. asked;
      },
    )

-- A consistent side backs itself with all messages released.
pub itself_backs : (side : Side) (count : ℕ) → IsConsistent side → count ≤ length (issued_of side) → IsBackedBy side side count
itself_backs side count is few = record { consistent = is; follows = same; has-released = few }

-- If `committed_record` is that of the side `live`, its bytes are the record of `live`, as `IsRecordOf` says.
pub record_of : ReadsAgain → (committed_record : CommittedBytes) (live : Side) (released : ℕ)
    → IsCommittedRecord committed_record live
    → released ≤ length (issued_of live) → IsRecordOf one_side OneBacks committed_record.bytes (entry live released)
record_of again committed_record live released is few =
    let encoded : committed_record.bytes ≡ record_encoding live = ap (λ (k : CommittedBytes). k.bytes) is.1 in
    record {
      encoded = encoded;
      read = ap one_side.read encoded ∙ ap (map_ok whole) (again live is.0);
      backed = itself_backs live released is.0.0 few;
      saved = itself_backs live (length (issued_of live)) is.0.0 (omega arith);
    }

-- If `result` is a committed record of the side `live`, its bytes are the record of `live`, as `IsRecordOf` says.
pub next_record : {E : Type 0} → ReadsAgain → (live : Side) (released : ℕ) (result : Result CommittedBytes E)
    → IfOk result (λ committed_record. IsCommittedRecord committed_record live) → released ≤ length (issued_of live)
    → IfOk result (λ committed_record. IsRecordOf one_side OneBacks committed_record.bytes (entry live released))
next_record again live released (Ok committed_record) is few = record_of again committed_record live released is few
next_record again live released (Err fault) is few = tt

-- ---- beginning, reading a record, and restarting

-- If `first` is idle, it backs itself with no message released, as the `unsaved` side of a desk.
pub idle_backs : (first : Side) → first ≡ idle_of first → OneBacks (one_side.unsaved (alone first)) (alone first)
idle_backs first idle =
    subst (λ side. IsBackedBy side first 0) idle
    (itself_backs first 0 (subst IsConsistent (sym idle) (idle_consistent first)) (omega arith))

-- If nothing is committed, the idle side of `live` is backed with all of its messages released.
pub idle_again_backs : (live : Side) → IsBacked one_side OneBacks None (whole (idle_of live))
idle_again_backs live =
    subst (λ side. OneBacks (whole side) (whole (idle_of live))) (sym (idle_twice live))
    (itself_backs (idle_of live) (length (issued_of (idle_of live))) (idle_consistent live) (omega arith))

-- An idle side with no message released is an idle side with all of its messages released.
pub alone_whole : (live : Side) → alone (idle_of live) ≡ whole (idle_of live)
alone_whole live = ap (entry (idle_of live)) (sym (nothing_issued live))

-- If bytes are read as sides that back themselves, the bytes back these sides.
pub read_is_backed : {L K : Type 0} (effects : Effects L K) (backs : L → L → Type 0) (bytes : List ℕ) (live : L)
    → effects.read bytes ≡ Ok live → backs live live → IsBacked effects backs (Some bytes) live
read_is_backed effects backs bytes live read backed = subst (λ r. IsBackedByRead backs r live) (sym read) backed

-- If the live side goes back to `new`, the loaded `bytes` are read as `new` with all its messages released.
pub back_is : ReadsAgain → (committed_record : CommittedBytes) (released : ℕ) (bytes : List ℕ) (old new : Side)
    → GoesBackTo committed_record released bytes true old new → one_side.read bytes ≡ Ok (whole new)
back_is again committed_record released bytes old new (encoded, is, of) =
    ap one_side.read (encoded ∙ ap (λ (k : CommittedBytes). k.bytes) is.1)
    ∙ ap (map_ok whole) (again new is.0)

-- If the live side goes back to `new`, `new` satisfies its rules, and the loaded `bytes` back it. All its messages are
-- released. `encoded` says that `bytes` are those of `committed_record`, and `is` that this is the record of `new`.
pub back_rules : ReadsAgain → (committed_record : CommittedBytes) (released : ℕ) (bytes : List ℕ) (old new : Side)
    → GoesBackTo committed_record released bytes true old new
    → Rules committed_record new released × IsBacked one_side OneBacks (Some bytes) (entry new released)
    × (entry new released ≡ whole new)
back_rules again committed_record released bytes old new (encoded, is, of) = (
  (omega (arith, of.all), keeps_whole committed_record new released is of.all),
  subst (λ b. IsBacked one_side OneBacks (Some b) (entry new released))
      (sym (encoded ∙ ap (λ (k : CommittedBytes). k.bytes) is.1))
      (read_is_backed one_side OneBacks (record_encoding new) (entry new released)
      (ap (map_ok whole) (again new is.0) ∙ ap (λ n. Ok (entry new n)) (sym of.all))
      (itself_backs new released is.0.0 (omega (arith, of.all)))),
  ap (entry new) of.all,
)

-- A fault of decoding remains if the decoded value is mapped.
pub map_decodes : {V L : Type 0} (f : V → L) (read : Result V RecordFault) (begins : Bool) (fault : RecordFault)
    → Decodes read begins (Err fault) → Decodes (map_ok f read) begins (Err fault)
map_decodes f read begins records.OutOfMemory decodes = decodes
map_decodes f read begins records.Short decodes = ap (map_ok f) decodes
map_decodes f read begins (records.Bad at) decodes = ap (map_ok f) decodes
map_decodes f read begins records.Inconsistent decodes = ap (map_ok f) decodes
map_decodes f read begins records.Digest decodes = ap (map_ok f) decodes

-- If decoding `bytes` gives `fault`, a read of the record may answer with `of_record fault`, as `ReadsRecord` says.
pub fault_reads : {L K : Type 0} (effects : Effects L K) (bytes : List ℕ) (fault : RecordFault)
    → Decodes (effects.read bytes) (effects.begins bytes) (Err fault) → ReadsRecord effects bytes (Err (of_record fault))
fault_reads effects bytes records.OutOfMemory decodes = tt
fault_reads effects bytes records.Short decodes = decodes
fault_reads effects bytes (records.Bad at) decodes = decodes
fault_reads effects bytes records.Inconsistent decodes = decodes
fault_reads effects bytes records.Digest decodes = decodes

-- A fault of decoding one side is a fault that reading a record without a digest can have.
pub record_faults : (bytes : List ℕ) (begins : Bool) (fault : RecordFault) → Decodes (record_at bytes) begins (Err fault)
    → IsReadFault false (of_record fault)
record_faults bytes begins records.OutOfMemory decodes = tt
record_faults bytes begins records.Short decodes = tt
record_faults bytes begins (records.Bad at) decodes = tt
record_faults bytes begins records.Inconsistent decodes = tt
record_faults bytes begins records.Digest decodes = absurd (no_digest bytes decodes)

-- Each fault of decoding is a fault that reading a record with a digest can have.
pub records_faults : (fault : RecordFault) → IsReadFault true (of_record fault)
records_faults records.OutOfMemory = tt
records_faults records.Short = tt
records_faults (records.Bad at) = tt
records_faults records.Inconsistent = tt
records_faults records.Digest = refl

-- If a plan allows a call to answer a value, it allows the call to be done.
allows_done : {X : Type 0} (plan : Option NextCall) (value : X) → Allows plan (Ok value) → Allows {X = Unit {0}} plan (Ok tt)
allows_done None value allows = tt
allows_done (Some plans.Works) value allows = tt
allows_done (Some plans.FailsOld) value allows = allows
allows_done (Some plans.FailsNew) value allows = allows

-- If the committed bytes back the live sides, reading them gives no fault of the record.
no_fault : {L : Type 0} (backs : L → L → Type 0) (read : Result L RecordFault) (begins : Bool) (live : L) (has_digest : Bool)
    (fault : RecordFault)
    → IsBackedByRead backs read live → Decodes read begins (Err fault) → IsReadFault has_digest (faults.Saved fault) → ⊥
no_fault backs (Ok committed) begins live has_digest records.OutOfMemory backed decodes is = is
no_fault backs (Ok committed) begins live has_digest records.Short backed decodes is = search rules
no_fault backs (Ok committed) begins live has_digest (records.Bad at) backed decodes is = search rules
no_fault backs (Ok committed) begins live has_digest records.Inconsistent backed decodes is = search rules
no_fault backs (Ok committed) begins live has_digest records.Digest backed decodes is = search rules
no_fault backs (Err other) begins live has_digest fault backed decodes is = backed

-- If the loaded bytes back the live sides, going back to them is a restart.
restarts_so : {L K : Type 0} (effects : Effects L K) (backs : L → L → Type 0) (bytes : Option (List ℕ)) (plan : Option NextCall)
    (old new : L) (answer : Result (Unit {0}) DeskFault)
    → Allows {X = Unit {0}} plan (Ok tt) → IsBacked effects backs bytes old → GoesBackToCommitted effects bytes old answer new
    → IfErr answer (IsReadFault effects.has_digest) → Restarts (committed_live effects bytes old) plan answer new
restarts_so effects backs bytes plan old new (Ok done) allows backed goes is = (goes, allows)
restarts_so effects backs (Some bytes) plan old new (Err (faults.Saved fault)) allows backed goes is =
    absurd (no_fault backs (effects.read bytes) (effects.begins bytes) old effects.has_digest fault backed goes.0 is)
restarts_so effects backs (Some bytes) plan old new (Err faults.OutOfMemory) allows backed goes is = tt
restarts_so effects backs bytes plan old new (Err other) allows backed goes is = absurd goes

-- If a correct store backs the live sides, going back to the bytes that it loads is a restart.
pub restarts_to : {L K X : Type 0} (effects : Effects L K) (backs : L → L → Type 0) {bytes_of : X → List ℕ}
    {before after : StoreState} {found : Option X} (old new : L) (answer : Result (Unit {0}) DeskFault)
    → StoreLoads bytes_of before (Ok found) after
    → (before.is_correct ≡ true → IsBacked effects backs before.committed old)
    → GoesBackToCommitted effects (option_map bytes_of found) old answer new → IfErr answer (IsReadFault effects.has_digest)
    → before.is_correct ≡ true → Restarts (committed_live effects before.committed old) before.plan answer new
restarts_to effects backs {bytes_of} {before} {after} {found} old new answer store backed goes is correct =
    subst (λ o. IsBacked effects backs o old → Restarts (committed_live effects o old) before.plan answer new)
    (store.loaded correct)
    (λ backs_old. restarts_so effects backs (option_map bytes_of found) before.plan old new answer
    (allows_done before.plan found (store.planned correct)) backs_old goes is) (backed correct)

-- ---- sending

-- If the encodings of issued APDUs have `bytes` at index `n`, `bytes` are the encoding of APDU `n`, which is in range.
message_stays : (issued more : List Apdu) (n : ℕ) (bytes : List ℕ) → Each IsApdu issued
    → slice_get (map encoding issued) n ≡ Some bytes
    → (a : Apdu) × (slice_get (issued ++ more) n ≡ Some a) × IsApdu a × (bytes ≡ encoding a)
unfolding Each
message_stays [] more n bytes are e = absurd cc
message_stays (a ∷ issued) more zero bytes are e = (a, refl, are.0, cc)
message_stays (a ∷ issued) more (suc n) bytes are e = message_stays issued more n bytes are.1 e

-- If the committed record has `bytes` as message `number`, they encode message `number` of the live side. A desk
-- without a committed record has no such message (`inl`). Otherwise the committed messages are a prefix of the live
-- ones (`inr`).
pub message_released : (committed_record : CommittedBytes) (live : Side) (released number : ℕ) (bytes : List ℕ)
    → HoldsReleased committed_record live released → 1 ≤ number → slice_get committed_record.pieces (number - 1) ≡ Some bytes
    → (a : Apdu) × (message (issued_of live) number ≡ Some a) × IsApdu a × (bytes ≡ encoding a)
message_released committed_record live released zero bytes keeps first e = absurd (omega (arith, first))
message_released committed_record live released (suc n) bytes (inl none) first e =
    absurd (subst (λ (k : CommittedBytes). slice_get k.pieces (suc n - 1) ≡ Some bytes → ⊥) (sym none.0) (λ found. cc) e)
message_released committed_record live released (suc n) bytes (inr (side, is, of)) first e =
    let at : suc n - 1 ≡ n = omega arith in
    let piece : slice_get (map encoding (issued_of side)) n ≡ Some bytes =
    ap (slice_get (map encoding (issued_of side))) (sym at)
    ∙ subst (λ (k : CommittedBytes). slice_get k.pieces (suc n - 1) ≡ Some bytes) is.1 e in
    let found = message_stays (issued_of side) of.prefix.0 n bytes is.0.1.issued piece in
    (found.0, subst (λ apdus. slice_get apdus n ≡ Some found.0) (sym of.prefix.1) found.1, found.2, found.3)

-- If a released message is taken from the committed record, the answer with its bytes is as `Sends` says.
pub sends_released : {X : Type 0} (view : X → List ℕ) (value : X) (committed_record : CommittedBytes) (live : Side)
    (released number : ℕ) (bytes : List ℕ)
    → HoldsReleased committed_record live released → 1 ≤ number → number ≤ released
    → slice_get committed_record.pieces (number - 1) ≡ Some bytes → view value ≡ bytes
    → Sends view (message (issued_of live) number) (nat_le number released) (Ok value)
sends_released view value committed_record live released number bytes keeps first few e are =
    let found = message_released committed_record live released number bytes keeps first e in
    subst (λ m. Sends view m (nat_le number released) (Ok value)) (sym found.1)
    (subst (λ b. Sends view (Some found.0) b (Ok value)) (sym (le-leb number released few)) (found.2, are ∙ found.3))
