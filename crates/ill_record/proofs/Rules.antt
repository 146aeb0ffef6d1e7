-- Single rules of a consistent record, one that satisfies all rules of its role.
use Rattle.std.proofs.Common.{◌≡◌, Bool, true, false, not, ◌&&◌, [], ◌∷◌, is_some}
use Rattle.std.specs.List.{list_all, filter_map}
use Rattle.std.proofs.lemmas.Bool.{and_parts, not-true}
use Rattle.ill_core.specs.declared.state.State.TheVariants.{Idle, Pending, InProcess, CancelPending, Cancelled, Received}
use Rattle.ill_core.specs.declared.state.State.TheVariants.{RenewPending, RenewOverdue, NotReceivedOverdue, CheckedIn}
use Rattle.ill_core.specs.State.{is_among}
use Rattle.ill_core.specs.Rules.{implies, are_alike}
use Rattle.ill_values.specs.Bodies.{is_requesters}
use Rattle.ill_core.specs.Issued.{are_numbered, is_none, granted_day}
use Rattle.ill_core.specs.Requester as requester
use Rattle.ill_core.specs.Responder as responder
use Rattle.ill_core.specs.Requester.{RequesterRecord, IsRequester, begins_with_request}
use Rattle.ill_core.specs.Responder.{ResponderRecord, IsResponder, is_request_of, is_named, are_rising, ships_first, later}

-- Returns true if the parts of a requester fit its state.
abbrev requester_parts : RequesterRecord → Bool
requester_parts x = requester.parts_fit x.state (is_some x.held) (is_some x.due) x.checked_in

-- A consistent requester is not in IN-PROCESS or CHECKED-IN.
pub requester_state : (x : RequesterRecord) → IsRequester x → is_among (InProcess ∷ CheckedIn ∷ []) x.state ≡ false
unfolding requester.is_consistent
requester_state x is = not-true _ (and_parts _ _ (and_parts _ _ (and_parts _ _ is).1).0).0

-- The first APDU of a consistent requester, if it has issued one, is an ILL-Request, and no other is.
-- `committed_record` is the test of the issued APDUs, and `begins` its last part. `fits`, `types` and `request` split
-- the rules of a consistent record, one after another.
pub requester_request : (x : RequesterRecord) → IsRequester x → begins_with_request x.issued ≡ true
unfolding requester.is_consistent
requester_request x is =
    let committed_record = requester.issued_keeps_rules x.state x.issued in
    let fits = and_parts (are_numbered x.txn 1 x.issued) (requester_parts x && committed_record) is in
    let types = and_parts (requester_parts x) committed_record fits.1 in
    let begins = begins_with_request x.issued && requester.issued_fits x.state x.issued in
    let request = and_parts (list_all (λ a. is_requesters a.body) x.issued) begins types.1 in
    (and_parts (begins_with_request x.issued) (requester.issued_fits x.state x.issued) request.1).0

-- Returns true if the parts of a responder fit its state.
abbrev responder_parts : ResponderRecord → Bool
responder_parts y =
    responder.parts_fit y.state (is_some y.request) (is_some y.accepted) (is_some y.last_cancel) (is_some y.last_renew) y.received
    (is_none y.issued)

-- Returns true if the issued APDUs of a responder keep its rules.
abbrev responder_issued : ResponderRecord → Bool
responder_issued y = responder.issued_keeps_rules y.state y.accepted y.issued

-- If a responder is consistent, its request, its parts and its issued APDUs keep their rules. `rest`, `asked` and
-- `both` split the rules of a consistent record, one after another.
each_part : (y : ResponderRecord) → IsResponder y
    → (is_request_of y.txn y.request ≡ true) × (responder_parts y ≡ true) × (responder_issued y ≡ true)
unfolding responder.is_consistent
each_part y is =
    let rest = and_parts (are_numbered y.txn 1 y.issued)
    (is_request_of y.txn y.request && (responder_parts y && responder_issued y)) is in
    let asked = and_parts (is_request_of y.txn y.request) (responder_parts y && responder_issued y) rest.1 in
    let both = and_parts (responder_parts y) (responder_issued y) asked.1 in
    (asked.0, both.0, both.1)

-- The request of a consistent responder, if it has one, is an ILL-Request of its transaction.
pub responder_request : (y : ResponderRecord) → IsResponder y → is_request_of y.txn y.request ≡ true
responder_request y is = (each_part y is).0

-- Returns true if the numbers and the mark of a responder fit its state.
abbrev marks_fit : ResponderRecord → Bool
marks_fit y =
    responder.idle_fits y.state (is_some y.accepted) (is_some y.last_cancel) (is_some y.last_renew) y.received (is_none y.issued)
    && (implies y.received (is_among later y.state)
    && (implies (is_among (CancelPending ∷ Cancelled ∷ []) y.state) (is_some y.last_cancel)
    && implies (is_among (RenewPending ∷ RenewOverdue ∷ []) y.state) (is_some y.last_renew)))

-- Returns true if a responder has a request exactly if it is not in IDLE.
abbrev is_asked : ResponderRecord → Bool
is_asked y = are_alike (is_some y.request) (not (is_among (Idle ∷ []) y.state))

-- Returns true if the state is a responder's: not PENDING, RECEIVED or NOT-RECEIVED/OVERDUE.
abbrev has_state : ResponderRecord → Bool
has_state y = not (is_among (Pending ∷ Received ∷ NotReceivedOverdue ∷ []) y.state)

-- A consistent responder is not in PENDING, RECEIVED or NOT-RECEIVED/OVERDUE.
pub responder_state : (y : ResponderRecord) → IsResponder y
    → is_among (Pending ∷ Received ∷ NotReceivedOverdue ∷ []) y.state ≡ false
responder_state y is = not-true _ (and_parts (has_state y) (is_asked y && marks_fit y) (each_part y is).1).0

-- If `are_alike` is true for two truth values, they are equal.
alike : (a b : Bool) → are_alike a b ≡ true → a ≡ b
alike a true is = is
alike a false is = not-true a is

-- A consistent responder has a request exactly if it is not in IDLE.
pub responder_asked : (y : ResponderRecord) → IsResponder y → is_some y.request ≡ not (is_among (Idle ∷ []) y.state)
responder_asked y is =
    let asked = and_parts (has_state y) (is_asked y && marks_fit y) (each_part y is).1 in
    alike (is_some y.request) (not (is_among (Idle ∷ []) y.state)) (and_parts (is_asked y) (marks_fit y) asked.1).0

-- A consistent responder has issued no APDU of a requester's type.
pub responder_types : (y : ResponderRecord) → IsResponder y → list_all (λ a. not (is_requesters a.body)) y.issued ≡ true
responder_types y is =
    let dates = are_rising (filter_map granted_day y.issued) && ships_first y.issued in
    let fits = responder.issued_fits y.state y.issued && (is_named y.accepted y.issued && dates) in
    (and_parts (list_all (λ a. not (is_requesters a.body)) y.issued) fits (each_part y is).2).0
