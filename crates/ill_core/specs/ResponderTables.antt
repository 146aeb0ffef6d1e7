-- Defines the guards and the changes of the rows in a responder's tables (this profile's own).
use Rattle.std.specs.Prelude.{◌≡◌, ℕ, Bool, true, false, not, ◌||◌, ◌==◌, List, [], ◌∷◌, ◌++◌, Option, Some, None, IsSome, Result}
use Rattle.std.specs.Prelude.{Ok, Err, if◌then◌else◌}
use Rattle.std.specs.List.{filter, find}
use Rattle.std.specs.Option.{unwrap_or}
use Rattle.ill_values.specs.Day.{Date}
use Rattle.ill_values.specs.TxnId.{Qualifiers}
use Rattle.ill_values.specs.declared.apdu.Apdu.{Apdu}
use Rattle.ill_values.specs.Body.{Body}
use Rattle.ill_values.specs.declared.apdu.BodyWith.TheVariants as types
use Rattle.ill_values.specs.declared.apdu.AnswerResult.TheVariants.{Unfilled}
use Rattle.ill_core.specs.declared.kind.RequesterKind.{RequesterKind}
use Rattle.ill_core.specs.declared.kind.ResponderKind.{ResponderKind}
use Rattle.ill_core.specs.declared.state.State.{State}
use Rattle.ill_core.specs.declared.refusal.Refusal.{Refusal}
use Rattle.ill_core.specs.declared.refusal.Refusal.TheVariants as refusals
use Rattle.ill_core.specs.declared.responder.Deed.{Deed}
use Rattle.ill_core.specs.declared.responder.Deed.TheVariants as deeds
use Rattle.ill_core.specs.declared.table.Row.{Row}
use Rattle.ill_core.specs.declared.responder.standing.TheConstants.{ACCEPTS, CANCELS, RENEWS, RECEIVES, KEEPS, ENDS}
use Rattle.ill_core.specs.declared.responder.actions.TheConstants as action
use Rattle.ill_core.specs.declared.responder.deliveries.TheConstants as delivery
use Rattle.ill_values.specs.Bodies.{names_conditions}
use Rattle.ill_core.specs.Dates.{is_before, is_after_due}
use Rattle.ill_core.specs.Numbers.{is_equal_number, is_at_most}
use Rattle.ill_core.specs.Issued.{is_message_with, next_number, with_next}
use Rattle.ill_core.specs.Kinds.{requester_kind, requester_place, responder_place, deed_kind, number_in}
use Rattle.ill_core.specs.Tables.{Guard, has_common_bit, next_state, fits}
use Rattle.ill_core.specs.Responder.{ResponderRecord, outstanding_number, due_of}
use Rattle.ill_core.specs.ResponderActions.{no_date, expiry_of}

-- Returns `k` if `changes` has `bit`, and else the number before, `last`.
abbrev pub number_after : ℕ → ℕ → Option ℕ → ℕ → Option ℕ
number_after bit changes last k = if has_common_bit changes bit then Some k else last

-- Returns record `y` after `row` is followed for message `k`. The request and the list are still those of `y`. `row.3`
-- is the effect of the row, and `row.4` are its changes.
abbrev pub after : {K : Type 0} → ResponderRecord → Row K → ℕ → ResponderRecord
after y row k =
    record y {
      state = next_state row.3 y.state;
      accepted = number_after ACCEPTS row.4 y.accepted k;
      last_cancel = number_after CANCELS row.4 y.last_cancel k;
      last_renew = number_after RENEWS row.4 y.last_renew k;
      received = has_common_bit row.4 RECEIVES || y.received;
    }

-- Returns the request after a row with `changes` is followed for APDU `a`. A row that ends the request does not change
-- it.
abbrev pub request_after : ℕ → Option Apdu → Apdu → Option Apdu
request_after changes request a =
    if has_common_bit changes ENDS then request else (if has_common_bit changes KEEPS then Some a else request)

-- Returns the list after a row with `changes` is followed. A row that ends the request issues an ILL-Answer unfilled.
abbrev pub issued_after : ℕ → Qualifiers → List Apdu → List Apdu
issued_after changes txn issued =
    if has_common_bit changes ENDS then with_next txn issued (types.IllAnswer Unfilled) else issued

-- Returns the record after `row` is followed for APDU `a`, which has number `k` for the row. `row.4` are the changes of
-- the row.
abbrev pub after_delivery : ResponderRecord → Apdu → Row RequesterKind → ℕ → ResponderRecord
after_delivery y a row k =
    record (after y row k) {
      request = request_after row.4 y.request a;
      issued = issued_after row.4 y.txn y.issued;
    }

-- Returns the refusal if no number is left, and else `None`.
abbrev pub refusal_of : Result ℕ Refusal → Option Refusal
refusal_of (Ok number) = None
refusal_of (Err refusal) = Some refusal

-- Returns the refusal `NumbersUsed` if the row issues a message and no number is left, and else `None`.
abbrev pub number_refusal : ℕ → List Apdu → Option Refusal
number_refusal changes issued = if has_common_bit changes ENDS then refusal_of (next_number issued) else None

-- Returns true if a row with `changes` takes memory: it keeps a request, or issues a message.
abbrev pub is_row_with_memory : ℕ → Bool
is_row_with_memory changes = has_common_bit changes KEEPS || has_common_bit changes ENDS

-- A row with `changes` may be refused with this refusal. It is `NumbersUsed` if the row issues a message and no number
-- is left. It is `OutOfMemory` if the row takes memory and no number is lacking.
abbrev pub IsRefused : ℕ → List Apdu → Refusal → Type 0
IsRefused changes issued refusals.OutOfMemory =
    (is_row_with_memory changes ≡ true) × (number_refusal changes issued ≡ None)
IsRefused changes issued refusal = number_refusal changes issued ≡ Some refusal

-- Returns the guards on an answer to message `c`: `c` is outstanding, `c` is accepted, `c` named conditions.
abbrev pub reply_guards : ResponderRecord → ℕ → List Guard
reply_guards y c =
    record { bit = delivery.OUTSTANDING; holds = is_equal_number c (outstanding_number y) }
    ∷ record { bit = delivery.ACCEPTED; holds = is_equal_number c y.accepted }
    ∷ record { bit = delivery.WAS_CONDITIONAL; holds = is_message_with names_conditions y.issued c } ∷ []

-- Returns three guards on a message with number `n`. Two are that `n` is at most the last Cancel, and at most the last
-- Renew. The third is that the received mark is not set.
abbrev pub past_guards : ResponderRecord → ℕ → List Guard
past_guards y n =
    record { bit = delivery.PAST_CANCEL; holds = is_at_most n y.last_cancel }
    ∷ record { bit = delivery.PAST_RENEW; holds = is_at_most n y.last_renew }
    ∷ record { bit = delivery.UNMARKED; holds = not y.received } ∷ []

-- Returns all guards that rows of deliveries may ask for, for a message with number `k`.
abbrev pub delivery_guards : ResponderRecord → ℕ → List Guard
delivery_guards y k = reply_guards y k ++ past_guards y k

-- Returns the rows of deliveries of a kind, in the order of the table.
abbrev pub delivery_rows : RequesterKind → List (Row RequesterKind)
delivery_rows kind = filter (λ r. requester_place r.0 == requester_place kind) delivery.ROWS

-- Returns the first row of the kind that fits an APDU. It is `None` without a kind or a row.
abbrev pub delivery_row_of : ResponderRecord → Apdu → Body → Option RequesterKind →
    Option (Row RequesterKind)
delivery_row_of y a body None = None
delivery_row_of y a body (Some kind) =
    find (fits y.state (delivery_guards y (number_in a body))) (delivery_rows kind)

-- Returns the first row of deliveries that fits an APDU, or `None`.
abbrev pub delivery_row : ResponderRecord → Apdu → Option (Row RequesterKind)
delivery_row y a = delivery_row_of y a a.body (requester_kind a.body)

-- Returns the rows of deeds of a kind, in the order of the table.
abbrev pub deed_rows : ResponderKind → List (Row ResponderKind)
deed_rows kind = filter (λ r. responder_place r.0 == responder_place kind) action.ROWS

-- Returns the first row of deeds that fits `state` and `deed`, or `None`. It asks for no guards.
abbrev pub deed_row : State → Deed → Option (Row ResponderKind)
deed_row state deed = find (fits state []) (deed_rows (deed_kind deed))

-- Returns `Ok` if the test is true, and else `refusal`.
abbrev pub check : Bool → Refusal → Result Unit Refusal
check true refusal = Ok tt
check false refusal = Err refusal

-- Returns `Ok` if the dates allow a deed on the day `today`, and else the refusal of its date.
abbrev pub check_date : ResponderRecord → Deed → Date → Result Unit Refusal
check_date y (deeds.Ship due) today = check (not (is_before due today)) refusals.DateEarlier
check_date y (deeds.RenewAnswer (Some d)) today =
    check (is_after_due d (due_of y)) refusals.DateNotLater
check_date y deeds.Overdue today = check (is_after_due today (due_of y)) refusals.NotDue
check_date y deeds.Expire today =
    check (is_after_due today (expiry_of y.request)) refusals.NotExpired
check_date y other today = Ok tt

-- Returns the body of the APDU that a deed issues.
abbrev pub deed_body : ResponderRecord → Deed → Body
deed_body y (deeds.Answer answer) = types.IllAnswer answer
deed_body y (deeds.CancelReply is_yes) = types.CancelReply (unwrap_or y.last_cancel 0) is_yes
deed_body y (deeds.Ship due) = types.Shipped due
deed_body y (deeds.RenewAnswer granted) = types.RenewAnswer (unwrap_or y.last_renew 0) granted
deed_body y deeds.Overdue = types.Overdue (unwrap_or (due_of y) no_date)
deed_body y deeds.Recall = types.Recall
deed_body y deeds.CheckIn = types.CheckedIn
deed_body y deeds.Expire = types.Expired

-- The record has the number or the date that the APDU of the deed needs.
abbrev pub HasValueFor : ResponderRecord → Deed → Type 0
HasValueFor y (deeds.CancelReply is_yes) = IsSome y.last_cancel
HasValueFor y (deeds.RenewAnswer granted) = IsSome y.last_renew
HasValueFor y deeds.Overdue = IsSome (due_of y)
HasValueFor y other = Unit

-- Returns the record after `row` is followed for a deed whose APDU has `number` and `body`.
abbrev pub after_deed : ResponderRecord → Row ResponderKind → ℕ → Body → ResponderRecord
after_deed y row number body =
    record (after y row number) { issued = with_next y.txn y.issued body }
