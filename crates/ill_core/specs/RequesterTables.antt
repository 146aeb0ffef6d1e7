-- Defines the guards and the changes of the rows in a requester's tables (this profile's own).
use Rattle.std.specs.Prelude.{ℕ, Bool, false, not, ◌||◌, ◌==◌, List, [], ◌∷◌, ◌++◌, Option, Some, None, if◌then◌else◌}
use Rattle.std.specs.List.{filter, find}
use Rattle.std.specs.Option.{unwrap_or}
use Rattle.ill_values.specs.Day.{Date}
use Rattle.ill_values.specs.declared.apdu.Apdu.{Apdu}
use Rattle.ill_values.specs.Body.{Body}
use Rattle.ill_values.specs.declared.apdu.BodyWith.TheVariants as types
use Rattle.ill_core.specs.declared.kind.ResponderKind.{ResponderKind}
use Rattle.ill_core.specs.declared.kind.RequesterKind.{RequesterKind}
use Rattle.ill_core.specs.declared.table.Row.{Row}
use Rattle.ill_core.specs.declared.requester.standing.TheConstants.{HOLDS, FREES, DUE, MARK}
use Rattle.ill_core.specs.declared.requester.deliveries.TheConstants as delivery
use Rattle.ill_core.specs.declared.requester.actions.TheConstants as wish
use Rattle.ill_core.specs.declared.requester.Wish.{Wish}
use Rattle.ill_core.specs.declared.requester.Wish.TheVariants as wishes
use Rattle.ill_values.specs.Bodies.{is_cancel, is_renew}
use Rattle.ill_core.specs.Dates.{is_due_on, is_after_due}
use Rattle.ill_core.specs.Numbers.{is_equal_number, is_at_most}
use Rattle.ill_core.specs.Issued.{is_message_with}
use Rattle.ill_core.specs.Kinds.{responder_kind, responder_place, requester_place, wish_kind, number_in}
use Rattle.ill_values.specs.Bodies.{date_in}
use Rattle.ill_core.specs.Tables.{Guard, has_common_bit, next_state, fits}
use Rattle.ill_core.specs.Requester.{RequesterRecord, accepted_number, is_declined, is_received_by, last_cancel, last_renew}

-- Returns the held conditions after a row with `changes` is followed for message `k`: `k`, none, or those held before.
abbrev pub held_after : ℕ → Option ℕ → ℕ → Option ℕ
held_after changes held k = if has_common_bit changes HOLDS then Some k else (if has_common_bit changes FREES then None else held)

-- Returns the due date after a row with `changes` is followed: `date` if `changes` has `DUE`, and else `due`.
abbrev pub due_after : ℕ → Option Date → Option Date → Option Date
due_after changes due date = if has_common_bit changes DUE then date else due

-- Returns the record after a row is followed for message `k` with `date`. `row.3` is the effect of the row, and `row.4`
-- are its changes.
abbrev pub after : {K : Type 0} → RequesterRecord → Row K → ℕ → Option Date → RequesterRecord
after x row k date =
    record x {
      state = next_state row.3 x.state;
      held = held_after row.4 x.held k;
      checked_in = has_common_bit row.4 MARK || x.checked_in;
      due = due_after row.4 x.due date;
    }

-- Returns true if there is a day, and `f` holds of it.
abbrev pub is_dated : (Date → Bool) → Option Date → Bool
is_dated f None = false
is_dated f (Some d) = f d

-- Returns two guards on the conditions of message `k`. One is that `k` is at most the accepted number, the other that
-- `k` is held.
abbrev pub number_guards : RequesterRecord → ℕ → List Guard
number_guards x k =
    record { bit = delivery.PASSED; holds = is_at_most k (accepted_number x) }
    ∷ record { bit = delivery.HELD; holds = is_equal_number k x.held } ∷ []

-- Returns two guards on an answer to message `c`. One is that `c` is the last Cancel, the other that `c` is any Cancel.
abbrev pub cancel_guards : RequesterRecord → ℕ → List Guard
cancel_guards x c =
    record { bit = delivery.LAST_CANCEL; holds = is_equal_number c (last_cancel x) }
    ∷ record { bit = delivery.WAS_CANCEL; holds = is_message_with is_cancel x.issued c } ∷ []

-- Returns two guards on an answer to message `c`. One is that `c` is the last Renew, the other that `c` is any Renew.
abbrev pub renew_guards : RequesterRecord → ℕ → List Guard
renew_guards x c =
    record { bit = delivery.LAST_RENEW; holds = is_equal_number c (last_renew x) }
    ∷ record { bit = delivery.WAS_RENEW; holds = is_message_with is_renew x.issued c } ∷ []

-- Returns three guards. Two are on `date`: it is not the due date, and it is after the due date. The third is that the
-- checked-in mark is not set.
abbrev pub due_guards : RequesterRecord → Option Date → List Guard
due_guards x date =
    record { bit = delivery.NOT_DUE; holds = not (is_dated (λ d. is_due_on d x.due) date) }
    ∷ record { bit = delivery.LATER; holds = is_dated (λ d. is_after_due d x.due) date }
    ∷ record { bit = delivery.UNMARKED; holds = not x.checked_in } ∷ []

-- Returns all guards that rows of deliveries may ask for, for a message with number `k` and `date`.
abbrev pub delivery_guards : RequesterRecord → ℕ → Option Date → List Guard
delivery_guards x k date =
    number_guards x k ++ (cancel_guards x k ++ (renew_guards x k ++ due_guards x date))

-- Returns the rows of deliveries of a kind, in the order of the table.
abbrev pub delivery_rows : ResponderKind → List (Row ResponderKind)
delivery_rows kind = filter (λ r. responder_place r.0 == responder_place kind) delivery.ROWS

-- Returns the first row of the kind that fits an APDU. It is `None` without a kind or a row.
abbrev pub delivery_row_of : RequesterRecord → Apdu → Body → Option ResponderKind →
    Option (Row ResponderKind)
delivery_row_of x a body None = None
delivery_row_of x a body (Some kind) =
    find (fits x.state (delivery_guards x (number_in a body) (date_in body))) (delivery_rows kind)

-- Returns the first row of deliveries that fits an APDU, or `None`.
abbrev pub delivery_row : RequesterRecord → Apdu → Option (Row ResponderKind)
delivery_row x a = delivery_row_of x a a.body (responder_kind a.body)

-- Returns the body of the APDU that a wish issues.
abbrev pub wish_body : RequesterRecord → Wish → Body
wish_body x (wishes.Request expiry item) = types.IllRequest expiry item
wish_body x wishes.Cancel = types.Cancel
wish_body x (wishes.Reply is_yes) = types.ConditionalReply (unwrap_or x.held 0) is_yes
wish_body x wishes.Receive = types.Received
wish_body x (wishes.Renew wished) = types.Renew wished
wish_body x wishes.Return = types.Returned

-- Returns the three guards for which rows of wishes may ask. They are that no conditions were declined, that no
-- Received was issued, and that a Received was issued.
abbrev pub wish_guards : RequesterRecord → List Guard
wish_guards x =
    record { bit = wish.UNDECLINED; holds = not (is_declined x) }
    ∷ record { bit = wish.NOT_HERE; holds = not (is_received_by x) }
    ∷ record { bit = wish.IS_HERE; holds = is_received_by x } ∷ []

-- Returns the rows of wishes of a kind, in the order of the table.
abbrev pub wish_rows : RequesterKind → List (Row RequesterKind)
wish_rows kind = filter (λ r. requester_place r.0 == requester_place kind) wish.ROWS

-- Returns the first row of wishes that fits wish `w`, or `None`.
abbrev pub wish_row : RequesterRecord → Wish → Option (Row RequesterKind)
wish_row x w = find (fits x.state (wish_guards x)) (wish_rows (wish_kind w))
