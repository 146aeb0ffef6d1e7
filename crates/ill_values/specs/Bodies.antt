-- Tests the type and the fields of an APDU, and returns dates and numbers in them (this profile's own).
use Rattle.std.specs.Prelude.{ℕ, Bool, true, false, ◌||◌, Option, Some, None}
use Rattle.ill_values.specs.Body.{Body}
use Rattle.ill_values.specs.declared.apdu.BodyWith.TheVariants.{IllRequest, IllAnswer, ConditionalReply, Cancel, CancelReply}
use Rattle.ill_values.specs.declared.apdu.BodyWith.TheVariants.{Shipped, Overdue, Received, Returned, CheckedIn, Renew}
use Rattle.ill_values.specs.declared.apdu.BodyWith.TheVariants.{RenewAnswer, Expired}
use Rattle.ill_values.specs.declared.apdu.AnswerResult.{AnswerResult}
use Rattle.ill_values.specs.declared.apdu.AnswerResult.TheVariants.{Conditional, WillSupply, HoldPlaced}
use Rattle.ill_values.specs.Day.{Date}

-- Returns true if the APDU is an ILL-Request.
abbrev pub is_ill_request : Body → Bool
is_ill_request (IllRequest expiry item) = true
is_ill_request other = false

-- Returns true if the APDU is a Cancel.
abbrev pub is_cancel : Body → Bool
is_cancel Cancel = true
is_cancel other = false

-- Returns true if the APDU is a Received.
abbrev pub is_received : Body → Bool
is_received Received = true
is_received other = false

-- Returns true if the APDU is a Renew.
abbrev pub is_renew : Body → Bool
is_renew (Renew wished) = true
is_renew other = false

-- Returns true if the APDU is a Returned.
abbrev pub is_returned : Body → Bool
is_returned Returned = true
is_returned other = false

-- Returns true if the APDU is a Shipped.
abbrev pub is_shipped : Body → Bool
is_shipped (Shipped due) = true
is_shipped other = false

-- Returns true if the APDU is a Checked-In.
abbrev pub is_checked_in : Body → Bool
is_checked_in CheckedIn = true
is_checked_in other = false

-- Returns true if the APDU is an ILL-Answer conditional.
abbrev pub names_conditions : Body → Bool
names_conditions (IllAnswer Conditional) = true
names_conditions other = false

-- Returns true if an ILL-Answer with this result ends the request.
abbrev pub is_final : AnswerResult → Bool
is_final Conditional = false
is_final WillSupply = false
is_final HoldPlaced = false
is_final other = true

-- Returns true if the APDU ends the request without the item: a final ILL-Answer, or an Expired.
abbrev pub is_unsupplied : Body → Bool
is_unsupplied (IllAnswer answer) = is_final answer
is_unsupplied Expired = true
is_unsupplied other = false

-- Returns true if the APDU is a Cancel-Reply yes, which ends the request.
abbrev pub is_cancelled : Body → Bool
is_cancelled (CancelReply c true) = true
is_cancelled other = false

-- Returns true if the APDU ends the request: not supplied, cancelled or shipped.
abbrev pub is_end : Body → Bool
is_end body = is_unsupplied body || (is_cancelled body || is_shipped body)

-- Returns true if the APDU is a Renew-Answer yes.
abbrev pub is_renewal : Body → Bool
is_renewal (RenewAnswer answers (Some due)) = true
is_renewal other = false

-- Returns the due date that a Shipped or a Renew-Answer yes grants, and `None` for any other APDU.
abbrev pub grant_in : Body → Option Date
grant_in (Shipped due) = Some due
grant_in (RenewAnswer answers due) = due
grant_in other = None

-- Returns the due date that a Shipped, an Overdue or a Renew-Answer yes states, and `None` for any other APDU.
abbrev pub date_in : Body → Option Date
date_in (Shipped due) = Some due
date_in (Overdue due) = Some due
date_in (RenewAnswer answers granted) = granted
date_in other = None

-- Returns true if the APDU is a Conditional-Reply no.
abbrev pub declines : Body → Bool
declines (ConditionalReply answers false) = true
declines other = false

-- Returns the number of the ILL-Answer conditional that a Conditional-Reply yes accepts, and `None` for any other APDU.
abbrev pub accepts : Body → Option ℕ
accepts (ConditionalReply answers true) = Some answers
accepts other = None

-- Returns true if a requester issues APDUs of this type. A responder issues the others.
abbrev pub is_requesters : Body → Bool
is_requesters (IllRequest expiry item) = true
is_requesters (ConditionalReply answers is_yes) = true
is_requesters Cancel = true
is_requesters Received = true
is_requesters (Renew wished) = true
is_requesters Returned = true
is_requesters other = false
