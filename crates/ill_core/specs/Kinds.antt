-- Defines the kinds of messages that the tables distinguish (this profile's own).
use Rattle.std.specs.Prelude.{ℕ, true, false, Option, Some, None}
use Rattle.ill_values.specs.declared.apdu.Apdu.{Apdu}
use Rattle.ill_values.specs.Body.{Body}
use Rattle.ill_values.specs.declared.apdu.BodyWith.TheVariants as types
use Rattle.ill_values.specs.declared.apdu.AnswerResult.{AnswerResult}
use Rattle.ill_values.specs.declared.apdu.AnswerResult.TheVariants.{Conditional, WillSupply, HoldPlaced}
use Rattle.ill_core.specs.declared.requester.Wish.{Wish}
use Rattle.ill_core.specs.declared.requester.Wish.TheVariants as wishes
use Rattle.ill_core.specs.declared.responder.Deed.{Deed}
use Rattle.ill_core.specs.declared.responder.Deed.TheVariants as deeds
use Rattle.ill_core.specs.declared.kind.RequesterKind.{RequesterKind}
use Rattle.ill_core.specs.declared.kind.RequesterKind.TheVariants as requester
use Rattle.ill_core.specs.declared.kind.ResponderKind.{ResponderKind}
use Rattle.ill_core.specs.declared.kind.ResponderKind.TheVariants as responder

-- Returns the number by which a row judges an APDU: the number that the APDU answers, or else its own.
abbrev pub number_in : Apdu → Body → ℕ
number_in a (types.ConditionalReply answers is_yes) = answers
number_in a (types.CancelReply answers is_yes) = answers
number_in a (types.RenewAnswer answers granted) = answers
number_in a other = a.number

-- Returns the index of a requester's kind in the order of `RequesterKind`, from 0.
abbrev pub requester_place : RequesterKind → ℕ
requester_place requester.Request = 0
requester_place requester.Yes = 1
requester_place requester.No = 2
requester_place requester.Cancel = 3
requester_place requester.Received = 4
requester_place requester.Renew = 5
requester_place requester.Returned = 6

-- Returns the index of a responder's kind in the order of `ResponderKind`, from 0.
abbrev pub responder_place : ResponderKind → ℕ
responder_place responder.Conditions = 0
responder_place responder.Promise = 1
responder_place responder.NoSupply = 2
responder_place responder.Expired = 3
responder_place responder.CancelYes = 4
responder_place responder.CancelNo = 5
responder_place responder.Shipped = 6
responder_place responder.Overdue = 7
responder_place responder.RenewYes = 8
responder_place responder.RenewNo = 9
responder_place responder.Recall = 10
responder_place responder.CheckedIn = 11

-- Returns the kind of a requester's message, or `None` for a responder's.
abbrev pub requester_kind : Body → Option RequesterKind
requester_kind (types.IllRequest expiry item) = Some requester.Request
requester_kind (types.ConditionalReply answers true) = Some requester.Yes
requester_kind (types.ConditionalReply answers false) = Some requester.No
requester_kind types.Cancel = Some requester.Cancel
requester_kind types.Received = Some requester.Received
requester_kind (types.Renew wished) = Some requester.Renew
requester_kind types.Returned = Some requester.Returned
requester_kind other = None

-- Returns the kind of the message that a wish issues.
abbrev pub wish_kind : Wish → RequesterKind
wish_kind (wishes.Request expiry item) = requester.Request
wish_kind wishes.Cancel = requester.Cancel
wish_kind (wishes.Reply true) = requester.Yes
wish_kind (wishes.Reply false) = requester.No
wish_kind wishes.Receive = requester.Received
wish_kind (wishes.Renew wished) = requester.Renew
wish_kind wishes.Return = requester.Returned

-- Returns the kind of an ILL-Answer: conditions, a promise, or no supply.
abbrev pub answer_kind : AnswerResult → ResponderKind
answer_kind Conditional = responder.Conditions
answer_kind WillSupply = responder.Promise
answer_kind HoldPlaced = responder.Promise
answer_kind other = responder.NoSupply

-- Returns the kind of the message that a deed issues.
abbrev pub deed_kind : Deed → ResponderKind
deed_kind (deeds.Answer answer) = answer_kind answer
deed_kind (deeds.CancelReply true) = responder.CancelYes
deed_kind (deeds.CancelReply false) = responder.CancelNo
deed_kind (deeds.Ship due) = responder.Shipped
deed_kind (deeds.RenewAnswer (Some due)) = responder.RenewYes
deed_kind (deeds.RenewAnswer None) = responder.RenewNo
deed_kind deeds.Overdue = responder.Overdue
deed_kind deeds.Recall = responder.Recall
deed_kind deeds.CheckIn = responder.CheckedIn
deed_kind deeds.Expire = responder.Expired

-- Returns the kind of a responder's message, or `None` for a requester's.
abbrev pub responder_kind : Body → Option ResponderKind
responder_kind (types.IllAnswer answer) = Some (answer_kind answer)
responder_kind types.Expired = Some responder.Expired
responder_kind (types.CancelReply answers true) = Some responder.CancelYes
responder_kind (types.CancelReply answers false) = Some responder.CancelNo
responder_kind (types.Shipped due) = Some responder.Shipped
responder_kind (types.Overdue due) = Some responder.Overdue
responder_kind (types.RenewAnswer answers (Some due)) = Some responder.RenewYes
responder_kind (types.RenewAnswer answers None) = Some responder.RenewNo
responder_kind types.Recall = Some responder.Recall
responder_kind types.CheckedIn = Some responder.CheckedIn
responder_kind other = None
