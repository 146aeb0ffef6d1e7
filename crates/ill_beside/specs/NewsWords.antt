-- Tells staff in words what came from the other library (this profile's own; the types are those of ISO 10161-1).
use Rattle.std.specs.Prelude.{ℕ, Bool, true, false, List, ◌++◌, take, codes, Option, None, Some, bytes_eq}
use Rattle.ill_values.specs.Day.{Date, iso_text}
use Rattle.ill_values.specs.Body.{Body}
use Rattle.ill_values.specs.declared.apdu.BodyWith.TheVariants.{IllRequest, IllAnswer, ConditionalReply, Cancel, CancelReply}
use Rattle.ill_values.specs.declared.apdu.BodyWith.TheVariants.{Shipped, Received, Recall, Returned, CheckedIn, Overdue, Renew}
use Rattle.ill_values.specs.declared.apdu.BodyWith.TheVariants.{RenewAnswer, Expired}
use Rattle.ill_values.specs.declared.apdu.AnswerResult.{AnswerResult}
use Rattle.ill_values.specs.declared.apdu.AnswerResult.TheVariants as results
use Rattle.ill_record.specs.declared.side.Side.{Side}
use Rattle.ill_record.specs.declared.side.Side.TheVariants as sides
use Rattle.ill_record.specs.Side.{due_date_of}

-- Returns the words of an ILL-Answer with this result.
abbrev pub answer_words : AnswerResult → List ℕ
answer_words results.Conditional = codes "only on conditions"
answer_words results.Retry = codes "no: try again later"
answer_words results.Unfilled = codes "no: unfilled"
answer_words results.LocationsProvided = codes "no: other libraries may have it"
answer_words results.WillSupply = codes "will supply"
answer_words results.HoldPlaced = codes "hold placed"
answer_words results.Estimate = codes "no: an estimate of the cost"

-- Returns the words of a refused renewal, with the day on which the item is due, if there is one.
abbrev pub refused_words : Option Date → List ℕ
refused_words None = codes "renewal refused"
refused_words (Some due) = codes "renewal refused, still due " ++ iso_text due

-- Returns the words of a message with this body. `due` is the day on which the item of the loan is due.
abbrev pub news_words : Option Date → Body → List ℕ
news_words due (IllRequest None item) = codes "asked for"
news_words due (IllRequest (Some day) item) = codes "asked for, until " ++ iso_text day
news_words due (IllAnswer result) = answer_words result
news_words due (ConditionalReply answers true) = codes "conditions accepted"
news_words due (ConditionalReply answers false) = codes "conditions declined"
news_words due Cancel = codes "asks to cancel"
news_words due (CancelReply answers true) = codes "cancel agreed"
news_words due (CancelReply answers false) = codes "cancel refused"
news_words due (Shipped day) = codes "shipped, due " ++ iso_text day
news_words due Received = codes "the partner has received it"
news_words due Recall = codes "recalled: send it back"
news_words due Returned = codes "on its way back"
news_words due CheckedIn = codes "the partner has it back"
news_words due (Overdue day) = codes "overdue, was due " ++ iso_text day
news_words due (Renew None) = codes "asks to renew"
news_words due (Renew (Some day)) = codes "asks to renew, until " ++ iso_text day
news_words due (RenewAnswer answers None) = refused_words due
news_words due (RenewAnswer answers (Some day)) = codes "renewed, due " ++ iso_text day
news_words due Expired = codes "no: the request has expired"

-- Returns the words of a message in the news of a lender's loan. Overdue and Expired are messages of the lender's own
-- desk.
abbrev pub lender_words : Option Date → Body → List ℕ
lender_words due (Overdue day) = codes "overdue notice sent"
lender_words due Expired = codes "expired"
lender_words due other = news_words due other

-- Returns the words of a message in the news of a side's loan: those of `lender_words` if the side is a responder.
abbrev pub printed_words : Side → Body → List ℕ
printed_words (sides.Requester x) body = news_words (due_date_of (sides.Requester x)) body
printed_words (sides.Responder y) body = lender_words (due_date_of (sides.Responder y)) body

-- Returns true if the words begin with `no: `.
abbrev pub says_no : List ℕ → Bool
says_no words = bytes_eq (take 4 words) (codes "no: ")
