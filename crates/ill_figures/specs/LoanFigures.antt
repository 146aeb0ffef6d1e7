-- The figures of one loan: the day on which it was asked, how it ended, and how long it took.
use Rattle.std.specs.Prelude.{ℕ, Bool, true, false, ◌==◌, if◌then◌else◌, List, [], ◌∷◌, ◌++◌, bytes_eq, filter, fold, map}
use Rattle.std.specs.Prelude.{Option, None, Some, option_map, option_to_list}
use Rattle.ill_values.specs.Day.{Date}
use Rattle.ill_values.specs.Body.{Body}
use Rattle.ill_values.specs.declared.apdu.Apdu.{Apdu}
use Rattle.ill_values.specs.declared.apdu.BodyWith.TheVariants as types
use Rattle.ill_values.specs.declared.apdu.AnswerResult.{AnswerResult}
use Rattle.ill_values.specs.declared.apdu.AnswerResult.TheVariants as answers
use Rattle.ill_core.specs.declared.state.State.{State}
use Rattle.ill_core.specs.declared.state.State.TheVariants as states
use Rattle.ill_record.specs.declared.side.Side.{Side}
use Rattle.ill_record.specs.Side.{issued_of, state_of, txn_of}
use Rattle.ill_beside.specs.Diary.{Named, issued_named, request_taken, said_by, taken_named}
use Rattle.ill_beside.specs.Heard.{is_heard}
use Rattle.ill_beside.specs.Kept.{kept_of}
use Rattle.ill_figures.specs.declared.loan_figures.Dated.{Dated}
use Rattle.ill_figures.specs.declared.loan_figures.End.{End}
use Rattle.ill_figures.specs.declared.loan_figures.End.TheVariants.{Filled, Open, Cancelled, Unfilled, Retry, Estimate}
use Rattle.ill_figures.specs.declared.loan_figures.End.TheVariants.{LocationsProvided, Expired, Unknown}
use Rattle.ill_figures.specs.declared.loan_figures.Event.{Event}
use Rattle.ill_figures.specs.declared.loan_figures.Event.TheVariants as events
use Rattle.ill_figures.specs.declared.loan_figures.Loan.{Loan}
use Rattle.ill_figures.specs.declared.mentions.Mention.{Mention}
use Rattle.ill_figures.specs.declared.loan_figures.Step.{Step}
use Rattle.ill_figures.specs.declared.loan_figures.Step.TheVariants as steps
use Rattle.ill_figures.specs.Days.{days_from}

-- ---- the messages of a loan, with their days

-- A message that a line of a diary names, by its key, and the day of the line.
pub record Mentioned : Type 0 where
  pub day : Date
  pub key : List ℕ

-- Returns what a mention of the code holds.
abbrev pub mentioned : Mention → Mentioned
mentioned mention = record { day = mention.day; key = mention.key.items }

-- Returns the mention that a line makes, if it says something.
abbrev pub mention_in : List ℕ → Option Mentioned
mention_in line = option_map (λ said. record { day = said.day; key = said.message }) (said_by line)

-- Returns the mentions in the lines of a diary. Lines that say nothing are left out.
unfoldable pub mentions_in : (lines : List (List ℕ)) → List Mentioned
mentions_in [] = []
mentions_in (line ∷ later) = option_to_list (mention_in line) ++ mentions_in later

-- Returns the day of the message with this key, if it is mentioned. Of several mentions the last counts.
abbrev pub day_said : (key : List ℕ) → List Mentioned → Option Date
day_said key mentions = fold (λ found mention. if bytes_eq mention.key key then Some mention.day else found) None mentions

-- Returns what a message with this body is for the figures.
abbrev pub event_of : Body → Event
event_of (types.IllRequest expiry item) = events.Asked
event_of (types.IllAnswer result) = events.Answered result
event_of (types.Shipped due) = events.Shipped
event_of types.Received = events.Received
event_of types.CheckedIn = events.CheckedIn
event_of types.Expired = events.Expired
event_of body = events.Other

-- Returns a message with this body, which lines name by the key of `named`, with its day.
abbrev pub dated : List Mentioned → Named → Body → Dated
dated mentions named body = record { event = event_of body; day = day_said named.key mentions }

-- Returns a message that was issued, with its day.
abbrev pub issued_dated : List Mentioned → Apdu → Dated
issued_dated mentions a = dated mentions (issued_named a) a.body

-- Returns a message that was taken, with its day.
abbrev pub taken_dated : List Mentioned → Apdu → Dated
taken_dated mentions a = dated mentions (taken_named a) a.body

-- Returns the messages that the record of a side has, with their days. They are those that it issued, and those that
-- it shows as taken. The latter are the request in a responder's record, and messages of `kept`.
abbrev pub dated_of : List Mentioned → Side → (kept : List Apdu) → List Dated
dated_of mentions side kept =
    map (issued_dated mentions) (issued_of side) ++ map (taken_dated mentions) (request_taken side ++ filter (is_heard side) kept)

-- ---- the days of a loan

-- Returns true if a message takes this step of a loan. Shipping the item answers a request, too.
abbrev pub takes : Step → Event → Bool
takes steps.Ask events.Asked = true
takes steps.Answer (events.Answered result) = true
takes steps.Answer events.Shipped = true
takes steps.Ship events.Shipped = true
takes steps.Arrive events.Received = true
takes steps.Back events.CheckedIn = true
takes step event = false

-- Returns the day of a step: the day of the first message that takes it, if the day is known.
unfoldable pub day_of : Step → List Dated → Option Date
day_of step [] = None
day_of step (message ∷ later) = if takes step message.event then message.day else day_of step later

-- Returns the number of days from one step of a loan to another. If one has no day, or the last is before the first,
-- there is none.
abbrev pub days_between_steps : (first last : Step) → List Dated → Option ℕ
days_between_steps first last messages = days_from (day_of first messages) (day_of last messages)

-- ---- the end of a loan

-- Returns the reason of a refusal, if an ILL-Answer with this result is one.
abbrev pub refusal_by : AnswerResult → Option End
refusal_by answers.Unfilled = Some Unfilled
refusal_by answers.Retry = Some Retry
refusal_by answers.Estimate = Some Estimate
refusal_by answers.LocationsProvided = Some LocationsProvided
refusal_by goes_on = None

-- Returns the reason of a refusal that a message gives, if it gives one.
abbrev pub refusal_in : Event → Option End
refusal_in (events.Answered result) = refusal_by result
refusal_in events.Expired = Some Expired
refusal_in event = None

-- Returns the reason that is given, or `other` if none is.
abbrev pub reason_or : (other : End) → Option End → End
reason_or other None = other
reason_or other (Some reason) = reason

-- Returns the reason of a refusal: that of the first message which gives one, or `Unknown` if none does.
unfoldable pub refusal_of : List Dated → End
refusal_of [] = Unknown
refusal_of (message ∷ later) = reason_or (refusal_of later) (refusal_in message.event)

-- Returns the end of a loan in this state. `refusal` is the reason, if it was refused.
abbrev pub end_of : State → (refusal : End) → End
end_of states.Idle refusal = Open
end_of states.Pending refusal = Open
end_of states.InProcess refusal = Open
end_of states.Conditional refusal = Open
end_of states.CancelPending refusal = Open
end_of states.Cancelled refusal = Cancelled
end_of states.NotSupplied refusal = refusal
end_of state refusal = Filled

-- ---- the figures of a loan

-- Returns the figures of a loan with these messages, in this state.
abbrev pub loan_in : State → List Dated → Loan
loan_in state messages = record {
  asked = day_of steps.Ask messages;
  end = end_of state (refusal_of messages);
  answer = days_between_steps steps.Ask steps.Answer messages;
  arrive = days_between_steps steps.Ask steps.Arrive messages;
  out = days_between_steps steps.Ship steps.Back messages;
}

-- Returns the figures of the loan of a side, by what a diary says and by the messages that came.
abbrev pub loan_of : List Mentioned → (came : List Apdu) → Side → Loan
loan_of mentions came side = loan_in (state_of side) (dated_of mentions side (kept_of (txn_of side) came))
