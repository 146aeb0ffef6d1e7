-- Lists wrong answers on the kind of work with a side on a day, as staff would say them.
use Rattle.std.specs.Prelude.{◌≡◌, ℕ, true, false, [], ◌∷◌, Some, None, Ok}
use Rattle.ill_values.specs.Day.{Date, day_after}
use Rattle.ill_core.specs.declared.state.State.TheVariants as states
use Rattle.ill_core.specs.declared.verb.Verb.TheVariants as verbs
use Rattle.ill_core.specs.Dates.{is_before}
use Rattle.ill_core.specs.State.{is_among}
use Rattle.ill_core.specs.Requester.{RequesterRecord, is_declined, is_received_by}
use Rattle.ill_core.specs.Responder.{ResponderRecord, due_of}
use Rattle.ill_core.specs.ResponderActions.{expiry_of}
use Rattle.ill_core.specs.Verbs.{is_verb_among}
use Rattle.ill_record.specs.declared.side.Side.{Side}
use Rattle.ill_record.specs.declared.side.Side.TheVariants as sides
use Rattle.ill_words.specs.Possible.{request_of}
use Rattle.ill_words.specs.Sending.{is_over}
use Rattle.ill_work.specs.declared.work.Work.{Work}
use Rattle.ill_work.specs.declared.work.Work.TheVariants.{SendBackRecalled, SendBackOverdue, AnswerCancel, AnswerRenewal}
use Rattle.ill_work.specs.declared.work.Work.TheVariants.{AnswerConditions, NotifyOverdue, LetExpire, CheckIn, OnItsWay}
use Rattle.ill_work.specs.declared.work.Work.TheVariants.{WithReader, Over}
use Rattle.ill_work.specs.Work.{is_work_among, wants_a_hand, work_verbs}

-- The work is a wrong answer for this side on the day `today`, if due dates at most `ahead` days away are soon.
pub data MisjudgesWork (today : Date) (ahead : ℕ) : Side → Work → Type 0 where
  -- The item is with its reader, and due after the days ahead. But the work wants a hand.
  disturbs_reader : (x : RequesterRecord) (work : Work) (due last : Date) → x.state ≡ states.Received → x.due ≡ Some due →
      is_before due today ≡ false → day_after ahead today ≡ Ok last → is_before last due ≡ true →
      wants_a_hand work ≡ true → MisjudgesWork today ahead (sides.Requester x) work
  -- The item is with its reader, and due on the last of the days ahead. But the work leaves it there.
  misses_due : (x : RequesterRecord) (due : Date) → x.state ≡ states.Received → x.due ≡ Some due →
      day_after ahead today ≡ Ok due → MisjudgesWork today ahead (sides.Requester x) WithReader
  -- The item is due today. But the work takes it for overdue.
  takes_today_for_past : (x : RequesterRecord) → x.state ≡ states.Received → x.due ≡ Some today →
      MisjudgesWork today ahead (sides.Requester x) SendBackOverdue
  -- The item is here, and its due date is past. But the work does not send it back.
  keeps_overdue : (x : RequesterRecord) (work : Work) (due : Date) → x.state ≡ states.Received → x.due ≡ Some due →
      is_before due today ≡ true → is_verb_among (work_verbs work) verbs.Return ≡ false →
      MisjudgesWork today ahead (sides.Requester x) work
  -- The item is here, and recalled. But the work is another than to send it back at once.
  keeps_recalled : (x : RequesterRecord) (work : Work) → x.state ≡ states.Recall → is_received_by x ≡ true →
      is_work_among (SendBackRecalled ∷ []) work ≡ false → MisjudgesWork today ahead (sides.Requester x) work
  -- The item was never received. But the work sends it back.
  returns_unreceived : (x : RequesterRecord) (work : Work) →
      is_among (states.Shipped ∷ states.NotReceivedOverdue ∷ states.Recall ∷ []) x.state ≡ true → is_received_by x ≡ false →
      is_verb_among (work_verbs work) verbs.Return ≡ true → MisjudgesWork today ahead (sides.Requester x) work
  -- The item is shipped. But `receive` is no verb of the work.
  forgets_parcel : (x : RequesterRecord) (work : Work) → x.state ≡ states.Shipped →
      is_verb_among (work_verbs work) verbs.Receive ≡ false → MisjudgesWork today ahead (sides.Requester x) work
  -- Conditions wait for an answer. But the work is another than to answer them.
  forgets_conditions : (x : RequesterRecord) (work : Work) → x.state ≡ states.Conditional → is_declined x ≡ false →
      is_work_among (AnswerConditions ∷ []) work ≡ false → MisjudgesWork today ahead (sides.Requester x) work
  -- The conditions were declined. But the work wants a hand.
  declines_again : (x : RequesterRecord) (work : Work) → x.state ≡ states.Conditional → is_declined x ≡ true →
      wants_a_hand work ≡ true → MisjudgesWork today ahead (sides.Requester x) work
  -- A request without an expiry date waits for its answer, its Cancel waits, or the item is sent back. But the work
  -- wants a hand.
  hurries : (x : RequesterRecord) (work : Work) →
      is_among (states.Pending ∷ states.CancelPending ∷ states.Returned ∷ []) x.state ≡ true →
      expiry_of (request_of (sides.Requester x)) ≡ None → wants_a_hand work ≡ true →
      MisjudgesWork today ahead (sides.Requester x) work
  -- The request is unanswered, and its expiry date is past. But the work wants no hand.
  misses_expiry : (x : RequesterRecord) (work : Work) (expiry : Date) → x.state ≡ states.Pending →
      expiry_of (request_of (sides.Requester x)) ≡ Some expiry → is_before expiry today ≡ true →
      wants_a_hand work ≡ false → MisjudgesWork today ahead (sides.Requester x) work
  -- A request waits for its answer. But the work wants no hand.
  forgets_request : (y : ResponderRecord) (work : Work) → y.state ≡ states.InProcess → wants_a_hand work ≡ false →
      MisjudgesWork today ahead (sides.Responder y) work
  -- A Cancel waits for its answer. But the work is another than to answer it.
  forgets_cancel : (y : ResponderRecord) (work : Work) → y.state ≡ states.CancelPending →
      is_work_among (AnswerCancel ∷ []) work ≡ false → MisjudgesWork today ahead (sides.Responder y) work
  -- A Renew waits for its answer. But the work is another than to answer it.
  forgets_renewal : (y : ResponderRecord) (work : Work) →
      is_among (states.RenewPending ∷ states.RenewOverdue ∷ []) y.state ≡ true →
      is_work_among (AnswerRenewal ∷ []) work ≡ false → MisjudgesWork today ahead (sides.Responder y) work
  -- The item is on its way back. But the work does not check it in.
  forgets_return : (y : ResponderRecord) (work : Work) → y.state ≡ states.Returned →
      is_work_among (CheckIn ∷ []) work ≡ false → MisjudgesWork today ahead (sides.Responder y) work
  -- The shipped item is due today or later. But the work wants a hand.
  notifies_early : (y : ResponderRecord) (work : Work) (due : Date) → y.state ≡ states.Shipped → due_of y ≡ Some due →
      is_before due today ≡ false → wants_a_hand work ≡ true → MisjudgesWork today ahead (sides.Responder y) work
  -- The due date of the shipped item is past. But the work is another than to send an overdue notice.
  misses_overdue : (y : ResponderRecord) (work : Work) (due : Date) → y.state ≡ states.Shipped → due_of y ≡ Some due →
      is_before due today ≡ true → is_work_among (NotifyOverdue ∷ []) work ≡ false →
      MisjudgesWork today ahead (sides.Responder y) work
  -- The responder has said that the item is overdue. But the work says it again.
  notifies_twice : (y : ResponderRecord) → y.state ≡ states.Overdue →
      MisjudgesWork today ahead (sides.Responder y) NotifyOverdue
  -- The expiry date is today. But the work lets the request expire.
  expires_early : (y : ResponderRecord) → expiry_of y.request ≡ Some today →
      MisjudgesWork today ahead (sides.Responder y) LetExpire
  -- The requester has said that the item came. But the work takes the item to be on its way.
  loses_sight : (y : ResponderRecord) → y.received ≡ true → MisjudgesWork today ahead (sides.Responder y) OnItsWay
  -- The loan is over. But the work is another than `Over`.
  reopens : (side : Side) (work : Work) → is_over side ≡ true → is_work_among (Over ∷ []) work ≡ false →
      MisjudgesWork today ahead side work
  -- The loan is not over. But the work is `Over`.
  closes : (side : Side) → is_over side ≡ false → MisjudgesWork today ahead side Over
