-- Defines the kinds of work at a desk: the verbs of the actions that do each, its words for staff and its urgency (this
-- profile's own).
use Rattle.std.specs.Prelude.{ℕ, Bool, ◌==◌, nat_lt, List, [], ◌∷◌, length, codes}
use Rattle.std.specs.List.{list_any}
use Rattle.ill_core.specs.declared.verb.Verb.{Verb}
use Rattle.ill_core.specs.declared.verb.Verb.TheVariants as verbs
use Rattle.ill_work.specs.declared.work.Work.{Work}
use Rattle.ill_work.specs.declared.work.Work.TheVariants.{SendBackRecalled, LookFor, SendBackOverdue, AnswerCancel}
use Rattle.ill_work.specs.declared.work.Work.TheVariants.{AnswerRenewal, AnswerConditions, AnswerRequest, NotifyOverdue}
use Rattle.ill_work.specs.declared.work.Work.TheVariants.{RecallOrAsk, LetExpire, CancelOrAsk, SendBackOrRenew, CheckIn}
use Rattle.ill_work.specs.declared.work.Work.TheVariants.{Unpack, Request, OnItsWay, WithReader, Wait, Over}

-- Returns the verbs of the actions that do this work. `OnItsWay`, `WithReader`, `Wait` and `Over` have no verb.
abbrev pub work_verbs : Work → List Verb
work_verbs SendBackRecalled = verbs.Return ∷ []
work_verbs LookFor = verbs.Receive ∷ []
work_verbs SendBackOverdue = verbs.Return ∷ []
work_verbs NotifyOverdue = verbs.Overdue ∷ []
work_verbs RecallOrAsk = verbs.Recall ∷ []
work_verbs LetExpire = verbs.Expire ∷ []
work_verbs CancelOrAsk = verbs.Cancel ∷ []
work_verbs AnswerCancel = verbs.CancelReply ∷ []
work_verbs AnswerRenewal = verbs.RenewAnswer ∷ []
work_verbs AnswerConditions = verbs.Reply ∷ []
work_verbs AnswerRequest = verbs.Answer ∷ verbs.Ship ∷ []
work_verbs SendBackOrRenew = verbs.Renew ∷ verbs.Return ∷ []
work_verbs CheckIn = verbs.CheckIn ∷ []
work_verbs Unpack = verbs.Receive ∷ []
work_verbs Request = verbs.Request ∷ []
work_verbs OnItsWay = []
work_verbs WithReader = []
work_verbs Wait = []
work_verbs Over = []

-- Returns true if the work wants a hand: it has a verb.
abbrev pub wants_a_hand : Work → Bool
wants_a_hand work = nat_lt 0 (length (work_verbs work))

-- Returns the words that tell staff the work.
abbrev pub work_words : Work → List ℕ
work_words SendBackRecalled = codes "send back at once"
work_words LookFor = codes "look for it: it is wanted back"
work_words SendBackOverdue = codes "send back, or agree on more time"
work_words NotifyOverdue = codes "send an overdue notice"
work_words RecallOrAsk = codes "recall, or ask where it is"
work_words LetExpire = codes "let the request expire"
work_words CancelOrAsk = codes "cancel, or ask for an answer"
work_words AnswerCancel = codes "agree to cancel, or refuse"
work_words AnswerRenewal = codes "renew, or refuse"
work_words AnswerConditions = codes "accept the conditions, or decline"
work_words AnswerRequest = codes "answer, or ship"
work_words SendBackOrRenew = codes "send back or renew"
work_words CheckIn = codes "check in when it is here"
work_words Unpack = codes "unpack when it is here"
work_words Request = codes "send the request"
work_words OnItsWay = codes "wait until it has come"
work_words WithReader = codes "leave it with the reader"
work_words Wait = codes "wait for the other library"
work_words Over = codes "file it away"

-- Returns the urgency of the work: its index in `all_work`, from 0 on. The most pressing work has 0. First come items
-- wanted back and dates that are past, then questions of the other library and near due dates. Parcels and unsent
-- requests follow. Waits and loans that are over come last.
abbrev pub urgency_of : Work → ℕ
urgency_of SendBackRecalled = 0
urgency_of LookFor = 1
urgency_of SendBackOverdue = 2
urgency_of NotifyOverdue = 3
urgency_of RecallOrAsk = 4
urgency_of LetExpire = 5
urgency_of CancelOrAsk = 6
urgency_of AnswerCancel = 7
urgency_of AnswerRenewal = 8
urgency_of AnswerConditions = 9
urgency_of AnswerRequest = 10
urgency_of SendBackOrRenew = 11
urgency_of CheckIn = 12
urgency_of Unpack = 13
urgency_of Request = 14
urgency_of OnItsWay = 15
urgency_of WithReader = 16
urgency_of Wait = 17
urgency_of Over = 18

-- Lists all kinds of work, the most pressing first.
abbrev pub all_work : List Work
all_work =
    SendBackRecalled ∷ LookFor ∷ SendBackOverdue ∷ NotifyOverdue ∷ RecallOrAsk ∷ LetExpire ∷ CancelOrAsk
    ∷ AnswerCancel ∷ AnswerRenewal ∷ AnswerConditions ∷ AnswerRequest ∷ SendBackOrRenew ∷ CheckIn ∷ Unpack ∷ Request
    ∷ OnItsWay ∷ WithReader ∷ Wait ∷ Over ∷ []

-- Returns true if `work` is one of `works`.
abbrev pub is_work_among : List Work → Work → Bool
is_work_among works work = list_any (λ w. urgency_of w == urgency_of work) works

-- Lists the kinds of work of a requester, the most pressing first.
abbrev pub requesters_work : List Work
requesters_work =
    SendBackRecalled ∷ LookFor ∷ SendBackOverdue ∷ CancelOrAsk ∷ AnswerConditions ∷ SendBackOrRenew ∷ Unpack ∷ Request
    ∷ WithReader ∷ Wait ∷ Over ∷ []

-- Lists the kinds of work of a responder, the most pressing first.
abbrev pub responders_work : List Work
responders_work =
    NotifyOverdue ∷ RecallOrAsk ∷ LetExpire ∷ AnswerCancel ∷ AnswerRenewal ∷ AnswerRequest ∷ CheckIn ∷ OnItsWay ∷ Wait
    ∷ Over ∷ []
