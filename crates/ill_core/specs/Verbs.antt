-- Defines the verbs of a side and the turn (this profile's own). A verb is the first word of an action in the command
-- `act`. The turn names the library that acts next, as far as the record of one side shows.
use Rattle.std.specs.Prelude.{ℕ, Bool, true, false, ◌==◌, List, [], ◌∷◌, Option, Result, Ok, Err, codes}
use Rattle.std.specs.List.{list_any}
use Rattle.ill_values.specs.Names.{named_by}
use Rattle.ill_core.specs.declared.state.State.{State}
use Rattle.ill_core.specs.declared.state.State.TheVariants as states
use Rattle.ill_core.specs.declared.refusal.Refusal.{Refusal}
use Rattle.ill_core.specs.declared.refusal.Refusal.TheVariants as refusals
use Rattle.ill_core.specs.declared.verb.Verb.{Verb}
use Rattle.ill_core.specs.declared.verb.Verb.TheVariants.{Request, Cancel, Reply, Receive, Renew, Return, Answer, CancelReply}
use Rattle.ill_core.specs.declared.verb.Verb.TheVariants.{Ship, RenewAnswer, Overdue, Recall, CheckIn, Expire}
use Rattle.ill_core.specs.declared.turn.Turn.{Turn}
use Rattle.ill_core.specs.declared.turn.Turn.TheVariants.{Over, Mine, Theirs}
use Rattle.ill_core.specs.declared.requester.Wish.{Wish}
use Rattle.ill_core.specs.declared.requester.Wish.TheVariants as wishes
use Rattle.ill_core.specs.declared.responder.Deed.{Deed}
use Rattle.ill_core.specs.declared.responder.Deed.TheVariants as deeds
use Rattle.ill_core.specs.Requester.{RequesterRecord, is_declined, is_received_by}
use Rattle.ill_core.specs.Responder.{ResponderRecord}

-- ---- verbs

-- Returns the verb of a wish.
abbrev pub wish_verb : Wish → Verb
wish_verb (wishes.Request expiry item) = Request
wish_verb wishes.Cancel = Cancel
wish_verb (wishes.Reply is_yes) = Reply
wish_verb wishes.Receive = Receive
wish_verb (wishes.Renew wished) = Renew
wish_verb wishes.Return = Return

-- Returns the verb of a deed.
abbrev pub deed_verb : Deed → Verb
deed_verb (deeds.Answer answer) = Answer
deed_verb (deeds.CancelReply is_yes) = CancelReply
deed_verb (deeds.Ship due) = Ship
deed_verb (deeds.RenewAnswer granted) = RenewAnswer
deed_verb deeds.Overdue = Overdue
deed_verb deeds.Recall = Recall
deed_verb deeds.CheckIn = CheckIn
deed_verb deeds.Expire = Expire

-- Returns the name of a verb.
abbrev pub verb_name : Verb → List ℕ
verb_name Request = codes "request"
verb_name Cancel = codes "cancel"
verb_name Reply = codes "reply"
verb_name Receive = codes "receive"
verb_name Renew = codes "renew"
verb_name Return = codes "return"
verb_name Answer = codes "answer"
verb_name CancelReply = codes "cancel-reply"
verb_name Ship = codes "ship"
verb_name RenewAnswer = codes "renew-answer"
verb_name Overdue = codes "overdue"
verb_name Recall = codes "recall"
verb_name CheckIn = codes "check-in"
verb_name Expire = codes "expire"

-- Lists all fourteen verbs, in their order.
abbrev pub all_verbs : List Verb
all_verbs =
    Request ∷ Cancel ∷ Reply ∷ Receive ∷ Renew ∷ Return ∷ Answer ∷ CancelReply ∷ Ship ∷ RenewAnswer ∷ Overdue ∷ Recall
    ∷ CheckIn ∷ Expire ∷ []

-- Returns the verb with the given name, or `None`.
abbrev pub verb_named : List ℕ → Option Verb
verb_named = named_by verb_name all_verbs

-- Returns the index of a verb in `all_verbs`, from 0.
abbrev pub verb_place : Verb → ℕ
verb_place Request = 0
verb_place Cancel = 1
verb_place Reply = 2
verb_place Receive = 3
verb_place Renew = 4
verb_place Return = 5
verb_place Answer = 6
verb_place CancelReply = 7
verb_place Ship = 8
verb_place RenewAnswer = 9
verb_place Overdue = 10
verb_place Recall = 11
verb_place CheckIn = 12
verb_place Expire = 13

-- Returns true if `verb` is one of `verbs`.
abbrev pub is_verb_among : List Verb → Verb → Bool
is_verb_among verbs verb = list_any (λ v. verb_place v == verb_place verb) verbs

-- ---- the verbs of a record

-- Returns true if an action is not refused for the state or the role. Its date, the numbers or memory may still refuse
-- it.
abbrev pub is_now : {R : Type 0} → Result R Refusal → Bool
is_now (Ok done) = true
is_now (Err (refusals.NotNow state)) = false
is_now (Err refusals.WrongRole) = false
is_now (Err other) = true

-- Returns the requester's verbs in CONDITIONAL: reply, or none if it declined the conditions.
abbrev pub reply_verbs : Bool → List Verb
reply_verbs true = []
reply_verbs false = Reply ∷ []

-- Returns the requester's verbs in RECALL: return if it issued a Received, and else receive.
abbrev pub recalled_verbs : Bool → List Verb
recalled_verbs true = Return ∷ []
recalled_verbs false = Receive ∷ []

-- Returns a requester's verbs in a state. `declined` says that it declined the conditions, `received` that it issued a
-- Received.
abbrev pub requester_verbs_in : State → Bool → Bool → List Verb
requester_verbs_in states.Idle declined received = Request ∷ []
requester_verbs_in states.Pending declined received = Cancel ∷ []
requester_verbs_in states.Conditional declined received = reply_verbs declined
requester_verbs_in states.Shipped declined received = Receive ∷ []
requester_verbs_in states.Received declined received = Renew ∷ Return ∷ []
requester_verbs_in states.RenewPending declined received = Return ∷ []
requester_verbs_in states.Overdue declined received = Renew ∷ Return ∷ []
requester_verbs_in states.RenewOverdue declined received = Return ∷ []
requester_verbs_in states.NotReceivedOverdue declined received = Receive ∷ []
requester_verbs_in states.Recall declined received = recalled_verbs received
requester_verbs_in other declined received = []

-- Returns the verbs of the wishes that are not `NotNow` for record `x`.
abbrev pub requester_verbs : RequesterRecord → List Verb
requester_verbs x = requester_verbs_in x.state (is_declined x) (is_received_by x)

-- Returns a responder's verbs in a state.
abbrev pub responder_verbs_in : State → List Verb
responder_verbs_in states.InProcess = Answer ∷ Ship ∷ Expire ∷ []
responder_verbs_in states.Conditional = Expire ∷ []
responder_verbs_in states.CancelPending = CancelReply ∷ []
responder_verbs_in states.Shipped = Overdue ∷ Recall ∷ []
responder_verbs_in states.RenewPending = RenewAnswer ∷ Overdue ∷ []
responder_verbs_in states.Overdue = Recall ∷ []
responder_verbs_in states.RenewOverdue = RenewAnswer ∷ []
responder_verbs_in states.Returned = CheckIn ∷ []
responder_verbs_in other = []

-- Returns the verbs of the deeds that are not `NotNow` for record `y`.
abbrev pub responder_verbs : ResponderRecord → List Verb
responder_verbs y = responder_verbs_in y.state

-- ---- the turn

-- Returns the turn in CONDITIONAL: the responder's if the requester declined the conditions, and else the requester's.
abbrev pub reply_turn : Bool → Turn
reply_turn true = Theirs
reply_turn false = Mine

-- Returns true if a library that waits may still have the verb. The requester may cancel, or return the item early. The
-- responder may let the request expire, say that the item is overdue, or recall it.
abbrev pub may_be_early : Verb → Bool
may_be_early Cancel = true
may_be_early Return = true
may_be_early Expire = true
may_be_early Overdue = true
may_be_early Recall = true
may_be_early other = false

-- Returns the turn in RETURNED: nobody's if the requester has the checked-in mark, and else the responder's.
abbrev pub returned_turn : Bool → Turn
returned_turn true = Over
returned_turn false = Theirs

-- Returns the turn in a requester's state. `declined` says that it declined the conditions, `checked_in` that it has
-- the checked-in mark.
abbrev pub requester_turn_in : State → Bool → Bool → Turn
requester_turn_in states.Idle declined checked_in = Mine
requester_turn_in states.Pending declined checked_in = Theirs
requester_turn_in states.Conditional declined checked_in = reply_turn declined
requester_turn_in states.CancelPending declined checked_in = Theirs
requester_turn_in states.Shipped declined checked_in = Mine
requester_turn_in states.Received declined checked_in = Mine
requester_turn_in states.RenewPending declined checked_in = Theirs
requester_turn_in states.Overdue declined checked_in = Mine
requester_turn_in states.RenewOverdue declined checked_in = Theirs
requester_turn_in states.NotReceivedOverdue declined checked_in = Mine
requester_turn_in states.Recall declined checked_in = Mine
requester_turn_in states.Returned declined checked_in = returned_turn checked_in
requester_turn_in other declined checked_in = Over

-- Returns the turn, as far as a requester's record shows.
abbrev pub requester_turn : RequesterRecord → Turn
requester_turn x = requester_turn_in x.state (is_declined x) x.checked_in

-- Returns the turn in a responder's state.
abbrev pub responder_turn_in : State → Turn
responder_turn_in states.Idle = Theirs
responder_turn_in states.InProcess = Mine
responder_turn_in states.Conditional = Theirs
responder_turn_in states.CancelPending = Mine
responder_turn_in states.Shipped = Theirs
responder_turn_in states.RenewPending = Mine
responder_turn_in states.Overdue = Theirs
responder_turn_in states.RenewOverdue = Mine
responder_turn_in states.Recall = Theirs
responder_turn_in states.Returned = Mine
responder_turn_in other = Over

-- Returns the turn, as far as a responder's record shows.
abbrev pub responder_turn : ResponderRecord → Turn
responder_turn y = responder_turn_in y.state
