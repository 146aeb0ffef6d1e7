-- Proves that the names of the program have printing characters of ASCII alone.
use Rattle.std.proofs.Common.{◌≡◌, true, refl}
use Rattle.ill_values.specs.declared.apdu_type.ApduType.{ApduType}
use Rattle.ill_values.specs.declared.apdu_type.ApduType.TheVariants as types
use Rattle.ill_values.specs.declared.apdu.AnswerResult.{AnswerResult}
use Rattle.ill_values.specs.declared.apdu.AnswerResult.TheVariants as results
use Rattle.ill_values.specs.Results.{result_name}
use Rattle.ill_values.specs.Types.{apdu_type_name}
use Rattle.ill_core.specs.declared.state.State.{State}
use Rattle.ill_core.specs.declared.state.State.TheVariants as states
use Rattle.ill_core.specs.declared.turn.Turn.{Turn}
use Rattle.ill_core.specs.declared.turn.Turn.TheVariants as turns
use Rattle.ill_core.specs.declared.verb.Verb.{Verb}
use Rattle.ill_core.specs.declared.verb.Verb.TheVariants as verbs
use Rattle.ill_core.specs.State.{state_name}
use Rattle.ill_core.specs.Verbs.{verb_name}
use Rattle.ill_core.specs.Words.{turn_name}
use Rattle.ill_work.specs.declared.work.Work.{Work}
use Rattle.ill_work.specs.declared.work.Work.TheVariants as works
use Rattle.ill_work.specs.Work.{work_words}
use Rattle.ill_record.specs.declared.role.Role.{Role}
use Rattle.ill_record.specs.declared.role.Role.TheVariants as roles
use Rattle.ill_record.specs.Roles.{role_name}
use Rattle.ill_json.proofs.Shown.{are_printable}

-- The name of a type of APDU is printable.
pub type_printable : (it : ApduType) → are_printable (apdu_type_name it) ≡ true
type_printable types.IllRequest = refl
type_printable types.Shipped = refl
type_printable types.IllAnswer = refl
type_printable types.ConditionalReply = refl
type_printable types.Cancel = refl
type_printable types.CancelReply = refl
type_printable types.Received = refl
type_printable types.Recall = refl
type_printable types.Returned = refl
type_printable types.CheckedIn = refl
type_printable types.Overdue = refl
type_printable types.Renew = refl
type_printable types.RenewAnswer = refl
type_printable types.Expired = refl

-- The name of a result is printable.
pub result_printable : (it : AnswerResult) → are_printable (result_name it) ≡ true
result_printable results.Conditional = refl
result_printable results.Retry = refl
result_printable results.Unfilled = refl
result_printable results.LocationsProvided = refl
result_printable results.WillSupply = refl
result_printable results.HoldPlaced = refl
result_printable results.Estimate = refl

-- The name of a state is printable.
pub state_printable : (it : State) → are_printable (state_name it) ≡ true
state_printable states.Idle = refl
state_printable states.Pending = refl
state_printable states.InProcess = refl
state_printable states.Conditional = refl
state_printable states.CancelPending = refl
state_printable states.Cancelled = refl
state_printable states.NotSupplied = refl
state_printable states.Shipped = refl
state_printable states.Received = refl
state_printable states.RenewPending = refl
state_printable states.Overdue = refl
state_printable states.RenewOverdue = refl
state_printable states.NotReceivedOverdue = refl
state_printable states.Recall = refl
state_printable states.Returned = refl
state_printable states.CheckedIn = refl

-- The name of a turn is printable.
pub turn_printable : (it : Turn) → are_printable (turn_name it) ≡ true
turn_printable turns.Over = refl
turn_printable turns.Mine = refl
turn_printable turns.Theirs = refl

-- The name of a verb is printable.
pub verb_printable : (it : Verb) → are_printable (verb_name it) ≡ true
verb_printable verbs.Request = refl
verb_printable verbs.Cancel = refl
verb_printable verbs.Reply = refl
verb_printable verbs.Receive = refl
verb_printable verbs.Renew = refl
verb_printable verbs.Return = refl
verb_printable verbs.Answer = refl
verb_printable verbs.CancelReply = refl
verb_printable verbs.Ship = refl
verb_printable verbs.RenewAnswer = refl
verb_printable verbs.Overdue = refl
verb_printable verbs.Recall = refl
verb_printable verbs.CheckIn = refl
verb_printable verbs.Expire = refl

-- The name of a role is printable.
pub role_printable : (it : Role) → are_printable (role_name it) ≡ true
role_printable roles.Requester = refl
role_printable roles.Responder = refl

-- The words of a kind of work are printable.
pub work_printable : (it : Work) → are_printable (work_words it) ≡ true
work_printable works.SendBackRecalled = refl
work_printable works.LookFor = refl
work_printable works.SendBackOverdue = refl
work_printable works.NotifyOverdue = refl
work_printable works.RecallOrAsk = refl
work_printable works.LetExpire = refl
work_printable works.CancelOrAsk = refl
work_printable works.AnswerCancel = refl
work_printable works.AnswerRenewal = refl
work_printable works.AnswerConditions = refl
work_printable works.AnswerRequest = refl
work_printable works.SendBackOrRenew = refl
work_printable works.CheckIn = refl
work_printable works.Unpack = refl
work_printable works.Request = refl
work_printable works.OnItsWay = refl
work_printable works.WithReader = refl
work_printable works.Wait = refl
work_printable works.Over = refl
