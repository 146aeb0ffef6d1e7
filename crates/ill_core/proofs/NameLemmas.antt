-- Proves that each state and each verb is read back from its name.
use Rattle.std.proofs.Common.{◌≡◌, Some, refl}
use Rattle.ill_core.specs.declared.state.State.{State}
use Rattle.ill_core.specs.declared.state.State.TheVariants as states
use Rattle.ill_core.specs.declared.verb.Verb.{Verb}
use Rattle.ill_core.specs.declared.verb.Verb.TheVariants as verbs
use Rattle.ill_core.specs.State.{state_name, state_named}
use Rattle.ill_core.specs.Verbs.{verb_name, verb_named}

-- The name of a state is read as that state.
pub state_again : (state : State) → state_named (state_name state) ≡ Some state
state_again states.Idle = refl
state_again states.Pending = refl
state_again states.InProcess = refl
state_again states.Conditional = refl
state_again states.CancelPending = refl
state_again states.Cancelled = refl
state_again states.NotSupplied = refl
state_again states.Shipped = refl
state_again states.Received = refl
state_again states.RenewPending = refl
state_again states.Overdue = refl
state_again states.RenewOverdue = refl
state_again states.NotReceivedOverdue = refl
state_again states.Recall = refl
state_again states.Returned = refl
state_again states.CheckedIn = refl

-- The name of a verb is read as that verb.
pub verb_again : (verb : Verb) → verb_named (verb_name verb) ≡ Some verb
verb_again verbs.Request = refl
verb_again verbs.Cancel = refl
verb_again verbs.Reply = refl
verb_again verbs.Receive = refl
verb_again verbs.Renew = refl
verb_again verbs.Return = refl
verb_again verbs.Answer = refl
verb_again verbs.CancelReply = refl
verb_again verbs.Ship = refl
verb_again verbs.RenewAnswer = refl
verb_again verbs.Overdue = refl
verb_again verbs.Recall = refl
verb_again verbs.CheckIn = refl
verb_again verbs.Expire = refl
