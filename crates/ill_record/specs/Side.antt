-- A side of a transaction in either role: its actions, and the APDUs that it takes (this profile's own).
-- These definitions distinguish the roles, so that those of a desk need not.
use Rattle.std.specs.Prelude.{◌≡◌, ◌↔◌, ℕ, Bool, not, if◌then◌else◌, List, [], ◌∷◌, ◌++◌, Option, Some, None, true, false}
use Rattle.std.specs.Prelude.{is_ok, Result, Ok, Err}
use Rattle.ill_values.specs.declared.apdu.Apdu.{Apdu}
use Rattle.ill_values.specs.Day.{Date}
use Rattle.ill_values.specs.TxnId.{Qualifiers}
use Rattle.ill_core.specs.declared.state.State.{State}
use Rattle.ill_core.specs.declared.state.State.TheVariants.{Idle}
use Rattle.ill_core.specs.declared.refusal.Refusal.{Refusal}
use Rattle.ill_core.specs.declared.refusal.Refusal.TheVariants as refusals
use Rattle.ill_core.specs.declared.requester.Wish.TheVariants as wishes
use Rattle.ill_core.specs.declared.taking.Taking.{Taking}
use Rattle.ill_core.specs.declared.taking.Taking.TheVariants.{Taken}
use Rattle.ill_core.specs.State.{is_among}
use Rattle.ill_core.specs.Requester as requesters
use Rattle.ill_core.specs.Requester.{requester_of}
use Rattle.ill_core.specs.RequesterActions as requester_actions
use Rattle.ill_core.specs.RequesterDeliveries as requester_deliveries
use Rattle.ill_core.specs.Responder as responders
use Rattle.ill_core.specs.Responder.{responder_of, due_of}
use Rattle.ill_core.specs.ResponderActions as responder_actions
use Rattle.ill_core.specs.ResponderDeliveries as responder_deliveries
use Rattle.ill_record.specs.declared.role.Role.{Role}
use Rattle.ill_record.specs.declared.role.Role.TheVariants as roles
use Rattle.ill_record.specs.declared.side.Side.{Side}
use Rattle.ill_record.specs.declared.side.Side.TheVariants as sides
use Rattle.ill_record.specs.declared.side.Standing.{Standing}
use Rattle.ill_record.specs.declared.side.Standing.TheVariants as standings
use Rattle.ill_record.specs.declared.side.Action.{Action}
use Rattle.ill_record.specs.declared.side.Action.TheVariants as actions

-- Returns the other role.
abbrev pub other : Role → Role
other roles.Requester = roles.Responder
other roles.Responder = roles.Requester

-- Returns the role of the side.
abbrev pub role_of : Side → Role
role_of (sides.Requester x) = roles.Requester
role_of (sides.Responder y) = roles.Responder

-- Returns the APDUs that the side has issued.
abbrev pub issued_of : Side → List Apdu
issued_of (sides.Requester x) = x.issued
issued_of (sides.Responder y) = y.issued

-- Returns the transaction of the side.
abbrev pub txn_of : Side → Qualifiers
txn_of (sides.Requester x) = x.txn
txn_of (sides.Responder y) = y.txn

-- Returns the state of the side.
abbrev pub state_of : Side → State
state_of (sides.Requester x) = x.state
state_of (sides.Responder y) = y.state

-- Returns true if the side is in IDLE.
abbrev pub is_idle : Side → Bool
is_idle side = is_among (Idle ∷ []) (state_of side)

-- Returns the due date in the record of the side, if there is one.
abbrev pub due_date_of : Side → Option Date
due_date_of (sides.Requester x) = x.due
due_date_of (sides.Responder y) = due_of y

-- Returns true if the record of the side keeps the rules of its role.
abbrev pub is_consistent : Side → Bool
is_consistent (sides.Requester x) = requesters.is_consistent x
is_consistent (sides.Responder y) = responders.is_consistent y

-- The record of the side keeps the rules of its role.
abbrev pub IsConsistent : Side → Type 0
IsConsistent side = is_consistent side ≡ true

-- Returns the standing of the side.
abbrev pub standing_of : Side → Standing
standing_of (sides.Requester x) = standings.Requester (requesters.standing_of x)
standing_of (sides.Responder y) = standings.Responder (responders.standing_of y)

-- Returns the side with this standing and the first `count` of its messages, if the standing has the role of the side.
abbrev pub back_to : Standing → ℕ → Side → Option Side
back_to (standings.Requester s) count (sides.Requester x) =
    Some (sides.Requester (requesters.back_to s count x))
back_to (standings.Responder s) count (sides.Responder y) =
    Some (sides.Responder (responders.back_to s count y))
back_to standing count side = None

-- `went` is true exactly if there is a consistent side to go back to, and `new` is then this side.
-- Otherwise `new` is `old`.
abbrev pub GoesBack : Option Side → Bool → Side → Side → Type 0
GoesBack None went old new = (went ≡ false) × (new ≡ old)
GoesBack (Some back) went old new =
    ((went ≡ true) ↔ IsConsistent back) × (new ≡ (if went then back else old))

-- Returns true if the side is a responder that has taken a request: its state is not IDLE.
abbrev pub is_asked : Side → Bool
is_asked (sides.Requester x) = false
is_asked (sides.Responder y) = not (is_among (Idle ∷ []) y.state)

-- Returns the ILL-Request of a responder, if it has one. A requester has none.
abbrev pub request_of : Side → Option Apdu
request_of (sides.Requester x) = None
request_of (sides.Responder y) = y.request

-- If the old side is a responder that has taken a request, the new side has taken it, too.
abbrev pub KeepsRequest : Side → Side → Type 0
KeepsRequest old new =
    is_asked old ≡ true → (is_asked new ≡ true) × (request_of new ≡ request_of old)

-- Returns the role that the action is for: a wish is a requester's, and a deed a responder's.
abbrev pub role_for : Action → Role
role_for (actions.Wish wish) = roles.Requester
role_for (actions.Deed deed today) = roles.Responder

-- Returns true if the action may begin a transaction. Only the wish Request may.
abbrev pub begins : Action → Bool
begins (actions.Wish (wishes.Request expiry item)) = true
begins action = false

-- Returns the idle side of this role and transaction, which has issued nothing.
abbrev pub idle_side : Role → Qualifiers → Side
idle_side roles.Requester txn = sides.Requester (requester_of txn Idle None false None [])
idle_side roles.Responder txn = sides.Responder (responder_of txn Idle None None None false None [])

-- Returns the idle side that has the role and the transaction of this side.
abbrev pub idle_of : Side → Side
idle_of side = idle_side (role_of side) (txn_of side)

-- Returns the side that `make` makes of the record in a result, or the refusal of the result.
abbrev pub done_by : {R : Type 0} → (R → Side) → Result R Refusal → Result Side Refusal
done_by make (Ok new) = Ok (make new)
done_by make (Err refusal) = Err refusal

-- Returns the side after the action, or the refusal. An action of the other role is `WrongRole`.
abbrev pub acts : Side → Action → Result Side Refusal
acts (sides.Requester x) (actions.Wish wish) = done_by sides.Requester (requester_actions.acts x wish)
acts (sides.Responder y) (actions.Deed deed today) =
    done_by sides.Responder (responder_actions.acts y deed today)
acts side action = Err refusals.WrongRole

-- Returns the answer of the side to an APDU, and the side after it.
abbrev pub takes : Side → Apdu → Result Taking Refusal × Side
takes (sides.Requester x) a =
    ((requester_deliveries.takes x a).0, sides.Requester (requester_deliveries.takes x a).1)
takes (sides.Responder y) a =
    ((responder_deliveries.takes y a).0, sides.Responder (responder_deliveries.takes y a).1)

-- The side `old` answers an action, and is `new` after it. A refusal changes nothing.
-- Memory can run out only for an action that would be done, and then nothing changes.
abbrev pub Acts : Side → Action → Result (Unit {0}) Refusal → Side → Type 0
Acts old action (Ok done) new = acts old action ≡ Ok new
Acts old action (Err refusals.OutOfMemory) new = (is_ok (acts old action) ≡ true) × (new ≡ old)
Acts old action (Err refusal) new = (acts old action ≡ Err refusal) × (new ≡ old)

-- Returns true if the side is a responder that needs memory for an APDU: to store it, or to issue an answer.
-- A requester needs no memory.
abbrev pub takes_memory : Side → Apdu → Bool
takes_memory (sides.Requester x) a = false
takes_memory (sides.Responder y) a = responder_deliveries.takes_memory y a.body

-- The side `old` would take the APDU `a` and needs memory for it, and nothing has changed.
abbrev pub RunsOutOfMemoryFor : Side → Apdu → Side → Type 0
RunsOutOfMemoryFor old a new =
    ((takes old a).0 ≡ Ok Taken) × (takes_memory old a ≡ true) × (new ≡ old)

-- The side `old` answers the APDU `a`, and is `new` after it.
-- Memory can run out only if the side needs memory for `a`, and then nothing changes.
abbrev pub Takes : Side → Apdu → Result Taking Refusal → Side → Type 0
Takes old a (Err refusals.OutOfMemory) new = RunsOutOfMemoryFor old a new
Takes old a answer new = takes old a ≡ (answer, new)

-- One transition leads from the old side to the new one: an action that is done, or the delivery of an APDU.
pub data IsSideTransition (old new : Side) : Type 0 where
  acted : (action : Action) → acts old action ≡ Ok new → IsSideTransition old new
  took : (a : Apdu) → (takes old a).1 ≡ new → IsSideTransition old new

-- Transitions, one after another, lead from the old side to the new one. There may be none.
pub data IsAfterTransitions (old : Side) : Side → Type 0 where
  same : IsAfterTransitions old old
  further : (between new : Side) → IsAfterTransitions old between → IsSideTransition between new → IsAfterTransitions old new

-- The list `prefix` is a prefix of `all`.
abbrev pub IsPrefix : {X : Type 0} → List X → List X → Type 0
IsPrefix prefix all = (more : List _) × (all ≡ prefix ++ more)

-- The new side has the role and the transaction of the old one. The old issued messages are a prefix of the new ones.
abbrev pub Grows : Side → Side → Type 0
Grows old new = (idle_of new ≡ idle_of old) × IsPrefix (issued_of old) (issued_of new)
