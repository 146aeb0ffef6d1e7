-- Defines the states of a side of a transaction, their order and their names. ISO 10161-1 names the states; the choice
-- among them is this profile's own.
use Rattle.std.specs.Prelude.{ℕ, Bool, ◌==◌, List, [], ◌∷◌, Option, codes}
use Rattle.std.specs.List.{list_any}
use Rattle.ill_values.specs.Names.{named_by}
use Rattle.ill_core.specs.declared.state.State.{State}
use Rattle.ill_core.specs.declared.state.State.TheVariants.{Idle, Pending, InProcess, Conditional, CancelPending, Cancelled}
use Rattle.ill_core.specs.declared.state.State.TheVariants.{NotSupplied, Shipped, Received, RenewPending, Overdue, RenewOverdue}
use Rattle.ill_core.specs.declared.state.State.TheVariants.{NotReceivedOverdue, Recall, Returned, CheckedIn}

-- Returns the index of a state in `all_states`, from 0.
abbrev pub place_of : State → ℕ
place_of Idle = 0
place_of Pending = 1
place_of InProcess = 2
place_of Conditional = 3
place_of CancelPending = 4
place_of Cancelled = 5
place_of NotSupplied = 6
place_of Shipped = 7
place_of Received = 8
place_of RenewPending = 9
place_of Overdue = 10
place_of RenewOverdue = 11
place_of NotReceivedOverdue = 12
place_of Recall = 13
place_of Returned = 14
place_of CheckedIn = 15

-- Returns true if `state` is one of `states`.
abbrev pub is_among : List State → State → Bool
is_among states state = list_any (λ s. place_of s == place_of state) states

-- Returns the name of a state.
abbrev pub state_name : State → List ℕ
state_name Idle = codes "IDLE"
state_name Pending = codes "PENDING"
state_name InProcess = codes "IN-PROCESS"
state_name Conditional = codes "CONDITIONAL"
state_name CancelPending = codes "CANCEL-PENDING"
state_name Cancelled = codes "CANCELLED"
state_name NotSupplied = codes "NOT-SUPPLIED"
state_name Shipped = codes "SHIPPED"
state_name Received = codes "RECEIVED"
state_name RenewPending = codes "RENEW/PENDING"
state_name Overdue = codes "OVERDUE"
state_name RenewOverdue = codes "RENEW/OVERDUE"
state_name NotReceivedOverdue = codes "NOT-RECEIVED/OVERDUE"
state_name Recall = codes "RECALL"
state_name Returned = codes "RETURNED"
state_name CheckedIn = codes "CHECKED-IN"

-- Lists all sixteen states, in their order.
abbrev pub all_states : List State
all_states =
    Idle ∷ Pending ∷ InProcess ∷ Conditional ∷ CancelPending ∷ Cancelled ∷ NotSupplied ∷ Shipped
    ∷ Received ∷ RenewPending ∷ Overdue ∷ RenewOverdue ∷ NotReceivedOverdue ∷ Recall ∷ Returned ∷ CheckedIn ∷ []

-- Returns the state with the given name, or `None`.
abbrev pub state_named : List ℕ → Option State
state_named = named_by state_name all_states
