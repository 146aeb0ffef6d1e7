-- Defines the four answers of a side to a message, each with the record after it (this profile's own). `R` is the type
-- of the record, of either role.
use Rattle.std.specs.Prelude.{Option, Some, None, Result, Ok, Err}
use Rattle.ill_core.specs.declared.state.State.{State}
use Rattle.ill_core.specs.declared.refusal.Refusal.{Refusal}
use Rattle.ill_core.specs.declared.taking.Taking.{Taking}
use Rattle.ill_core.specs.declared.taking.Taking.TheVariants.{Taken, Repeat, Stale, Conflict}

-- Returns the answer `Taken`: the message was news, and `new` is the record after it.
abbrev pub taken : {R : Type 0} → R → Result Taking Refusal × R
taken new = (Ok Taken, new)

-- Returns the answer `Repeat`: the record has the effect of the message already, and does not change.
abbrev pub repeat : {R : Type 0} → R → Result Taking Refusal × R
repeat old = (Ok Repeat, old)

-- Returns the answer `Stale`: the message answers a closed question, or names another due date. The record does not
-- change.
abbrev pub stale : {R : Type 0} → R → Result Taking Refusal × R
stale old = (Ok Stale, old)

-- Returns the answer `Conflict`: the message has no place in `state`. The record does not change.
abbrev pub conflict : {R : Type 0} → State → R → Result Taking Refusal × R
conflict state old = (Ok (Conflict state), old)

-- Returns the refusal and the unchanged record `old` if there is a refusal, and else `answer`.
abbrev pub unless_refused : {R : Type 0} → Option Refusal → R → Result Taking Refusal × R →
    Result Taking Refusal × R
unless_refused (Some refusal) old answer = (Err refusal, old)
unless_refused None old answer = answer
