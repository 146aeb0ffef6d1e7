-- Defines the rows of the tables of both roles (this profile's own). A row fits if its kind and its states match, and
-- its guards hold. The first row that fits decides.
use Rattle.std.specs.Prelude.{ℕ, ◌^◌, ◌/◌, Bool, not, ◌&&◌, ◌||◌, ◌==◌, bit_and, List}
use Rattle.std.specs.List.{list_all}
use Rattle.ill_core.specs.declared.state.State.{State}
use Rattle.ill_core.specs.declared.table.Row.{Row}
use Rattle.ill_core.specs.declared.table.Then.{Then}
use Rattle.ill_core.specs.declared.table.Then.TheVariants as thens
use Rattle.ill_core.specs.declared.table.Then.TheVariants.{To, Stay}
use Rattle.ill_core.specs.declared.taking.Taking.{Taking}
use Rattle.ill_core.specs.declared.taking.Taking.TheVariants.{Taken, Repeat, Stale, Conflict}
use Rattle.ill_core.specs.State.{place_of}

-- Returns true if bit `i` of `mask` is set, counted from 0.
abbrev pub has_bit : ℕ → ℕ → Bool
has_bit mask i = bit_and (mask / 2 ^ i) 1 == 1

-- Returns true if the mask `states` contains `state`. The bit of a state is its index in `all_states`.
abbrev pub has_state : ℕ → State → Bool
has_state states state = has_bit states (place_of state)

-- Returns true if `mask` and `bits` have a bit in common.
abbrev pub has_common_bit : ℕ → ℕ → Bool
has_common_bit mask bits = not (bit_and mask bits == 0)

-- Returns the answer that a row gives in `state`.
abbrev pub taking_of : Then → State → Taking
taking_of (To next) state = Taken
taking_of Stay state = Taken
taking_of thens.Repeat state = Repeat
taking_of thens.Stale state = Stale
taking_of thens.Conflict state = Conflict state

-- Returns the state after a row is followed in `state`.
abbrev pub next_state : Then → State → State
next_state (To next) state = next
next_state other state = state

-- A condition of a row: the bit by which a row asks for it, and the value of its test.
pub record Guard : Type 0 where
  pub bit : ℕ
  pub holds : Bool

-- Returns true if each guard whose bit is set in `asked` holds.
abbrev pub are_met : ℕ → List Guard → Bool
are_met asked guards = list_all (λ f. (bit_and asked f.bit == 0) || f.holds) guards

-- Returns true if the states of `row` contain `state`, and all guards that `row` asks for hold. `row.1` is the mask of
-- its states, and `row.2` the mask of its guards.
abbrev pub fits : {K : Type 0} → State → List Guard → Row K → Bool
fits state guards row = has_state row.1 state && are_met row.2 guards
