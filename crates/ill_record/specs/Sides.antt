-- The sides of one library: one in each of many transactions, all of one role (this profile's own).
use Rattle.std.specs.Prelude.{◌≡◌, ℕ, ◌≤◌, nat_lt, Bool, true, false, not, ◌&&◌, if◌then◌else◌, List, [], ◌∷◌, ◌++◌, length, map}
use Rattle.std.specs.Prelude.{find, Option, Some, None, is_some, is_none, Result, Ok, Err}
use Rattle.std.specs.List.{list_all}
use Rattle.std.specs.Map.{lookup, set_value}
use Rattle.ill_values.specs.TxnId.{Qualifiers}
use Rattle.ill_core.specs.Issued.{is_same_txn}
use Rattle.ill_record.specs.declared.role.Role.{Role}
use Rattle.ill_record.specs.declared.role.Role.TheVariants as roles
use Rattle.ill_record.specs.declared.side.Side.{Side}
use Rattle.ill_record.specs.declared.fault.SidesFault.{SidesFault}
use Rattle.ill_record.specs.declared.fault.SidesFault.TheVariants as faults
use Rattle.ill_record.specs.Side.{role_of, txn_of, is_idle}

-- Sides: their role, and the sides in the order in which they were begun.
pub record SidesOf : Type 0 where
  pub role : Role
  pub sides : List Side

-- The maximum number of sides that are held.
abbrev pub most_sides : ℕ
most_sides = 1000

-- Returns the first item whose transaction, given by `key`, is `txn`. Both qualifiers must be equal.
abbrev pub found_by : {X : Type 0} → (X → Qualifiers) → Qualifiers → List X → Option X
found_by key txn items = find (λ item. is_same_txn txn (key item)) items

-- Returns the items with `new` in place of the item of its transaction. If there is none, `new` comes last.
unfoldable pub put_by : {X : Type 0} → (X → Qualifiers) → X → List X → List X
put_by key new [] = new ∷ []
put_by key new (item ∷ items) =
    if is_same_txn (key new) (key item) then new ∷ items else item ∷ put_by key new items

-- Returns the side of transaction `txn`, if there is one.
unfoldable pub side_with : Qualifiers → List Side → Option Side
side_with txn sides = found_by txn_of txn sides

-- Returns true if both roles are equal.
abbrev pub is_same_role : Role → Role → Bool
is_same_role roles.Requester roles.Requester = true
is_same_role roles.Responder roles.Responder = true
is_same_role role of_another = false

-- Returns true if the side has this role and is not idle.
abbrev pub is_begun : Role → Side → Bool
is_begun role side = is_same_role role (role_of side) && not (is_idle side)

-- Returns true if the transactions of the sides differ.
unfoldable pub are_apart : List Side → Bool
are_apart [] = true
are_apart (side ∷ sides) = is_none (side_with (txn_of side) sides) && are_apart sides

-- Returns true if all sides have the role, none is idle, and their transactions differ.
abbrev pub may_be_held : SidesOf → Bool
may_be_held held = list_all (is_begun held.role) held.sides && are_apart held.sides

-- Each side has its own transaction as its key. One desk may hold the sides together, and they are at most 1,000.
pub record AreFiled (under : List Qualifiers) (all : SidesOf) : Type 0 where
  pub keys : under ≡ map txn_of all.sides
  pub held : may_be_held all ≡ true
  pub few : length all.sides ≤ most_sides

-- Returns the first reason to refuse a side: the other role, an idle side, a held transaction, or 1,000 sides.
abbrev pub put_refusal : SidesOf → Side → Option SidesFault
put_refusal held side =
    if not (is_same_role held.role (role_of side)) then Some faults.OtherRole else
    (if is_idle side then Some faults.Idle else
    (if is_some (side_with (txn_of side) held.sides) then Some faults.Twice else
    (if nat_lt (length held.sides) most_sides then None else Some faults.Full)))

-- Returns the sides with `side` after them.
abbrev pub put_last : SidesOf → Side → SidesOf
put_last held side = record { role = held.role; sides = held.sides ++ side ∷ [] }

-- `side` is put after the sides `old`, which gives `new`, or it is returned with a fault and nothing changes.
-- Memory can run out only for a side that is not refused.
abbrev pub Puts : SidesOf → Side → Result (Unit {0}) (SidesFault × Side) → SidesOf → Type 0
Puts old side (Ok done) new = (put_refusal old side ≡ None) × (new ≡ put_last old side)
Puts old side (Err (faults.OutOfMemory, back)) new =
    (put_refusal old side ≡ None) × (back ≡ side) × (new ≡ old)
Puts old side (Err (fault, back)) new =
    (put_refusal old side ≡ Some fault) × (back ≡ side) × (new ≡ old)

-- If the side of `txn` is held, `Does` relates it to the answer and to the side after. The others are unchanged.
-- If none is held, nothing changes, and there is no answer.
abbrev pub ChangesOnlySideOf : {A : Type 0} → (Side → A → Side → Type 0) → Qualifiers → SidesOf → Option A → SidesOf →
    Type 0
ChangesOnlySideOf Does txn old None new = (side_with txn old.sides ≡ None) × (new ≡ old)
ChangesOnlySideOf Does txn old (Some answer) new =
    (side : Side) × (after : Side) × (side_with txn old.sides ≡ Some side) × Does side answer after
    × (new ≡ record { role = old.role; sides = put_by txn_of after old.sides })

-- If there is an entry with the key `txn`, `Does` relates its side to the answer and to the side after.
-- The others are unchanged. If there is no such entry, nothing changes, and there is no answer.
abbrev pub ChangesOnlyEntryOf : {A : Type 0} → (Side → A → Side → Type 0) → Qualifiers → List (Qualifiers × Side) →
    Option A → List (Qualifiers × Side) → Type 0
ChangesOnlyEntryOf Does txn old None new = (lookup (is_same_txn txn) old ≡ None) × (new ≡ old)
ChangesOnlyEntryOf Does txn old (Some answer) new =
    (side : Side) × (after : Side) × (lookup (is_same_txn txn) old ≡ Some side) × Does side answer after
    × (new ≡ set_value (is_same_txn txn) old after)
