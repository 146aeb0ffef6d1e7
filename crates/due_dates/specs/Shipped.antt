-- The loans of a desk that are printed, and the line of each.
use Rattle.std.specs.Prelude.{ℕ, List, [], ◌∷◌, ◌++◌, codes, filter}
use Rattle.ill_values.specs.Day.{Date, date_text}
use Rattle.ill_values.specs.TxnId.{Qualifiers}
use Rattle.ill_core.specs.declared.state.State.TheVariants.{Shipped}
use Rattle.ill_core.specs.State.{is_among}
use Rattle.ill_record.specs.declared.side.Side.{Side}
use Rattle.ill_record.specs.Side.{state_of}

-- Returns the sides that are SHIPPED, in their order.
abbrev pub shipped : List Side → List Side
shipped sides = filter (λ side. is_among (Shipped ∷ []) (state_of side)) sides

-- Returns the line of a loan: its due date, and the qualifiers of its transaction.
abbrev pub line : Date → Qualifiers → List ℕ
line due txn = date_text due ++ (codes " " ++ (txn.group ++ (codes " " ++ txn.transaction)))
