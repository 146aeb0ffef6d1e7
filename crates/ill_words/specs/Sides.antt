-- The entry of a desk that a `HeldSide` of the code shows.
use Rattle.ill_saved.specs.Holdings.{DeskEntry}
use Rattle.ill_words.specs.declared.sides.HeldSide.{HeldSide}

-- Returns the entry of a desk for `held`: its side, and the number of its released messages.
abbrev pub held_of : HeldSide → DeskEntry
held_of held = record { side = held.side.now; released = held.released }
