-- A trace of a script of two desks has a line for each event. The line shows both sides of the event's transaction. The
-- trace is this profile's own.
use Rattle.std.specs.Prelude.{ℕ, List}
use Rattle.ill_values.specs.TxnId.{Qualifiers}
use Rattle.ill_saved.specs.declared.shown.Shown.{Shown}
use Rattle.ill_saved.specs.Shown.{shown_of}
use Rattle.ill_saved.specs.ManySides.{held_for}
use Rattle.ill_words.specs.declared.outcome.DeskOutcome.{DeskOutcome}
use Rattle.ill_world.specs.Desks.{DeskParty, DeskParties}
use Rattle.ill_world.specs.Trace.{line_of}
use Rattle.ill_words.specs.Outcome.{desk_outcome_word}

-- Returns the parts of the side of `txn` that a trace shows. A side that is not held is idle.
abbrev pub desk_shown : Qualifiers → DeskParty → Shown
desk_shown txn p = shown_of (held_for txn p.live).side (held_for txn p.live).released

-- Returns the line of event `number`, with both sides of `txn` after it.
unfoldable pub desk_line : ℕ → Qualifiers → DeskOutcome → DeskParties → List ℕ
desk_line number txn outcome after =
    line_of number (desk_outcome_word outcome) (desk_shown txn after.requester) (desk_shown txn after.responder)
