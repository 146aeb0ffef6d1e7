-- A trace of a run has a line for each event, with its outcome and both sides after it. It is this profile's own.
use Rattle.std.specs.Prelude.{ℕ, List, ◌++◌, codes}
use Rattle.std.specs.Fmt.{decimal}
use Rattle.ill_saved.specs.Shown.{shown_of}
use Rattle.ill_words.specs.declared.outcome.Outcome.{Outcome}
use Rattle.ill_saved.specs.declared.shown.Shown.{Shown}
use Rattle.ill_world.specs.World.{Party, Parties}
use Rattle.ill_words.specs.Outcome.{outcome_word}
use Rattle.ill_words.specs.Shown.{shown_text}

-- Returns the parts of a party that a trace shows.
abbrev pub party_shown : Party → Shown
party_shown p = shown_of p.live p.released

-- Returns the text of an event: its number, and the word of its outcome.
abbrev pub event_text : ℕ → List ℕ → List ℕ
event_text number word = decimal number ++ codes " " ++ word

-- Returns the text of both sides, each after its role.
abbrev pub sides_text : Shown → Shown → List ℕ
sides_text requester responder =
    codes " requester " ++ shown_text requester ++ codes " responder " ++ shown_text responder

-- Returns the line with this number, this word of an outcome, and both sides.
abbrev pub line_of : ℕ → List ℕ → Shown → Shown → List ℕ
line_of number word requester responder =
    event_text number word ++ sides_text requester responder ++ codes "\n"

-- Returns the line of event `number`, by its outcome and the world after it.
unfoldable pub line : ℕ → Outcome → Parties → List ℕ
line number outcome after =
    line_of number (outcome_word outcome) (party_shown after.requester) (party_shown after.responder)
