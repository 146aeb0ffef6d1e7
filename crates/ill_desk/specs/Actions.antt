-- The actions that the words of a command line name for a side (this profile's own).
use Rattle.std.specs.Prelude.{ℕ, Bool, ◌&&◌, not, ◌==◌, if◌then◌else◌, List, length, Option, None, Some, option_map}
use Rattle.std.specs.List.{list_all, list_any}
use Rattle.ill_values.specs.Day.{Date}
use Rattle.ill_record.specs.declared.role.Role.{Role}
use Rattle.ill_record.specs.declared.role.Role.TheVariants.{Requester, Responder}
use Rattle.ill_record.specs.declared.side.Action.{Action}
use Rattle.ill_record.specs.declared.side.Action.TheVariants.{Wish, Deed}
use Rattle.ill_words.specs.Words.{wish_of, deed_of}

-- Returns true if `word` could be a word of a script: it is not empty, and has no space.
abbrev pub is_word : List ℕ → Bool
is_word word = not (length word == 0) && not (list_any (λ byte. byte == 0x20) word)

-- Returns the deed that `words` name on the day `today`. A due day in `words` may count from `today`. Without
-- a day there is no deed.
abbrev pub deed_on : Option Date → List (List ℕ) → Option Action
deed_on None words = None
deed_on (Some today) words = option_map (λ deed. Deed deed today) (deed_of (Some today) words)

-- Returns the action that `words` name for this role: a requester's wish, or a responder's deed. They are the words
-- after the side in a line of a script.
abbrev pub action_for : Role → Option Date → List (List ℕ) → Option Action
action_for Requester today words = option_map Wish (wish_of words)
action_for Responder today words = deed_on today words

-- Returns the action that `words` name for a side of the role `role` on the day `today`. Each must be a word of a
-- script.
unfoldable pub action_named : Role → Option Date → List (List ℕ) → Option Action
action_named role today words = if list_all is_word words then action_for role today words else None
