-- The actions that the words of a form name.
use Rattle.std.specs.Prelude.{ℕ, List, Option, Some, option_map}
use Rattle.ill_values.specs.Day.{Date}
use Rattle.ill_record.specs.declared.role.Role.{Role}
use Rattle.ill_record.specs.declared.role.Role.TheVariants.{Requester, Responder}
use Rattle.ill_record.specs.declared.side.Action.{Action}
use Rattle.ill_record.specs.declared.side.Action.TheVariants.{Wish, Deed}
use Rattle.ill_words.specs.Words.{wish_of, deed_of}

-- Returns the action that the words of a form name on the day `today`. A title is one word with its spaces.
abbrev pub action_of : Role → Date → (words : List (List ℕ)) → Option Action
action_of Requester today words = option_map Wish (wish_of words)
action_of Responder today words = option_map (λ deed. Deed deed today) (deed_of (Some today) words)
