-- Proves which line of a diary tells since when a loan stands as it does.
use Rattle.std.proofs.Common.{◌≡◌, ℕ, List, [], ◌∷◌, ◌++◌, Option, Some, None, ap, ◌∙◌}
use Rattle.std.specs.Prelude.{bytes_eq, find, option_map}
use Rattle.std.specs.Option.{option_or}
use Rattle.std.proofs.lemmas.List.Sums.{fold-append}
use Rattle.ill_values.specs.Day.{Date}
use Rattle.ill_words.specs.Words.{◌>>=◌}
use Rattle.ill_beside.specs.Diary.{Named, Said, said_by}
use Rattle.ill_beside.specs.Since.{day_said, day_printed, last_day}

-- After one more line, the last day is the day that this line tells. If it tells none, it is the last day of the lines
-- before.
last_after : (messages : List Named) (lines : List (List ℕ)) (line : List ℕ)
    → last_day messages (lines ++ line ∷ []) ≡ option_or (day_printed messages line) (last_day messages lines)
last_after messages lines line =
    fold-append (λ (found : Option Date) line. option_or (day_printed messages line) found) None lines (line ∷ [])

-- If the last line tells `day`, the last day is `day`.
pub last_counts : (messages : List Named) (lines : List (List ℕ)) (line : List ℕ) (day : Date)
    → day_printed messages line ≡ Some day → last_day messages (lines ++ line ∷ []) ≡ Some day
last_counts messages lines line day tells =
    last_after messages lines line ∙ ap (λ (printed : Option Date). option_or printed (last_day messages lines)) tells

-- If `line` tells no day, the last day stays when `line` is appended.
pub others_stay : (messages : List Named) (lines : List (List ℕ)) (line : List ℕ) → day_printed messages line ≡ None
    → last_day messages (lines ++ line ∷ []) ≡ last_day messages lines
others_stay messages lines line none =
    last_after messages lines line ∙ ap (λ (printed : Option Date). option_or printed (last_day messages lines)) none

-- If a line `says` something of a message that the record has, it tells its day.
pub written_tells : (messages : List Named) (line : List ℕ) (says : Said) (message : Named) → said_by line ≡ Some says
    → find (λ other. bytes_eq other.key says.message) messages ≡ Some message → day_printed messages line ≡ Some says.day
written_tells messages line says message is found =
    ap (λ (said : Option Said). said >>= day_said messages) is
    ∙ ap (λ (met : Option Named). option_map (λ message. says.day) met) found
