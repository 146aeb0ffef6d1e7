-- The message files that came in sealed letters, and the verdicts by which their files are settled (this profile's
-- own).
use Rattle.std.specs.Prelude.{◌≡◌, ℕ, ◌==◌, Bool, true, false, if◌then◌else◌, List, [], ◌∷◌, fold, map, Option, None, Some}
use Rattle.std.specs.Prelude.{IsErr, Result, Ok}
use Rattle.std.specs.List.{concat}
use Rattle.ill_seal.specs.declared.sender.Sender.{Sender}
use Rattle.ill_seal.specs.Letter.{opened}
use Rattle.ill_night.specs.declared.verdict.MessageFile.{MessageFile}
use Rattle.ill_night.specs.declared.verdict.InLetter.{InLetter}
use Rattle.ill_night.specs.declared.verdict.Verdict.{Verdict}
use Rattle.ill_night.specs.declared.verdict.Verdict.TheVariants.{Done, Quarantined, Deferred}

-- ---- opening

-- If there are messages, `sender` has sealed them with `key` in `letter`, one after another. If they are `None`,
-- `letter` is no letter that `sender` has sealed with `key`.
abbrev pub OpensTo : (key : List ℕ) → Sender → (letter : List ℕ) → Option (List (List ℕ)) → Type 0
OpensTo key sender letter (Some messages) = opened key sender letter ≡ Ok (concat messages)
OpensTo key sender letter None = IsErr (opened key sender letter)

-- ---- the verdict of a file

-- Returns the worse of two verdicts of message files in one file. `Deferred` is worse than `Quarantined`, and
-- `Quarantined` is worse than `Done`. Of two verdicts `Deferred` or two verdicts `Quarantined` it is the first one, and
-- of two verdicts `Done` the second one.
abbrev pub worse : Verdict → Verdict → Verdict
worse (Deferred delay) other = Deferred delay
worse (Quarantined unfit) (Deferred delay) = Deferred delay
worse (Quarantined unfit) other = Quarantined unfit
worse (Done outcome) other = other

-- Returns true if the message file is in the letter with this number.
abbrev pub is_in : ℕ → Option InLetter → Bool
is_in number None = false
is_in number (Some letter) = letter.number == number

-- Returns the worse of the verdict `worst` and the verdict of `message_file`, if `message_file` is in the letter with
-- this number. Else returns `worst`.
abbrev pub worse_if_in : ℕ → Verdict → MessageFile × Verdict → Verdict
worse_if_in number worst message_file = if is_in number message_file.0.letter then worse worst message_file.1 else worst

-- Returns a message file with its verdict, in a list, if there are both.
abbrev pub pair_at : Option MessageFile → Option Verdict → List (MessageFile × Verdict)
pair_at (Some message_file) (Some verdict) = (message_file, verdict) ∷ []
pair_at message_file verdict = []

-- Returns the verdict by which the file of a message file is settled. `message_files` are all message files of the run,
-- with their verdicts. A message file in a letter shares its file, which has the worst verdict of the message files in
-- it.
abbrev pub file_verdict : List (MessageFile × Verdict) → Option InLetter → Verdict → Verdict
file_verdict message_files None verdict = verdict
file_verdict message_files (Some letter) verdict = fold (worse_if_in letter.number) verdict message_files

-- Returns the verdict by which the file of a message file is settled, in a list, if there are a message file and its
-- verdict.
abbrev pub verdict_at : List (MessageFile × Verdict) → Option MessageFile → Option Verdict → List Verdict
verdict_at message_files (Some message_file) (Some verdict) = file_verdict message_files message_file.letter verdict ∷ []
verdict_at message_files message_file verdict = []

-- Returns the verdicts by which the files of all message files are settled.
abbrev pub file_verdicts : List (MessageFile × Verdict) → List Verdict
file_verdicts message_files = map (λ message_file. file_verdict message_files message_file.0.letter message_file.1) message_files
