-- The line of a message file that stays (this profile's own).
use Rattle.std.specs.Prelude.{ℕ, List, [], ◌++◌, codes, Option, None, Some}
use Rattle.std.specs.Fmt.{decimal}
use Rattle.ill_der.specs.declared.fault.DerFault.{DerFault}
use Rattle.ill_der.specs.declared.fault.DerFault.TheVariants as ders
use Rattle.ill_der.specs.Faults.{place_of}
use Rattle.ill_words.specs.declared.outcome.Outcome.TheVariants as outcomes
use Rattle.ill_words.specs.declared.outcome.DeskOutcome.TheVariants as seen
use Rattle.ill_words.specs.Outcome.{desk_outcome_word}
use Rattle.ill_text.specs.Escape.{escaped}
use Rattle.ill_night.specs.declared.verdict.Delay.{Delay}
use Rattle.ill_night.specs.declared.verdict.Delay.TheVariants as delays
use Rattle.ill_night.specs.declared.verdict.Unfit.{Unfit}
use Rattle.ill_night.specs.declared.verdict.Unfit.TheVariants as unfits
use Rattle.ill_night.specs.declared.verdict.Verdict.{Verdict}
use Rattle.ill_night.specs.declared.verdict.Verdict.TheVariants.{Done, Quarantined, Deferred}

-- ---- the verdict of a message file

-- Returns the word of a fault in the bytes of a message file.
abbrev pub der_word : DerFault → List ℕ
der_word (ders.Short at) = codes "short"
der_word (ders.Tag at) = codes "tag"
der_word (ders.Length at) = codes "length"
der_word (ders.Field at) = codes "field"
der_word ders.OutOfMemory = codes "memory"

-- Returns the text of the offset of a fault in the bytes. If it has none, it is empty.
abbrev pub place_text : Option ℕ → List ℕ
place_text None = []
place_text (Some at) = codes " at " ++ decimal at

-- Returns the text of the reason why no desk will ever take a message file.
abbrev pub unfit_text : Unfit → List ℕ
unfit_text (unfits.NoMessage fault) = der_word fault ++ place_text (place_of fault)
unfit_text unfits.TooLong = codes "too-long"
unfit_text unfits.Trailing = codes "trailing"
unfit_text unfits.NotSealed = codes "not-sealed"
unfit_text (unfits.Refused refusal) = desk_outcome_word (seen.Plain (outcomes.Refused refusal))

-- Returns the text of the reason why a message file waits for the next run.
abbrev pub delay_text : Delay → List ℕ
delay_text delays.NotRead = codes "not-read"
delay_text delays.Record = codes "record"
delay_text delays.NoSuchTransaction = desk_outcome_word seen.NoSuchTransaction
delay_text delays.DeskFull = desk_outcome_word seen.DeskFull

-- Returns the line of the message file `name`, which is quarantined or waits. `word` says which, and `reason` why.
abbrev pub stays_line : List ℕ → List ℕ → List ℕ → List ℕ
stays_line name word reason = escaped name ++ (word ++ (reason ++ codes "\n"))

-- Returns the line of the message file `name`. A message file that is done has no line.
abbrev pub verdict_line : List ℕ → Verdict → List ℕ
verdict_line name (Done outcome) = []
verdict_line name (Quarantined unfit) = stays_line name (codes " aside ") (unfit_text unfit)
verdict_line name (Deferred delay) = stays_line name (codes " left ") (delay_text delay)
