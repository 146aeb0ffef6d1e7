-- The message of a message file, and its verdict (this profile's own).
use Rattle.std.specs.Prelude.{ℕ, nat_lt, Bool, ◌||◌, if◌then◌else◌, List, [], ◌∷◌, length, ◌-◌}
use Rattle.std.specs.Prelude.{take, codes, nat_eq, Option, None, Some, Result, Ok, Err}
use Rattle.std.specs.List.{starts_with}
use Rattle.std.specs.Str.{bytes_eq}
use Rattle.ill_values.specs.declared.apdu.Apdu.{Apdu}
use Rattle.ill_der.specs.declared.fault.DerFault.{DerFault}
use Rattle.ill_der.specs.ShortForm.{apdu_at}
use Rattle.ill_record.specs.declared.role.Role.{Role}
use Rattle.ill_record.specs.declared.role.Role.TheVariants.{Requester}
use Rattle.ill_words.specs.declared.outcome.Outcome.TheVariants as outcomes
use Rattle.ill_words.specs.declared.outcome.DeskOutcome.{DeskOutcome}
use Rattle.ill_words.specs.declared.outcome.DeskOutcome.TheVariants as seen
use Rattle.ill_night.specs.declared.verdict.InLetter.{InLetter}
use Rattle.ill_night.specs.declared.verdict.Unfit.{Unfit}
use Rattle.ill_night.specs.declared.verdict.Unfit.TheVariants as unfits
use Rattle.ill_night.specs.declared.verdict.Delay.TheVariants as delays
use Rattle.ill_night.specs.declared.verdict.Verdict.{Verdict}
use Rattle.ill_night.specs.declared.verdict.Verdict.TheVariants.{Done, Quarantined, Deferred}

-- ---- the message of a message file

-- Returns true for the bytes of a line end: a line feed (10), perhaps after a carriage return (13).
abbrev pub is_line_end : List ℕ → Bool
is_line_end bytes = bytes_eq bytes (10 ∷ []) || bytes_eq bytes (13 ∷ 10 ∷ [])

-- Returns the bytes of a message that was read from `bytes`, if only a line end follows it. Else it returns `bytes`.
abbrev pub message_before : List ℕ → Result (Apdu × List ℕ) DerFault → List ℕ
message_before bytes (Ok (a, rest)) = if is_line_end rest then take (length bytes - length rest) bytes else bytes
message_before bytes (Err fault) = bytes

-- Returns the bytes of a message file without the line end after its message. A program that copies a message file as
-- text may add one.
abbrev pub without_line_end : List ℕ → List ℕ
without_line_end bytes = message_before bytes (apdu_at bytes)

-- Returns the only message of a message file. If decoding fails or bytes follow the message, it returns the reason
-- why no desk takes the message file.
abbrev pub one_message : Result (Apdu × List ℕ) DerFault → Result Apdu Unfit
one_message (Ok (a, [])) = Ok a
one_message (Ok (a, byte ∷ rest)) = Err unfits.Trailing
one_message (Err fault) = Err (unfits.NoMessage fault)

-- Returns the message of a message file, or the reason why no desk will ever take it. A message has at most 359
-- bytes.
abbrev pub message_in : List ℕ → Result Apdu Unfit
message_in bytes = if nat_lt 359 (length bytes) then Err unfits.TooLong else one_message (apdu_at bytes)

-- ---- the verdict of a message file

-- Returns the verdict of a message file by the outcome of its message. A message file for an unknown loan waits at a
-- requester's desk, which may begin the loan before the next run. It is done at a responder's desk: the
-- requester sends the message again, after the request.
abbrev pub verdict_of : Role → DeskOutcome → Verdict
verdict_of role (seen.Plain (outcomes.Refused refusal)) = Quarantined (unfits.Refused refusal)
verdict_of Requester seen.NoSuchTransaction = Deferred delays.NoSuchTransaction
verdict_of role seen.DeskFull = Deferred delays.DeskFull
verdict_of role outcome = Done outcome

-- Returns true if the bytes begin as the record of a desk does, in either version.
abbrev pub begins_as_record : List ℕ → Bool
begins_as_record bytes = starts_with nat_eq bytes (codes "ILL1") || starts_with nat_eq bytes (codes "ILL2")

-- Returns the verdict of a message file without a message. The record of a desk came by mistake, so it waits in its
-- folder. Any other message file is quarantined.
abbrev pub verdict_without_message : List ℕ → Unfit → Verdict
verdict_without_message bytes unfit = if begins_as_record bytes then Deferred delays.Record else Quarantined unfit

-- Returns the verdict of a message file that gave no bytes to read. If it should be a sealed letter and is none, it is
-- quarantined. Else its file cannot be read, and it waits.
abbrev pub verdict_unread : Option InLetter → Verdict
verdict_unread None = Deferred delays.NotRead
verdict_unread (Some letter) = if letter.is_sealed then Deferred delays.NotRead else Quarantined unfits.NotSealed
