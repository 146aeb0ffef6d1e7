-- The words of outcomes. They are this profile's own.
use Rattle.std.specs.Prelude.{ℕ, List, codes}
use Rattle.ill_core.specs.Words.{taking_name, refusal_name}
use Rattle.ill_words.specs.declared.outcome.Outcome.{Outcome}
use Rattle.ill_words.specs.declared.outcome.Outcome.TheVariants.{Done, Saved, Faulted, Sent, Answered, Refused, NoSuchMessage}
use Rattle.ill_words.specs.declared.outcome.Outcome.TheVariants.{NotSaved, NotSent, Garbled, Forged, Restarted}
use Rattle.ill_words.specs.declared.outcome.DeskOutcome.{DeskOutcome}
use Rattle.ill_words.specs.declared.outcome.DeskOutcome.TheVariants.{Plain, NoSuchTransaction, DeskFull}

-- Returns the word that a trace shows for an outcome.
abbrev pub outcome_word : Outcome → List ℕ
outcome_word Done = codes "done"
outcome_word Saved = codes "saved"
outcome_word Faulted = codes "faulted"
outcome_word Sent = codes "sent"
outcome_word (Answered taking) = taking_name taking
outcome_word (Refused refusal) = refusal_name refusal
outcome_word NoSuchMessage = codes "no-such-message"
outcome_word NotSaved = codes "not-saved"
outcome_word NotSent = codes "not-sent"
outcome_word Garbled = codes "garbled"
outcome_word Forged = codes "forged"
outcome_word Restarted = codes "restarted"

-- Returns the word that a trace shows for an outcome at a desk.
abbrev pub desk_outcome_word : DeskOutcome → List ℕ
desk_outcome_word (Plain outcome) = outcome_word outcome
desk_outcome_word NoSuchTransaction = codes "no-such-transaction"
desk_outcome_word DeskFull = codes "desk-full"
