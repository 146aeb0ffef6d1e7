-- Messages that were held back, message files that were not carried or not done with, and files that are not converged.
-- By the laws no good night has them.
use Rattle.std.specs.Prelude.{◌≡◌, ℕ, true, false, List, Some, Ok, Err}
use Rattle.std.specs.List.{slice_get}
use Rattle.ill_values.specs.TxnId.{Qualifiers}
use Rattle.ill_values.specs.declared.apdu.Apdu.{Apdu}
use Rattle.ill_core.specs.Requester.{RequesterRecord}
use Rattle.ill_core.specs.Responder.{ResponderRecord}
use Rattle.ill_core.specs.State.{is_among}
use Rattle.ill_record.specs.declared.fault.RecordFault.{RecordFault}
use Rattle.ill_record.specs.declared.role.Role.{Role}
use Rattle.ill_record.specs.declared.side.Side.TheVariants as sides
use Rattle.ill_record.specs.Side.{issued_of}
use Rattle.ill_record.specs.Sides.{SidesOf}
use Rattle.ill_record.specs.RecordsV2.{records_at}
use Rattle.ill_saved.specs.ManySides.{side_for}
use Rattle.ill_words.specs.Sending.{wants_sending}
use Rattle.ill_night.specs.declared.verdict.MessageFile.{MessageFile}
use Rattle.ill_night.specs.declared.verdict.Verdict.{Verdict}
use Rattle.ill_night.specs.Outbox.{is_asked}
use Rattle.ill_world.specs.World.{party}
use Rattle.ill_world.specs.Round.{faced_in}
use Rattle.ill_runs.specs.Libraries.{Libraries, Library}
use Rattle.ill_runs.specs.MessageFile.{IsOneOf, message_of}
use Rattle.ill_nights.specs.Messages.{messages_for}
use Rattle.ill_nights.specs.Nights.{IsDone}

-- The message file of the transaction was not carried. Each case gives one reason. `left` have left, and `came` came.
pub data IsLost (txn : Qualifiers) (left came : List Apdu) : Type 0 where
  -- A message has left, and did not come.
  missing : (a : Apdu) → IsOneOf (messages_for txn left) a → (IsOneOf (messages_for txn came) a → ⊥) → IsLost txn left came
  -- A message came that has not left in this night.
  further : (a : Apdu) → IsOneOf (messages_for txn came) a → (IsOneOf (messages_for txn left) a → ⊥) → IsLost txn left came
  -- The messages at one place differ: one was repeated, or they came in another order.
  moved : (n : ℕ) → (slice_get (messages_for txn came) n ≡ slice_get (messages_for txn left) n → ⊥) → IsLost txn left came

-- The messages of the transaction that left are not those that its side sends. Each case gives one reason.
pub data HoldsBack (txn : Qualifiers) (after : Library) (asking left : List Apdu) : Type 0 where
  -- The side wants sending, and one of its messages has not left.
  held_back : (held : SidesOf) (a : Apdu) → records_at after.file ≡ Ok held
      → wants_sending (is_asked asking txn) (side_for txn held) ≡ true → IsOneOf (issued_of (side_for txn held)) a
      → (IsOneOf (messages_for txn left) a → ⊥) → HoldsBack txn after asking left
  -- The side is silent, and a message of the transaction has left.
  not_silent : (held : SidesOf) (a : Apdu) → records_at after.file ≡ Ok held
      → wants_sending (is_asked asking txn) (side_for txn held) ≡ false → IsOneOf (messages_for txn left) a
      → HoldsBack txn after asking left

-- A message file with a message of the transaction has a verdict, and the desk has not done with it.
pub data IsLeftUndone (txn : Qualifiers) (message_files : List MessageFile) (verdicts : List Verdict) : Type 0 where
  undone : (n : ℕ) (message_file : MessageFile) (verdict : Verdict) (a : Apdu) → slice_get message_files n ≡ Some message_file
      → slice_get verdicts n ≡ Some verdict → IsOneOf (messages_for txn (message_of message_file)) a → (IsDone verdict → ⊥)
      → IsLeftUndone txn message_files verdicts

-- The files do not agree on the transaction. Each case gives one reason.
pub data AreApartIn (txn : Qualifiers) (libraries : Libraries) : Type 0 where
  -- A file cannot be read.
  unread : (who : Role) (fault : RecordFault) → records_at (party libraries who).file ≡ Err fault → AreApartIn txn libraries
  -- The states of the two sides do not face each other.
  apart : (requester responder : SidesOf) (x : RequesterRecord) (y : ResponderRecord)
      → records_at libraries.requester.file ≡ Ok requester → records_at libraries.responder.file ≡ Ok responder
      → side_for txn requester ≡ sides.Requester x → side_for txn responder ≡ sides.Responder y
      → is_among (faced_in x.state) y.state ≡ false → AreApartIn txn libraries
