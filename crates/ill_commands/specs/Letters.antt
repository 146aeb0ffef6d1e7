-- The commands `take` and `send` with a key: the messages come and go in sealed letters.
use Rattle.std.specs.Prelude.{◌≡◌, ◌⊎◌, ℕ, Bool, List, Option, None, Some, Result, Ok, Err, IfErr, IsErrAnd}
use Rattle.ill_saved.specs.Desk.{DeskOf}
use Rattle.ill_saved.specs.ManySides.{DeskContents, found_by, many_sides, txn_held}
use Rattle.ill_seal.specs.declared.sender.Sender.{Sender}
use Rattle.ill_seal.specs.Letter.{sealed}
use Rattle.ill_key.specs.KeyCommand.{IsKeyFault}
use Rattle.ill_key.specs.Letter.{LeavesSealed, OpensLetter, own_sender}
use Rattle.ill_text.specs.declared.fault.ToolFault.{ToolFault}
use Rattle.ill_files.specs.Opening.{Succeeds}
use Rattle.ill_place.specs.Place.{PlaceOf, StartsAt}
use Rattle.ill_desk.specs.Send.{RunsSendAs}
use Rattle.ill_commands.specs.AtFile.{MessageOf, SendsAtFile}
use Rattle.ill_commands.specs.Streams.{Streams}

-- All of the input was opened as a letter of `sender`, and had these messages. Or it was not opened, for this fault.
abbrev pub Opens : (key : List ℕ) → Sender → (left rest : Option (List ℕ)) → Result (List ℕ) ToolFault → Type 0
Opens key sender left rest (Ok text) = OpensLetter key sender left rest text
Opens key sender left rest (Err fault) = LeavesSealed key sender left rest fault

-- The opened messages were the input of a command, whose effect `Takes` says. If nothing was opened, the command has
-- the fault of the opening, and nothing was written.
abbrev pub TakesOpened : (Takes : Streams → Result Bool ToolFault → Streams → Type 0) → Result (List ℕ) ToolFault →
    Streams → Result Bool ToolFault → Streams → Type 0
TakesOpened Takes (Ok text) old result new =
    (unread : Option (List ℕ)) × Takes (record old { unread = Some text }) result (record new { unread = unread })
TakesOpened Takes (Err fault) old result new = (result ≡ Err fault) × (new.written ≡ old.written)

-- The input was opened with `key` as a letter of `sender`, and the messages in it were taken. Or it is no such letter.
abbrev pub TakesLetter : (key : List ℕ) → Sender → (Takes : Streams → Result Bool ToolFault → Streams → Type 0) →
    Streams → Result Bool ToolFault → Streams → Type 0
TakesLetter key sender Takes old result new =
    (opened : Result (List ℕ) ToolFault) × Opens key sender old.unread new.unread opened
    × TakesOpened Takes opened old result new

-- The input was opened with `key` as a letter of `sender`. Or it was not, and `IsUnchanged` holds.
abbrev pub OpensOrStays : (key : List ℕ) → Sender → (IsUnchanged : Type 0) → (left rest : Option (List ℕ)) → Type 0
OpensOrStays key sender IsUnchanged left rest =
    (opened : Result (List ℕ) ToolFault) × Opens key sender left rest opened × IfErr opened (λ fault. IsUnchanged)

-- The input was a letter of the other library, opened with a key, and its messages were taken. Or it was no such
-- letter, and nothing changed. Or no key or no desk could be used.
abbrev pub TakesSealed : (Takes : Streams → Result Bool ToolFault → Streams → Type 0) → Streams → Result Bool ToolFault →
    Streams → Type 0
TakesSealed Takes old result new =
    (IsErrAnd result IsKeyFault × (new.written ≡ old.written) × (new.unread ≡ old.unread))
    ⊎ ((key : List ℕ) × (sender : Sender) × TakesLetter key sender Takes old result new)

-- The letter with a message at the desk of the place was written, sealed for the other library. Or the key or the desk
-- could not be used.
abbrev pub SendsLetterAtFile : {S : Type 0} → PlaceOf S → MessageOf → (before after : Option (List ℕ)) →
    Result Bool ToolFault → Type 0
SendsLetterAtFile {S} place message before after result =
    (IsErrAnd result IsKeyFault × (after ≡ before))
    ⊎ ((desk : DeskOf DeskContents S) × StartsAt place desk × (key : List ℕ)
    × Succeeds (RunsSendAs (sealed key (own_sender (many_sides.role desk.live)))
    (found_by txn_held message.txn desk.live.held) message.number before after) result)

-- The command `take`. Without a key `Takes` says its effect. With a key `TakesSealed` does.
abbrev pub TakesWith : (key : Option (List ℕ)) → (Takes : Streams → Result Bool ToolFault → Streams → Type 0) → Streams →
    Result Bool ToolFault → Streams → Type 0
TakesWith None Takes old result new = Takes old result new
TakesWith (Some key) Takes old result new = TakesSealed Takes old result new

-- The command `send`. Without a key the message was written, and with a key its letter.
abbrev pub SendsWith : {S : Type 0} → PlaceOf S → (key : Option (List ℕ)) → MessageOf → (before after : Option (List ℕ)) →
    Result Bool ToolFault → Type 0
SendsWith place None message before after result = SendsAtFile place message before after result
SendsWith place (Some key) message before after result = SendsLetterAtFile place message before after result
