-- The exit status of a command. It is 0 if all went well. It is 1 if the command was refused, or a message
-- was refused or in conflict. It is 2 if the arguments, the input or the record are invalid. It is 3 if a
-- file, a stream or memory failed, or if message files are left. A lack of memory is always `ToolFault.OutOfMemory`,
-- never a fault within another one.
use Rattle.std.specs.Prelude.{◌≡◌, ◌⊎◌, ℕ, Bool, true, false, List, Option, Result, Ok, Err}
use Rattle.clap.specs.declared.error.kind.ErrorKind.{ErrorKind}
use Rattle.clap.specs.declared.error.kind.ErrorKind.TheVariants as kinds
use Rattle.ill_saved.specs.declared.fault.DeskFault.{DeskFault}
use Rattle.ill_saved.specs.declared.fault.DeskFault.TheVariants as desks
use Rattle.ill_text.specs.declared.fault.ToolFault.{ToolFault}
use Rattle.ill_text.specs.declared.fault.ToolFault.TheVariants.{Arguments, Der, TooMany, Script, Desk, Key, Deferred, Read, Write}
use Rattle.ill_text.specs.declared.fault.ToolFault.TheVariants.{NotSealed, OutOfMemory}

-- Returns the exit status for a fault of a desk.
abbrev pub desk_status : DeskFault → ℕ
desk_status (desks.Core refusal) = 1
desk_status desks.NoSuchMessage = 1
desk_status desks.NotSaved = 1
desk_status desks.Exists = 1
desk_status desks.NoRecord = 1
desk_status desks.NoSuchTransaction = 1
desk_status desks.DeskFull = 1
desk_status (desks.Bytes fault) = 2
desk_status desks.Trailing = 2
desk_status (desks.Saved fault) = 2
desk_status (desks.Store fault) = 3
desk_status desks.OutOfMemory = 3

-- Returns the exit status for a fault.
abbrev pub status_of : ToolFault → ℕ
status_of Arguments = 2
status_of (Der fault) = 2
status_of TooMany = 2
status_of (Script line) = 2
status_of (Desk fault) = desk_status fault
status_of (Key fault) = 2
status_of NotSealed = 2
status_of Deferred = 3
status_of Read = 3
status_of Write = 3
status_of OutOfMemory = 3

-- Returns the exit status for the result of a command. Ok true means that all went well. Ok false means that the
-- command or a message was refused, or that a message was in conflict.
abbrev pub exit_status : Result Bool ToolFault → ℕ
exit_status (Ok true) = 0
exit_status (Ok false) = 1
exit_status (Err fault) = status_of fault

-- The result of a command after its output was flushed: `result` is `done`, or the fault `Write` of the flush.
abbrev pub IsFlushed : Result Bool ToolFault → Result Bool ToolFault → Type 0
IsFlushed done result = (result ≡ done) ⊎ (result ≡ Err Write)

-- `clap` gave an error of this kind, and the exit status is `status`. The output went from `before` to `after`. Help
-- and the version are written to it, or the writer fails. Words that are refused, or a lack of memory, leave it
-- unchanged.
abbrev pub PrintsKind : ErrorKind → Option (List ℕ) → Option (List ℕ) → ℕ → Type 0
PrintsKind kinds.DisplayHelp before after status = (status ≡ 0) ⊎ (status ≡ 3)
PrintsKind kinds.DisplayVersion before after status = (status ≡ 0) ⊎ (status ≡ 3)
PrintsKind kinds.OutOfMemory before after status = (status ≡ 3) × (after ≡ before)
PrintsKind mistake before after status = (status ≡ 2) × (after ≡ before)
