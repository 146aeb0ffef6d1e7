-- A sealed letter on an input: all of the input is the letter, and its messages are exactly those that were sealed.
use Rattle.std.specs.Prelude.{◌≡◌, ◌⊎◌, ℕ, List, Option, IsErr}
use Rattle.std.specs.Io.KnownBytes.{Consumes, IsAtEnd}
use Rattle.ill_record.specs.declared.role.Role.{Role}
use Rattle.ill_record.specs.declared.role.Role.TheVariants as roles
use Rattle.ill_seal.specs.declared.sender.Sender.{Sender}
use Rattle.ill_seal.specs.declared.sender.Sender.TheVariants.{Requester, Responder}
use Rattle.ill_seal.specs.Letter.{sealed, opened}
use Rattle.ill_text.specs.declared.fault.ToolFault.{ToolFault}
use Rattle.ill_text.specs.declared.fault.ToolFault.TheVariants.{NotSealed}
use Rattle.ill_text.specs.Input.{IsWhole, StopsWhole}

-- Returns the sender of the letters that a desk of a role seals.
abbrev pub own_sender : Role → Sender
own_sender roles.Requester = Requester
own_sender roles.Responder = Responder

-- Returns the sender of the letters that a desk of a role opens.
abbrev pub other_sender : Role → Sender
other_sender roles.Requester = Responder
other_sender roles.Responder = Requester

-- All of the input is the letter in which `sender` has sealed the messages `text` with `key`.
abbrev pub OpensLetter : (key : List ℕ) → Sender → (left rest : Option (List ℕ)) → (text : List ℕ) → Type 0
OpensLetter key sender left rest text = Consumes left rest (sealed key sender text) × IsAtEnd rest

-- The input is longer than any letter, or could not be read, or memory ran out. Or all of it is no letter that `sender`
-- has sealed with `key`. `fault` is the fault for this.
abbrev pub LeavesSealed : (key : List ℕ) → Sender → (left rest : Option (List ℕ)) → ToolFault → Type 0
LeavesSealed key sender left rest fault =
    StopsWhole 1048613 NotSealed left rest fault
    ⊎ ((fault ≡ NotSealed)
    × ((letter : List ℕ) × IsWhole 1048613 left rest letter × IsErr (opened key sender letter)))
