-- The octet of a sender: that of its role in a saved record.
use Rattle.std.specs.Prelude.{ℕ}
use Rattle.ill_seal.specs.declared.sender.Sender.{Sender}
use Rattle.ill_seal.specs.declared.sender.Sender.TheVariants.{Requester, Responder}

-- Returns the octet of a sender.
abbrev pub octet_of : Sender → ℕ
octet_of Requester = 0
octet_of Responder = 1
