-- The identifier octets of the fourteen types of APDU.
-- They are application tags of this profile's own, in the constructed form of X.690 8.1.2.
use Rattle.std.specs.Prelude.{ℕ, ◌==◌, Option, find}
use Rattle.ill_values.specs.declared.apdu_type.ApduType.{ApduType}
use Rattle.ill_values.specs.declared.apdu_type.ApduType.TheVariants.{IllRequest, Shipped, IllAnswer, ConditionalReply, Cancel}
use Rattle.ill_values.specs.declared.apdu_type.ApduType.TheVariants.{CancelReply, Received, Recall, Returned, CheckedIn, Overdue}
use Rattle.ill_values.specs.declared.apdu_type.ApduType.TheVariants.{Renew, RenewAnswer, Expired}
use Rattle.ill_values.specs.Types.{all_types}

-- Returns the identifier octet of a type.
abbrev pub identifier_of : ApduType → ℕ
identifier_of IllRequest = 0x61
identifier_of Shipped = 0x63
identifier_of IllAnswer = 0x64
identifier_of ConditionalReply = 0x65
identifier_of Cancel = 0x66
identifier_of CancelReply = 0x67
identifier_of Received = 0x68
identifier_of Recall = 0x69
identifier_of Returned = 0x6A
identifier_of CheckedIn = 0x6B
identifier_of Overdue = 0x6C
identifier_of Renew = 0x6D
identifier_of RenewAnswer = 0x6E
identifier_of Expired = 0x74

-- Returns the type that has this identifier octet, if there is one.
abbrev pub type_with : ℕ → Option ApduType
type_with identifier = find (λ apdu_type. identifier == identifier_of apdu_type) all_types
