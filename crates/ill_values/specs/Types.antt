-- Defines the fourteen types of APDU, and their names.
use Rattle.std.specs.Prelude.{ℕ, List, [], ◌∷◌, Option, codes}
use Rattle.ill_values.specs.declared.apdu.BodyWith.{BodyWith}
use Rattle.ill_values.specs.declared.apdu.BodyWith.TheVariants as bodies
use Rattle.ill_values.specs.declared.apdu_type.ApduType.{ApduType}
use Rattle.ill_values.specs.declared.apdu_type.ApduType.TheVariants.{IllRequest, Shipped, IllAnswer, ConditionalReply, Cancel}
use Rattle.ill_values.specs.declared.apdu_type.ApduType.TheVariants.{CancelReply, Received, Recall, Returned, CheckedIn, Overdue}
use Rattle.ill_values.specs.declared.apdu_type.ApduType.TheVariants.{Renew, RenewAnswer, Expired}
use Rattle.ill_values.specs.Names.{named_by}

-- Lists the fourteen types of APDU.
abbrev pub all_types : List ApduType
all_types =
    IllRequest ∷ Shipped ∷ IllAnswer ∷ ConditionalReply ∷ Cancel ∷ CancelReply ∷ Received ∷ Recall
    ∷ Returned ∷ CheckedIn ∷ Overdue ∷ Renew ∷ RenewAnswer ∷ Expired ∷ []

-- Returns the type of a body.
abbrev pub type_of : {I : Type 0} → BodyWith I → ApduType
type_of (bodies.IllRequest expiry item) = IllRequest
type_of (bodies.Shipped due) = Shipped
type_of (bodies.IllAnswer result) = IllAnswer
type_of (bodies.ConditionalReply answers is_yes) = ConditionalReply
type_of bodies.Cancel = Cancel
type_of (bodies.CancelReply answers is_yes) = CancelReply
type_of bodies.Received = Received
type_of bodies.Recall = Recall
type_of bodies.Returned = Returned
type_of bodies.CheckedIn = CheckedIn
type_of (bodies.Overdue due) = Overdue
type_of (bodies.Renew wished) = Renew
type_of (bodies.RenewAnswer answers granted) = RenewAnswer
type_of bodies.Expired = Expired

-- Returns the name of a type.
abbrev pub apdu_type_name : ApduType → List ℕ
apdu_type_name IllRequest = codes "ILL-Request"
apdu_type_name Shipped = codes "Shipped"
apdu_type_name IllAnswer = codes "ILL-Answer"
apdu_type_name ConditionalReply = codes "Conditional-Reply"
apdu_type_name Cancel = codes "Cancel"
apdu_type_name CancelReply = codes "Cancel-Reply"
apdu_type_name Received = codes "Received"
apdu_type_name Recall = codes "Recall"
apdu_type_name Returned = codes "Returned"
apdu_type_name CheckedIn = codes "Checked-In"
apdu_type_name Overdue = codes "Overdue"
apdu_type_name Renew = codes "Renew"
apdu_type_name RenewAnswer = codes "Renew-Answer"
apdu_type_name Expired = codes "Expired"

-- Returns the type whose name is the text, or `None`.
abbrev pub apdu_type_named : List ℕ → Option ApduType
apdu_type_named = named_by apdu_type_name all_types

-- Returns the name of the type of a body.
abbrev pub type_name : {I : Type 0} → BodyWith I → List ℕ
type_name body = apdu_type_name (type_of body)
