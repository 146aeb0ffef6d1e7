-- States the ranges of the parts of an APDU.
use Rattle.std.specs.Prelude.{ℕ, ◌≤◌, IfSome}
use Rattle.ill_values.specs.declared.apdu.Apdu.{Apdu}
use Rattle.ill_values.specs.Body.{Body}
use Rattle.ill_values.specs.declared.apdu.BodyWith.TheVariants.{IllRequest, IllAnswer, ConditionalReply, Cancel, CancelReply}
use Rattle.ill_values.specs.declared.apdu.BodyWith.TheVariants.{Shipped, Received, Recall, Returned, CheckedIn, Overdue, Renew}
use Rattle.ill_values.specs.declared.apdu.BodyWith.TheVariants.{RenewAnswer, Expired}
use Rattle.ill_values.specs.Day.{IsDate}
use Rattle.ill_values.specs.Text.{IsItem}
use Rattle.ill_values.specs.TxnId.{AreQualifiers}

-- `n` is the number of a message: 1 to 255.
abbrev pub IsNumber : ℕ → Type 0
IsNumber n = (1 ≤ n) × (n ≤ 255)

-- Each field of the body is in range.
abbrev pub IsBody : Body → Type 0
IsBody (IllRequest expiry item) = IfSome expiry IsDate × IsItem item
IsBody (IllAnswer result) = Unit {0}
IsBody (ConditionalReply answers is_yes) = IsNumber answers
IsBody Cancel = Unit {0}
IsBody (CancelReply answers is_yes) = IsNumber answers
IsBody (Shipped due) = IsDate due
IsBody Received = Unit {0}
IsBody Recall = Unit {0}
IsBody Returned = Unit {0}
IsBody CheckedIn = Unit {0}
IsBody (Overdue due) = IsDate due
IsBody (Renew wished) = IfSome wished IsDate
IsBody (RenewAnswer answers granted) = IsNumber answers × IfSome granted IsDate
IsBody Expired = Unit {0}

-- Each part of `apdu` is in range. A value of the type `Apdu` may have any natural number as its number, and any list
-- as a text. So a clause on all APDUs needs this premise.
pub record IsApdu (apdu : Apdu) : Type 0 where
  pub txn : AreQualifiers apdu.txn
  pub number : IsNumber apdu.number
  pub body : IsBody apdu.body
