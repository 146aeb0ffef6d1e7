-- An example: a loan that was recalled, and whose requester has used all its numbers. This is this profile's own.
use Rattle.std.specs.Prelude.{ℕ, zero, suc, ◌+◌, false, true, List, [], ◌∷◌, ◌++◌, Some, None, codes}
use Rattle.ill_values.specs.Day.{Date}
use Rattle.ill_values.specs.TxnId.{Qualifiers}
use Rattle.ill_values.specs.declared.apdu.Apdu.{Apdu}
use Rattle.ill_values.specs.Body.{Body}
use Rattle.ill_values.specs.declared.apdu.BodyWith.TheVariants as types
use Rattle.ill_core.specs.declared.state.State.TheVariants as states
use Rattle.ill_core.specs.Requester.{RequesterRecord, requester_of}
use Rattle.ill_core.specs.Responder.{ResponderRecord, responder_of}

-- The transaction of the example.
abbrev pub some_txn : Qualifiers
some_txn = record { group = codes "G1"; transaction = codes "T1" }

-- The due date of the item.
abbrev pub some_day : Date
some_day = record { year = 2025; month = 3; day = 15 }

-- Returns the message with this number and this body, in the transaction of the example.
abbrev pub message_of : ℕ → Body → Apdu
message_of number body = record { txn = some_txn; number = number; body = body }

-- Returns `count` Renews, from `number` on.
unfoldable pub renews_from : ℕ → ℕ → List Apdu
renews_from number zero = []
renews_from number (suc count) = message_of number (types.Renew None) ∷ renews_from (number + 1) count

-- Returns `count` refusals of renewals, from `number` on. Each answers the Renew with the number after its own.
unfoldable pub refusals_from : ℕ → ℕ → List Apdu
refusals_from number zero = []
refusals_from number (suc count) =
    message_of number (types.RenewAnswer (number + 1) None) ∷ refusals_from (number + 1) count

-- The request of the loan.
abbrev pub some_request : Apdu
some_request = message_of 1 (types.IllRequest None (codes "a book"))

-- The requester has asked for the item, received it, and asked 253 times to keep it longer. Then it was recalled.
abbrev pub last_requester : RequesterRecord
last_requester =
    requester_of some_txn states.Recall None false (Some some_day)
    (some_request ∷ message_of 2 types.Received ∷ renews_from 3 253)

-- The responder has shipped the item, refused each renewal, and recalled the item.
abbrev pub last_responder : ResponderRecord
last_responder =
    responder_of some_txn states.Recall None None (Some 255) true (Some some_request)
    (message_of 1 (types.Shipped some_day) ∷ (refusals_from 2 253 ++ message_of 255 types.Recall ∷ []))
