-- Defines the list of the APDUs that a side has issued, and tests on it (this profile's own).
use Rattle.std.specs.Prelude.{◌≡◌, ℕ, zero, suc, ◌+◌, Bool, true, false, ◌&&◌, ◌==◌, nat_lt, List, [], ◌∷◌, ◌++◌, length}
use Rattle.std.specs.Prelude.{slice_get, Option, Some, None, Result, Ok, Err, if◌then◌else◌}
use Rattle.std.specs.List.{list_any, filter_map, last_or}
use Rattle.std.specs.Str.{bytes_eq}
use Rattle.ill_values.specs.TxnId.{Qualifiers}
use Rattle.ill_values.specs.declared.apdu.Apdu.{Apdu}
use Rattle.ill_values.specs.Body.{Body}
use Rattle.ill_values.specs.Day.{Date}
use Rattle.ill_values.specs.Bodies.{is_cancel, is_renew, is_end, grant_in, accepts}
use Rattle.ill_core.specs.declared.issued.Sought.{Sought}
use Rattle.ill_core.specs.declared.issued.Sought.TheVariants.{Accepted, CancelNumber, RenewNumber, EndNumber}
use Rattle.ill_core.specs.declared.refusal.Refusal.{Refusal}
use Rattle.ill_core.specs.declared.refusal.Refusal.TheVariants.{OtherTransaction, WrongRole, NumbersUsed}

-- A transaction, and the APDUs that a side has issued in it, in their order.
pub record IssuedList : Type 0 where
  pub txn : Qualifiers
  pub apdus : List Apdu

-- Returns true if the group qualifiers are equal, and the transaction qualifiers too.
abbrev pub is_same_txn : Qualifiers → Qualifiers → Bool
is_same_txn a b = bytes_eq a.group b.group && bytes_eq a.transaction b.transaction

-- Returns true if every APDU belongs to `txn`, and the numbers run from `number` upwards in steps of one.
unfoldable pub are_numbered : Qualifiers → ℕ → List Apdu → Bool
are_numbered txn number [] = true
are_numbered txn number (a ∷ apdus) =
    (is_same_txn a.txn txn && (a.number == number)) && are_numbered txn (number + 1) apdus

-- Returns the n-th APDU of the list, counted from 1, or `None` if there is none.
abbrev pub message : List Apdu → ℕ → Option Apdu
message apdus zero = None
message apdus (suc n) = slice_get apdus n

-- Returns true if the list is empty.
abbrev pub is_none : List Apdu → Bool
is_none [] = true
is_none (a ∷ apdus) = false

-- Returns true if `says` holds of the body of at least one APDU.
abbrev pub has_message_with : (Body → Bool) → List Apdu → Bool
has_message_with says apdus = list_any (λ a. says a.body) apdus

-- Returns true if there is an APDU, and `says` holds of its body.
abbrev pub is_there : (Body → Bool) → Option Apdu → Bool
is_there says None = false
is_there says (Some a) = says a.body

-- Returns true if there is a message `n`, and `says` holds of its body.
abbrev pub is_message_with : (Body → Bool) → List Apdu → ℕ → Bool
is_message_with says apdus n = is_there says (message apdus n)

-- Returns the last value that `f` gives for the APDUs, or `None` if it gives none.
abbrev pub last_of : {X : Type 0} → (Apdu → Option X) → List Apdu → Option X
last_of f apdus = last_or None (filter_map f apdus)

-- Returns the due date that an APDU grants, or `None` if it is neither a Shipped nor a Renew-Answer yes.
abbrev pub granted_day : Apdu → Option Date
granted_day a = grant_in a.body

-- Returns the number of the conditions that an APDU accepts, or `None` if it is no Conditional-Reply yes.
abbrev pub accepted_in : Apdu → Option ℕ
accepted_in a = accepts a.body

-- Returns the number of an APDU if it is a Cancel, and else `None`.
abbrev pub number_of_cancel : Apdu → Option ℕ
number_of_cancel a = if is_cancel a.body then Some a.number else None

-- Returns the number of an APDU if it is a Renew, and else `None`.
abbrev pub number_of_renew : Apdu → Option ℕ
number_of_renew a = if is_renew a.body then Some a.number else None

-- Returns the number of an APDU if it ends the request, and else `None`.
abbrev pub number_of_end : Apdu → Option ℕ
number_of_end a = if is_end a.body then Some a.number else None

-- Returns the number that is sought in an APDU, or `None` if the APDU lacks it.
abbrev pub sought_number : Sought → Apdu → Option ℕ
sought_number Accepted a = accepted_in a
sought_number CancelNumber a = number_of_cancel a
sought_number RenewNumber a = number_of_renew a
sought_number EndNumber a = number_of_end a

-- Returns the number of the next APDU, or `NumbersUsed` if 255 are issued.
abbrev pub next_number : List Apdu → Result ℕ Refusal
next_number apdus = if nat_lt (length apdus) 255 then Ok (length apdus + 1) else Err NumbersUsed

-- Returns the next APDU of the list: it belongs to `txn`, and has the next number and `body`.
abbrev pub next_apdu : Qualifiers → List Apdu → Body → Apdu
next_apdu txn apdus body = record { txn = txn; number = length apdus + 1; body = body }

-- Returns the list `apdus` with the next APDU at the end. The next APDU belongs to `txn`, and has the next number and
-- `body`.
abbrev pub with_next : Qualifiers → List Apdu → Body → List Apdu
with_next txn apdus body = apdus ++ next_apdu txn apdus body ∷ []

-- The list `new` is `old` with one more APDU, which belongs to `txn` and has the next number.
abbrev pub IssuesNext : Qualifiers → List Apdu → List Apdu → Type 0
IssuesNext txn old new = (body : Body) × (new ≡ with_next txn old body)

-- Returns the refusal of APDU `a` before the table is asked, or `None`. The refusal is `OtherTransaction` if `a` is not
-- of `txn`, and else `WrongRole` if `is_own` is true. `is_own` says that the side's own role issues APDUs of this type.
abbrev pub first_refusal : Qualifiers → Bool → Apdu → Option Refusal
first_refusal txn is_own a =
    if is_same_txn a.txn txn then (if is_own then Some WrongRole else None)
    else Some OtherTransaction

-- The result is the refusal if there is one, and else `Ok`.
abbrev pub Admits : Option Refusal → Result Unit Refusal → Type 0
Admits None (Ok done) = Unit
Admits None (Err refusal) = ⊥
Admits (Some refused) (Ok done) = ⊥
Admits (Some refused) (Err refusal) = refusal ≡ refused
