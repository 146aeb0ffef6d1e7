-- The messages that came in a transaction and were kept, each once.
use Rattle.std.specs.Prelude.{ℕ, Bool, not, ◌&&◌, if◌then◌else◌, List, [], ◌∷◌, ◌++◌, fold, Option, Some, None}
use Rattle.std.specs.List.{list_any}
use Rattle.std.specs.Str.{bytes_eq}
use Rattle.ill_values.specs.TxnId.{Qualifiers}
use Rattle.ill_values.specs.declared.apdu.Apdu.{Apdu}
use Rattle.ill_der.specs.ShortForm.{encoding}
use Rattle.ill_core.specs.Issued.{is_same_txn}
use Rattle.ill_text.specs.Keys.{loan_key}

-- Returns true if `a` and `b` have equal bytes.
abbrev pub is_same : Apdu → Apdu → Bool
is_same a b = bytes_eq (encoding a) (encoding b)

-- Returns true if a message of `kept` has the bytes of `a`.
abbrev pub is_among : List Apdu → Apdu → Bool
is_among kept a = list_any (λ b. is_same b a) kept

-- Returns `kept`, and `a` at its end if `a` is of the transaction `txn` and `kept` lacks it.
abbrev pub with_new : Qualifiers → List Apdu → Apdu → List Apdu
with_new txn kept a = if is_same_txn a.txn txn && not (is_among kept a) then kept ++ a ∷ [] else kept

-- Returns the messages of the transaction `txn` in `came`, each once, in their order.
abbrev pub kept_of : Qualifiers → List Apdu → List Apdu
kept_of txn came = fold (with_new txn) [] came

-- ---- by their keys

-- Returns the key of the loan of `a`.
abbrev pub apdu_key : Apdu → Option (List ℕ)
apdu_key a = Some (loan_key a.txn)

-- Returns `kept` with the message at its end, if there is a message, it is of the transaction `txn` and `kept` lacks
-- it. Else returns `kept`.
abbrev pub found_with : Qualifiers → List Apdu → Option Apdu → List Apdu
found_with txn kept None = kept
found_with txn kept (Some a) = with_new txn kept a

-- As `found_with`, with the `place` at which the message was found, which does not matter. So `looked_up` can take it.
abbrev pub looks_kept : Qualifiers → List Apdu → (place : ℕ) → Option Apdu → List Apdu
looks_kept txn kept place found = found_with txn kept found
