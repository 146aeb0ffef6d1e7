-- Proves the clause `prefix` of `encoding::push_head`: at an error, a proper prefix of the head was appended.
-- Complete fields followed by a proper prefix of the next field are a proper prefix of the head.
use Rattle.std.proofs.Common.{ℕ, List, [], ◌∷◌, ◌++◌}
use Rattle.ill_values.specs.declared.apdu.Apdu.{Apdu}
use Rattle.ill_der.specs.Contents.{number_octets}
use Rattle.ill_der.specs.Format.{element}
use Rattle.ill_der.specs.ShortForm.{txn_id}
use Rattle.ill_der.proofs.AddingLemmas.{adds_first, adds_second, adds_last, at_err}
use Rattle.ill_der.proofs.encoding.push_head.Goals as goal

-- Returns the encoding of the version.
abbrev version_field : List ℕ
version_field = element 128 (1 ∷ [])

-- Returns the encoding of the transaction id.
abbrev txn_field : Apdu → List ℕ
txn_field apdu = txn_id.encode (apdu.txn.group, apdu.txn.transaction)

-- Returns the encoding of the number.
abbrev number_field : Apdu → List ℕ
number_field apdu = element 130 (number_octets apdu.number)

-- If memory ran out in `push_element`, a proper prefix of the version was appended.
pub returns-in_err-push_element-clause-prefix : goal.returns-in_err-push_element-clause-prefix
returns-in_err-push_element-clause-prefix c =
    let apdu = c.args.apdu.now in
    at_err c.from_residual.result (adds_first _ _ version_field (txn_field apdu ++ number_field apdu)
    c.in_err-push_element.ensures.prefix)

-- If memory ran out in `push_id`, the version and a proper prefix of the transaction id were appended.
pub returns-in_err-push_id-clause-prefix : goal.returns-in_err-push_id-clause-prefix
returns-in_err-push_id-clause-prefix c =
    let apdu = c.args.apdu.now in
    at_err c.from_residual-in_err-push_id.result
    (adds_second _ _ _ version_field (txn_field apdu ++ number_field apdu) c.in_ok-push_element.ensures.bytes
    (adds_first _ _ (txn_field apdu) (number_field apdu) c.in_err-push_id.ensures.prefix))

-- If memory ran out in `push_number`, the version, the id and a proper prefix of the number were appended.
pub returns-clause-prefix : goal.returns-clause-prefix
returns-clause-prefix c =
    let apdu = c.args.apdu.now in
    let result = c.push_number.result in
    adds_last result _ _ _ version_field (txn_field apdu ++ number_field apdu) c.in_ok-push_element.ensures.bytes
    (adds_last result _ _ _ (txn_field apdu) (number_field apdu) c.in_ok-push_id.ensures.bytes c.push_number.ensures.prefix)
