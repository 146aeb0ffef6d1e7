-- Proves the clause `prefix` of `encoding::push_id`: at an error, a proper prefix of the id was appended.
-- Complete parts followed by a proper prefix of the next part are a proper prefix of the id.
use Rattle.std.proofs.Common.{rules, ◌≡◌, ℕ, List, ◌∷◌, ◌++◌, length, OnErr}
use Rattle.ill_values.specs.TxnId.{Qualifiers}
use Rattle.ill_der.specs.Adding.{AddsPrefix}
use Rattle.ill_der.specs.Format.{element, length_octets}
use Rattle.ill_der.proofs.AddingLemmas.{adds_first, adds_second, adds_last, at_err}
use Rattle.ill_der.proofs.encoding.push_id.Goals as goal

-- Returns the encoding of both qualifiers, each an element.
abbrev qualifiers_of : Qualifiers → List ℕ
qualifiers_of id = element 129 id.group ++ element 130 id.transaction

-- Returns the identifier and the length of the transaction id.
abbrev start_of : Qualifiers → List ℕ
start_of id = 161 ∷ length_octets (length (qualifiers_of id))

-- If memory ran out in `push_start`, a proper prefix of the identifier and the length was appended.
pub returns-in_err-push_start-clause-prefix : goal.returns-in_err-push_start-clause-prefix
unfolding element
returns-in_err-push_start-clause-prefix c =
    let id = c.args.id.now in
    let start : AddsPrefix c.args.bytes.now.items c.push_start.new.bytes.items (start_of id) = search rules in
    at_err c.from_residual.result (adds_first _ _ (start_of id) (qualifiers_of id) start)

-- If memory ran out in the first `push_element`, the start and a proper prefix of the group qualifier were appended.
pub returns-in_err-push_element-clause-prefix : goal.returns-in_err-push_element-clause-prefix
unfolding element
returns-in_err-push_element-clause-prefix c =
    let id = c.args.id.now in
    let middle = c.push_start.new.bytes.items in
    let start : middle ≡ c.args.bytes.now.items ++ start_of id = search rules in
    let group : AddsPrefix middle c.push_element.new.bytes.items (element 129 id.group) = search rules in
    at_err c.from_residual-in_err-push_element.result
    (adds_second _ middle _ (start_of id) (qualifiers_of id) start
    (adds_first _ _ (element 129 id.group) (element 130 id.transaction) group))

-- If memory ran out in the second `push_element`, the start, the group qualifier and a proper prefix of the transaction
-- qualifier were appended.
pub returns-clause-prefix : goal.returns-clause-prefix
unfolding element
returns-clause-prefix c =
    let id = c.args.id.now in
    let result = c.push_element-2.result in
    let first = c.push_start.new.bytes.items in
    let second = c.push_element.new.bytes.items in
    let start : first ≡ c.args.bytes.now.items ++ start_of id = search rules in
    let group : second ≡ first ++ element 129 id.group = search rules in
    let transaction : OnErr result (AddsPrefix second c.push_element-2.new.bytes.items (element 130 id.transaction)) =
    search rules in
    adds_last result _ first _ (start_of id) (qualifiers_of id) start
    (adds_last result first second _ (element 129 id.group) (element 130 id.transaction) group transaction)
