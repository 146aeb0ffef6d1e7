-- Proves the clause `prefix` of `encoding::encode_onto`: at an error, a proper prefix of the encoding was appended.
-- Complete parts followed by a proper prefix of the next part are a proper prefix of the encoding.
use Rattle.std.proofs.Common.{rules, ◌≡◌, ℕ, List, ◌∷◌, ◌++◌, length}
use Rattle.ill_values.specs.declared.apdu.Apdu.{Apdu}
use Rattle.ill_der.specs.Adding.{AddsPrefix}
use Rattle.ill_values.specs.Types.{type_of}
use Rattle.ill_der.specs.Types.{identifier_of}
use Rattle.ill_der.specs.Format.{element, length_octets}
use Rattle.ill_der.specs.ShortForm.{head_of, encode_body, contents_of, encoding}
use Rattle.ill_der.proofs.AddingLemmas.{adds_first, adds_second, adds_last, at_err}
use Rattle.ill_der.proofs.encoding.encode_onto.Goals as goal

-- Returns the identifier and the length of an APDU.
abbrev start_of : Apdu → List ℕ
start_of apdu = identifier_of (type_of apdu.body) ∷ length_octets (length (contents_of apdu))

-- If memory ran out in `push_start`, a proper prefix of the identifier and the length was appended.
pub returns-in_err-push_start-clause-prefix : goal.returns-in_err-push_start-clause-prefix
unfolding encoding element
returns-in_err-push_start-clause-prefix c =
    let apdu = c.args.apdu.now in
    let start : AddsPrefix c.args.bytes.now.items c.push_start.new.bytes.items (start_of apdu) = search rules in
    at_err c.from_residual.result (adds_first _ _ (start_of apdu) (contents_of apdu) start)

-- If memory ran out in `push_head`, the start and a proper prefix of the head were appended.
pub returns-in_err-push_head-clause-prefix : goal.returns-in_err-push_head-clause-prefix
unfolding encoding element
returns-in_err-push_head-clause-prefix c =
    let apdu = c.args.apdu.now in
    let middle = c.push_start.new.bytes.items in
    let start : middle ≡ c.args.bytes.now.items ++ start_of apdu = search rules in
    at_err c.from_residual-in_err-push_head.result
    (adds_second _ middle _ (start_of apdu) (contents_of apdu) start
    (adds_first _ _ (head_of apdu) (encode_body apdu.body) c.in_err-push_head.ensures.prefix))

-- If memory ran out in `push_body`, the start, the head and a proper prefix of the further fields were appended.
pub returns-clause-prefix : goal.returns-clause-prefix
unfolding encoding element
returns-clause-prefix c =
    let apdu = c.args.apdu.now in
    let result = c.push_body.result in
    let first = c.push_start.new.bytes.items in
    let second = c.push_head.new.bytes.items in
    let start : first ≡ c.args.bytes.now.items ++ start_of apdu = search rules in
    adds_last result _ first _ (start_of apdu) (contents_of apdu) start
    (adds_last result first second _ (head_of apdu) (encode_body apdu.body) c.in_ok-push_head.ensures.bytes
    c.push_body.ensures.prefix)
