-- Proves the clause `prefix` of `encoding::push_body`: at an error, a proper prefix of the further fields was appended.
-- Complete fields followed by a proper prefix of the next field are a proper prefix of all fields.
use Rattle.std.proofs.Common.{OnErr, ℕ, List, sym, subst}
use Rattle.ill_values.specs.Body.{Body}
use Rattle.ill_der.specs.Adding.{AddsPrefix}
use Rattle.ill_der.specs.Contents.{date}
use Rattle.ill_der.specs.Format.{element, optional}
use Rattle.ill_der.specs.ShortForm.{encode_body}
use Rattle.ill_der.proofs.AddingLemmas.{adds_first, adds_last, at_err}
use Rattle.ill_der.proofs.encoding.push_body.Goals as goal

-- If memory ran out in `push_optional_date`, a proper prefix of the expiry date was appended.
pub returns-in_err-push_optional_date-in-IllRequest-clause-prefix :
    goal.returns-in_err-push_optional_date-in-IllRequest-clause-prefix
returns-in_err-push_optional_date-in-IllRequest-clause-prefix c =
    let result = c.from_residual.result in
    let old = c.args.bytes.now.items in
    let new = c.push_optional_date.new.bytes.items in
    let expiry = (optional 133 date).encode c.in-IllRequest.expiry in
    subst (λ (body : Body). OnErr result (AddsPrefix old new (encode_body body))) (sym c.in-IllRequest.is)
    (at_err result (adds_first old new expiry (element 134 c.in-IllRequest.item)
    c.in_err-push_optional_date-in-IllRequest.ensures.prefix))

-- If memory ran out in `push_element`, the expiry date and a proper prefix of the item were appended.
pub returns-in_ok-push_optional_date-in-IllRequest-clause-prefix :
    goal.returns-in_ok-push_optional_date-in-IllRequest-clause-prefix
returns-in_ok-push_optional_date-in-IllRequest-clause-prefix c =
    let result = c.push_element.result in
    let old = c.args.bytes.now.items in
    let middle = c.push_optional_date.new.bytes.items in
    let new = c.push_element.new.bytes.items in
    let expiry = (optional 133 date).encode c.in-IllRequest.expiry in
    let item = subst (λ (text : List ℕ). OnErr result (AddsPrefix middle new (element 134 text))) c.text.ensures.bytes
    c.push_element.ensures.prefix in
    subst (λ (body : Body). OnErr result (AddsPrefix old new (encode_body body))) (sym c.in-IllRequest.is)
    (adds_last result old middle new expiry (element 134 c.in-IllRequest.item)
    c.in_ok-push_optional_date-in-IllRequest.ensures.bytes item)
